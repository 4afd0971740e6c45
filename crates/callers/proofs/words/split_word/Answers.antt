use Rattle.std.proofs.Common.{◌≡◌, ◌∙◌, refl, sym, ap, suc, ◌<◌, ◌+◌, [], ◌∷◌, ◌++◌, length, take, drop, arith}
use Rattle.std.proofs.Common.{append_assoc}
use Rattle.std.proofs.lemmas.List.{take_at, drop_at, take_rest, length-append, drop_more, take-append-drop}
use Rattle.callers.proofs.Spaces.{end_is, before_end}
use Rattle.callers.proofs.words.split_word.Goals as goal

pub returns-then-end-text : goal.returns-then-end-text
returns-then-end-text c =
    let end = c.word_end-end.result in
    let text = c.args.text.now in
    let within : end < length text = c.if-end-text.true in
    record {
      parts =
          let rest : drop end text ≡ 32 ∷ drop (end + 1) text =
          drop_more text end 0 within ∙ ap (λ b. b ∷ drop (end + 1) text) (c.word_end-end.ensures.there within 0) in
          sym (take-append-drop end text)
          ∙ ap (λ xs. take end text ++ xs) (rest ∙ ap (λ xs. 32 ∷ xs) (sym (take_rest text (end + 1))));
      no_space = before_end text end c.word_end-end.ensures;
      word = λ word rest no_space split.
          let n = end_is text word rest end c.word_end-end.ensures no_space split in
          let regrouped : text ≡ (word ++ (32 ∷ [])) ++ rest = split ∙ sym (append_assoc word (32 ∷ []) rest) in (
            refl,
            (
              ap (take end) split ∙ take_at word (32 ∷ rest) end (sym n),
              take_rest text (end + 1) ∙ ap (drop (end + 1)) regrouped
                  ∙ drop_at (word ++ (32 ∷ [])) rest (end + 1) (length-append word (32 ∷ []) ∙ omega (arith, n)),
            ),
          );
    }

pub returns-else-end-text : goal.returns-else-end-text
returns-else-end-text c = record {
  parts = tt;
  no_space = tt;
  word = λ word rest no_space split.
      let n = end_is c.args.text.now word rest c.word_end-end.result c.word_end-end.ensures no_space split in
      let long : length c.args.text.now ≡ length word + suc (length rest) =
      ap length split ∙ length-append word (32 ∷ rest) in
      (absurd (omega (arith, n, long, c.if-end-text.false)), tt);
}
