-- Lines are answered one by one.
use Rattle.std.proofs.Common.{◌≡◌, refl, ℕ, ◌<◌, List, [], ◌∷◌, ◌++◌, length, append_assoc, arith}
use Rattle.std.proofs.lemmas.Grind.{common_steps}
use Rattle.std.specs.List.{onto_first}
use Rattle.font_lines.specs.{Text.lines_of, Answers.AnswersLines, Answers.Answers}

-- ---- the lines of an input that is cut after a line feed

onto_first-append : (byte : ℕ) (lines others : List (List ℕ)) → 0 < length lines
    → onto_first byte (lines ++ others) ≡ onto_first byte lines ++ others
onto_first-append byte [] others some = absurd (omega arith)
onto_first-append byte (line ∷ lines) others some = refl

some_line : (front : List ℕ) → 0 < length (lines_of (front ++ 10 ∷ []))
unfolding lines_of
some_line [] = omega arith
some_line (byte ∷ front) = grind (arith, common_steps, some_line front)

pub lines_of-append : (front second : List ℕ)
    → lines_of (front ++ 10 ∷ second) ≡ lines_of (front ++ 10 ∷ []) ++ lines_of second
unfolding lines_of
lines_of-append [] second = refl
lines_of-append (byte ∷ front) second = grind (arith, lines_of-append front second, onto_first-append, some_line front)

-- ---- the answers to its parts

answers_both : (lines others : List (List ℕ)) (a b : List ℕ) → AnswersLines lines a → AnswersLines others b
    → AnswersLines (lines ++ others) (a ++ b)
answers_both [] others a b none second = rw none second
answers_both (line ∷ lines) others a b first second = record {
  text = first.text;
  rest = first.rest ++ b;
  answers = first.answers;
  others = answers_both lines others first.rest b first.others second;
  joined = grind (arith, common_steps);
}

-- the answers to the first part, and then those to the second, are the answers to the whole
pub answers_in_turn : (front second a b : List ℕ) → Answers (front ++ 10 ∷ []) a → Answers second b
    → Answers (front ++ 10 ∷ second) (a ++ b)
answers_in_turn front second a b first then_b =
    rw (lines_of-append front second) (answers_both _ _ a b first then_b)
