-- Answering block after block, where a line can begin in one block and end in another.
use Rattle.std.proofs.Common.{◌≡◌, ◌≢◌, ℕ, ◌+◌, ◌<◌, List, [], ◌∷◌, ◌++◌, sym, ap, refl, ◌∙◌, append_assoc, append-nil}
use Rattle.std.proofs.Common.{Option, length, arith, take, drop, inl, inr, ◌-◌, ◌*◌, ◌^◌, length-append}
use Rattle.std.proofs.{KnownBytes.Consumes-trans, KnownBytes.Consumes-nil, lemmas.List.take-append-drop}
use Rattle.std.proofs.{lemmas.List.take_more, lemmas.List.Elements.All-append}
use Rattle.std.specs.Io.KnownBytes.{Consumes, IsAtEnd}
use Rattle.font_lines.specs.Serve.{AnswersAll, AnswersEnded, AreEnded, HasNoEnd, IsLastEnd}
use Rattle.font_lines.specs.{Answers.Answers, Answers.AppendsAnswers, Answers.Laws.answers_in_turn, Text.lines_of}
use Rattle.font_lines.proofs.Lines.{first_line}

-- no line has no answer
no_answers : (input text : List ℕ) → input ≡ [] → Answers input text → text ≡ []
unfolding lines_of
no_answers input text none answers = rw none at answers

-- the answers to ended lines, and then those to other bytes
ended_in_turn : (ended second text more : List ℕ) → AreEnded ended → Answers ended text → Answers second more
    → Answers (ended ++ second) (text ++ more)
ended_in_turn ended second text more (inl none) first then_more =
    rw (none, no_answers ended text none first) then_more
ended_in_turn ended second text more (inr (front, same)) first then_more =
    rw (same, append_assoc front (10 ∷ []) second)
    (answers_in_turn front second text more (rw same at first) then_more)

-- The output answers the input before `begun`. The answers to `begun`, and to whatever follows it, complete the output.
pub record IsAnsweredSoFar (left left' : Option (List ℕ)) (begun output : List ℕ) : Type 0 where
  pub input : List ℕ
  pub read : Consumes left left' input
  pub completes : (more rest : List ℕ) → Answers (begun ++ more) rest → Answers (input ++ more) (output ++ rest)

pub answered_nothing : (left : Option (List ℕ)) → IsAnsweredSoFar left left [] []
answered_nothing left = record { input = []; read = Consumes-nil left; completes = λ more rest given. given }

-- one block more, of which the lines that end are answered
pub answered_block : (left left' left'' : Option (List ℕ)) (begun block begun' output output' : List ℕ)
    → IsAnsweredSoFar left left' begun output → Consumes left' left'' block
    → AnswersEnded (begun ++ block) begun' output output' → IsAnsweredSoFar left left'' begun' output'
answered_block left left' left'' begun block begun' output output' so_far next one = record {
  input = so_far.input ++ block;
  read = Consumes-trans left left' left'' so_far.input block so_far.read next;
  completes = λ more rest given.
      let text = one.answers.text in
      let both : Answers ((begun ++ block) ++ more) (text ++ rest) =
      rw (one.parts, append_assoc one.ended begun' more)
      (ended_in_turn one.ended (begun' ++ more) text rest one.are_ended one.answers.answers given) in
      rw (append_assoc so_far.input block more, one.answers.appended, append_assoc output text rest)
      (so_far.completes (block ++ more) (text ++ rest) (rw (append_assoc begun block more) at both));
}

-- at the end, the line that has begun is answered too
pub answered_to_the_end : (left left' left'' : Option (List ℕ)) (begun output output' : List ℕ)
    → IsAnsweredSoFar left left' begun output → Consumes left' left'' [] → IsAtEnd left''
    → AppendsAnswers begun output output' → AnswersAll left left'' output'
answered_to_the_end left left' left'' begun output output' so_far last ended one = record {
  input = so_far.input ++ [];
  read = Consumes-trans left left' left'' so_far.input [] so_far.read last;
  ended = ended;
  answers = rw one.appended (so_far.completes [] one.text (rw (append-nil begun) one.answers));
}

-- ---- one block
-- it has no line feed
pub no_line_ends : (begun block output : List ℕ) → HasNoEnd begun → HasNoEnd block
    → AnswersEnded (begun ++ block) (begun ++ block) output output
unfolding lines_of
no_line_ends begun block output one other = record {
  ended = [];
  parts = refl;
  are_ended = inl refl;
  answers = record { text = []; answers = refl; appended = sym (append-nil output) };
  is_begun = All-append (λ byte. byte ≢ 10) begun block one other;
}

-- it has a line feed, of which this is the last
pub some_line_ends : (begun block output output' : List ℕ) (at : ℕ) → IsLastEnd block at
    → AppendsAnswers (begun ++ take (at + 1) block) output output'
    → AnswersEnded (begun ++ block) (drop (at + 1) block) output output'
some_line_ends begun block output output' at last one = record {
  ended = begun ++ take (at + 1) block;
  parts = ap (λ z. begun ++ z) (sym (take-append-drop (at + 1) block)) ∙ sym (append_assoc begun _ _);
  are_ended = inr (
    begun ++ take at block,
    ap (λ z. begun ++ z) (take_more block at 0 last.inside ∙ ap (λ byte. take at block ++ byte ∷ []) last.here)
        ∙ sym (append_assoc begun (take at block) (10 ∷ [])),
  );
  answers = one;
  is_begun = last.rest;
}

-- ---- a block makes the output longer, or the line that has begun
ended_some : (front text : List ℕ) → Answers (front ++ 10 ∷ []) text → 0 < length text
ended_some front text answers =
    let some : 0 < length (front ++ 10 ∷ []) = rw (length-append front (10 ∷ [])) (omega arith) in
    let first = rw (first_line (front ++ 10 ∷ []) some) at answers in
    rw (first.joined, length-append first.text (10 ∷ first.rest)) (omega arith)

pub longer : (begun block begun' output output' : List ℕ) → AnswersEnded (begun ++ block) begun' output output'
    → 0 < length block → length output' < 2 ^ 64 → length begun' < 2 ^ 64
    → (2 ^ 64 - length output') * 2 ^ 65 + (2 ^ 64 - length begun')
    < (2 ^ 64 - length output) * 2 ^ 65 + (2 ^ 64 - length begun)
longer begun block begun' output output' one some room room' = elim one.are_ended [
  | inl none ↦
      let empty = no_answers one.ended one.answers.text none one.answers.answers in
      let same : output' ≡ output = one.answers.appended ∙ ap (λ z. output ++ z) empty ∙ append-nil output in
      let all : begun' ≡ begun ++ block = sym (one.parts ∙ ap (λ z. z ++ begun') none) in
      omega (arith, some, room, room', ap length same, ap length all ∙ length-append begun block)
  | inr ended ↦
      let more = ended_some ended.0 one.answers.text (rw ended.1 at one.answers.answers) in
      omega (
        arith,
        more,
        room,
        room',
        ap length one.answers.appended ∙ length-append output one.answers.text,
      )
]

pub ruleset steps_of_blocks = (answered_nothing, answered_block, answered_to_the_end)

pub ruleset steps_of_one_block = (no_line_ends, some_line_ends)
