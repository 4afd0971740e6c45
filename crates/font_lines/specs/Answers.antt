-- The program's output for an input, by the program's own rule. Lines are answered one by one: the answers to an input
-- that is cut after a line feed are those to the first part and then those to the second (lemma `answers_in_turn`).
pub mod Laws
use Rattle.std.specs.Prelude.{◌≡◌, ℕ, List, [], ◌∷◌, ◌++◌}
use Rattle.font_lines.specs.{Command.IsAnswer, Error.Answer, Error.answer_text, Text.lines_of, Text.words_of}

-- the text answers the line: it shows what is answered to the line's words
pub record AnswersLine (line text : List ℕ) : Type 0 where
  pub answer : Answer
  pub meant : IsAnswer (words_of line) answer
  pub shown : text ≡ answer_text answer

-- the text grows by an answer to the line
pub record AppendsAnswer (line old new : List ℕ) : Type 0 where
  pub text : List ℕ
  pub answers : AnswersLine line text
  pub appended : new ≡ old ++ text

-- the output begins with the answer to a line and a line feed, and goes on with `Rest`
pub record BeginsWithAnswer (line : List ℕ) (Rest : List ℕ → Type 0) (output : List ℕ)
    : Type 0 where
  pub text : List ℕ
  pub rest : List ℕ
  pub answers : AnswersLine line text
  pub others : Rest rest
  pub joined : output ≡ text ++ 10 ∷ rest

-- the output has an answer and a line feed for each line, in order, and nothing else
abbrev pub AnswersLines : List (List ℕ) → List ℕ → Type 0
AnswersLines [] output = output ≡ []
AnswersLines (line ∷ lines) output = BeginsWithAnswer line (AnswersLines lines) output

-- the output is the program's answer to the input
abbrev pub Answers : List ℕ → List ℕ → Type 0
Answers input output = AnswersLines (lines_of input) output

-- the text grows by the answers to the input
pub record AppendsAnswers (input old new : List ℕ) : Type 0 where
  pub text : List ℕ
  pub answers : Answers input text
  pub appended : new ≡ old ++ text
