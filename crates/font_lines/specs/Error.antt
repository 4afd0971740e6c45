-- The answer to a line, by the program's own rule: a text, or an error, which is printed as its
-- number.
use Rattle.std.specs.Prelude.{◌≡◌, ℕ, List, ◌++◌, codes, decimal, Result, Ok, Err, ⊤}
use Rattle.font_types.specs.DecimalFault.{DecimalFault}
use Rattle.font_types.specs.DecimalFault.TheVariants.{Syntax, OutOfRange as TooFar}
use Rattle.font_lines.specs.declared.error.LineError.TheVariants.{UnknownCommand, WordCount, NotHexadecimal, NotDecimal}
use Rattle.font_lines.specs.declared.error.LineError.TheVariants.{OutOfRange, NotInteger}
use Rattle.font_lines.specs.declared.error.CommandError.TheVariants.{Memory, Line}
use Rattle.font_lines.specs.{declared.error.LineError.LineError, declared.error.CommandError.CommandError}

-- an answer: a text, or why there is none
abbrev pub Answer : Type 0
Answer = Result (List ℕ) LineError

-- the number of an error
abbrev pub error_number : LineError → ℕ
error_number UnknownCommand = 1
error_number WordCount = 2
error_number NotHexadecimal = 3
error_number NotDecimal = 4
error_number OutOfRange = 5
error_number NotInteger = 6

-- the error of a word that is no decimal of its type
abbrev pub line_error_of : DecimalFault → LineError
line_error_of Syntax = NotDecimal
line_error_of TooFar = OutOfRange

-- the text of an answer
abbrev pub answer_text : Answer → List ℕ
answer_text (Ok text) = text
answer_text (Err error) = codes "error " ++ decimal (error_number error)

-- the output has grown by the text of an answer with this property
pub record Grows (IsRight : Answer → Type 0) (old new : List ℕ) : Type 0 where
  pub text : List ℕ
  pub is_right : IsRight (Ok text)
  pub grown : new ≡ old ++ text

-- How a command returns whose answer has this property: the output has grown by its text, or there was no
-- memory for it. An error is returned, and leaves the output unchanged.
abbrev pub IsGiven : (Answer → Type 0) → List ℕ → List ℕ → Result (Unit {0}) CommandError → Type 0
IsGiven IsRight old new (Ok done) = Grows IsRight old new
IsGiven IsRight old new (Err (Memory error)) = ⊤
IsGiven IsRight old new (Err (Line error)) = IsRight (Err error) × (new ≡ old)

-- the outcome and the output agree with an answer that has this property
pub record GivesAnswer (IsRight : Answer → Type 0) (old new : List ℕ)
    (outcome : Result (Unit {0}) CommandError) : Type 0 where
  pub is_given : IsGiven IsRight old new outcome

-- if a command returns the error of a line, the predicate holds of it
abbrev pub OnLineError : CommandError → (LineError → Type 0) → Type 0
OnLineError (Memory error) Holds = ⊤
OnLineError (Line error) Holds = Holds error
