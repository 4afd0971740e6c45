-- The contract of a run.
use Rattle.std.specs.Prelude.{◌≡◌, ◌≢◌, ℕ, ◌<◌, ◌+◌, Bool, true, false, List, [], ◌∷◌, ◌++◌, codes, Option, Result, Ok}
use Rattle.std.specs.Prelude.{Err, All, length, drop, get_or, ◌⊎◌}
use Rattle.std.specs.Io.KnownBytes.{Appends, Consumes, IsAtEnd}
use Rattle.font_lines.specs.declared.serve.ServeFault.TheVariants.{Memory, Read, Write}
use Rattle.font_lines.specs.{declared.serve.ServeFault.ServeFault, Answers.Answers, Answers.AppendsAnswers}

-- All that a source had left was read, and the sink took the answers to it and nothing else. `left`
-- and `taken` are the bytes that are known of the source and the sink.
pub record Serves (left left' taken taken' : Option (List ℕ)) : Type 0 where
  pub input : List ℕ
  pub output : List ℕ
  pub read : Consumes left left' input
  pub ended : IsAtEnd left'
  pub answers : Answers input output
  pub written : Appends taken taken' output

-- All that a source had left was read, and the sink took only a beginning of the answers to it, and not the whole.
pub record ServesInPart (left left' taken taken' : Option (List ℕ)) : Type 0 where
  pub input : List ℕ
  pub output : List ℕ
  pub unwritten : List ℕ
  pub read : Consumes left left' input
  pub ended : IsAtEnd left'
  pub answers : Answers input (output ++ unwritten)
  pub partial : unwritten ≢ []
  pub written : Appends taken taken' output

-- all that a source had left was read, and the output answers it
pub record AnswersAll (left left' : Option (List ℕ)) (output : List ℕ) : Type 0 where
  pub input : List ℕ
  pub read : Consumes left left' input
  pub ended : IsAtEnd left'
  pub answers : Answers input output

-- no byte is a line feed
abbrev pub HasNoEnd : List ℕ → Type 0
HasNoEnd bytes = All (λ byte. byte ≢ 10) bytes

-- no byte, or bytes of which the last is a line feed
abbrev pub AreEnded : List ℕ → Type 0
AreEnded bytes = (bytes ≡ []) ⊎ ((front : List ℕ) × (bytes ≡ front ++ 10 ∷ []))

-- the last line feed of the bytes is at the index
pub record IsLastEnd (bytes : List ℕ) (at : ℕ) : Type 0 where
  pub inside : at < length bytes
  pub here : get_or bytes at 0 ≡ 10
  pub rest : HasNoEnd (drop (at + 1) bytes)

-- The output grows by the answers to the lines that end in the bytes. What is left is the beginning of a line, and
-- maybe empty.
pub record AnswersEnded (bytes begun old new : List ℕ) : Type 0 where
  pub ended : List ℕ
  pub parts : bytes ≡ ended ++ begun
  pub are_ended : AreEnded ended
  pub answers : AppendsAnswers ended old new
  pub is_begun : HasNoEnd begun

-- some of the bytes were written, from the first on, and not all
pub record WritesInPart (taken taken' : Option (List ℕ)) (bytes : List ℕ) : Type 0 where
  pub output : List ℕ
  pub unwritten : List ℕ
  pub parts : bytes ≡ output ++ unwritten
  pub partial : unwritten ≢ []
  pub written : Appends taken taken' output

-- out of memory with no failed read, or a failed read
abbrev pub ReadFails : ServeFault → Bool → Type 0
ReadFails Memory failed = failed ≡ false
ReadFails Read failed = failed ≡ true
ReadFails Write failed = ⊥

-- the exit status
abbrev pub status_of : Result (Unit {0}) ServeFault → ℕ
status_of (Ok done) = 0
status_of (Err fault) = 1

-- the text on standard error: nothing, or the names of the program and of the fault
abbrev pub message_of : Result (Unit {0}) ServeFault → List ℕ
message_of (Ok done) = []
message_of (Err Memory) = codes "fontval: memory" ++ 10 ∷ []
message_of (Err Read) = codes "fontval: read" ++ 10 ∷ []
message_of (Err Write) = codes "fontval: write" ++ 10 ∷ []
