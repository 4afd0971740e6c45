-- The numbers that the words of a line are read as, one after another: the first error is the result.
-- All of it is the program's own rule, but for what a decimal text is read as.
use Rattle.std.specs.Prelude.{◌≡◌, ℕ, ◌%◌, ◌==◌, if◌then◌else◌, List, [], ◌∷◌, length, drop, ℤ, Result, Ok, Err}
use Rattle.std.specs.Prelude.{MatchResult}
use Rattle.std.specs.Str.Parse.{IsNumeral, starts_with_minus, signed_digits_value}
use Rattle.std.specs.{Bool.MatchBool, Result.result_map_both}
use Rattle.font_types.specs.Fixed.{fixed_of, Fixed}
use Rattle.font_types.specs.{DecimalFault.DecimalFault, Operations.ParsesBits, Wrap.FitsBits}
use Rattle.font_lines.specs.declared.error.LineError.TheVariants.{WordCount, NotInteger, OutOfRange}
use Rattle.font_lines.specs.{Error.line_error_of, declared.error.LineError.LineError}

-- the value that is read first decides how reading goes on; if it is an error, that is the result
pub record AndThen {A B : Type 0} (IsFirst : Result A LineError → Type 0)
    (GoesOn : A → Result B LineError → Type 0) (result : Result B LineError) : Type 0 where
  pub first : Result A LineError
  pub is_first : IsFirst first
  pub goes_on : MatchResult first (λ value. GoesOn value result) (λ error. result ≡ Err error)

-- the values of a list, each read in turn
abbrev pub CollectsEach : {W T : Type 0} → (W → Result T LineError → Type 0) → List W
    → Result (List T) LineError → Type 0
CollectsEach reads [] result = result ≡ Ok []
CollectsEach reads (word ∷ words) result =
    AndThen (reads word)
    (λ value. AndThen (CollectsEach reads words) (λ values all. all ≡ Ok (value ∷ values))) result

-- the text is read as a number of w bits with f bits of fraction, and gives what `value` makes of
-- its bits
pub record ScansNumber {T : Type 0} (w f : ℕ) (value : ℤ → T) (text : List ℕ)
    (result : Result T LineError) : Type 0 where
  pub bits : Result ℤ DecimalFault
  pub read : ParsesBits w f text bits
  pub gives : result ≡ result_map_both value line_error_of bits

-- the `Fixed` that a word is read as
abbrev pub ScansFixed : List ℕ → Result Fixed LineError → Type 0
ScansFixed word result = ScansNumber 32 16 fixed_of word result

-- exactly n numbers: a wrong count is reported before any word
abbrev pub CollectsFixed : ℕ → List (List ℕ) → Result (List Fixed) LineError → Type 0
CollectsFixed n words result =
    MatchBool (length words == n) (CollectsEach ScansFixed words result) (result ≡ Err WordCount)

-- the bytes of a word after its `-`, or all of them
abbrev pub after_minus : List ℕ → List ℕ
after_minus word = if starts_with_minus word then drop 1 word else word

-- the word is an integer: an optional `-`, and one or more digits
abbrev pub IsInteger : List ℕ → Type 0
IsInteger word = IsNumeral 10 (after_minus word)

-- the integer of w bits that a word is read as
abbrev pub ScansInteger : ℕ → List ℕ → Result ℤ LineError → Type 0
ScansInteger w word (Ok n) = IsInteger word × (n ≡ signed_digits_value 10 word) × FitsBits w n
ScansInteger w word (Err NotInteger) = ¬ (IsInteger word)
ScansInteger w word (Err OutOfRange) = IsInteger word × ¬ (FitsBits w (signed_digits_value 10 word))
ScansInteger w word (Err other) = ⊥

-- the words two by two
abbrev pub pairs_of : {W : Type 0} → List W → List (W × W)
pairs_of [] = []
pairs_of (last ∷ []) = []
pairs_of (first ∷ second ∷ words) = (first, second) ∷ pairs_of words

-- the term that two words are read as: a scalar, and an integer of 32 bits
abbrev pub ScansTerm : List ℕ × List ℕ → Result (Fixed × ℤ) LineError → Type 0
ScansTerm words result =
    AndThen (ScansFixed words.0)
    (λ scalar. AndThen (ScansInteger 32 words.1) (λ delta term. term ≡ Ok (scalar, delta))) result

-- the terms that words are read as: an odd count is reported before any word
abbrev pub CollectsTerms : List (List ℕ) → Result (List (Fixed × ℤ)) LineError → Type 0
CollectsTerms words result =
    MatchBool (length words % 2 == 0)
    (CollectsEach ScansTerm (pairs_of words) result)
    (result ≡ Err WordCount)
