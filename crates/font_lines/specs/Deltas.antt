-- Sums of deltas, as text. Each term is a scalar and an integer of font units.
use Rattle.std.specs.Prelude.{◌≡◌, ℕ, ◌%◌, ◌==◌, List, [], ◌∷◌, length, ℤ, option_map, Err}
use Rattle.std.specs.{Bool.MatchBool, Fmt.signed_decimal, Option.ok_or}
use Rattle.font_types.specs.{Delta.sum_in_range, Delta.varied, Shortest.shortest_text, Fixed.Fixed}
use Rattle.font_lines.specs.Numbers.{AndThen, CollectsTerms, ScansInteger}
use Rattle.font_lines.specs.Error.{Answer}
use Rattle.font_lines.specs.declared.error.LineError.TheVariants.{WordCount, OutOfRange}

-- the exact sum of terms, as it is printed
abbrev pub sum_of : List (Fixed × ℤ) → Answer
sum_of terms = ok_or (option_map (λ bits. shortest_text bits 16) (sum_in_range terms)) OutOfRange

-- a number of font units varied by that sum, in units of 2^-16
abbrev pub varied_answer : ℤ → List (Fixed × ℤ) → Answer
varied_answer units terms = ok_or (option_map signed_decimal (varied units terms)) OutOfRange

-- the answer to terms
abbrev pub ShowsSum : List (Fixed × ℤ) → Answer → Type 0
ShowsSum terms answer = answer ≡ sum_of terms

-- the answer to an integer of 16 bits and the words of terms: the number of the words is checked
-- first
abbrev pub Varies : List (List ℕ) → Answer → Type 0
Varies [] answer = answer ≡ Err WordCount
Varies (base ∷ words) answer =
    MatchBool (length words % 2 == 0)
    (AndThen (ScansInteger 16 base)
    (λ units. AndThen (CollectsTerms words) (λ terms shown. shown ≡ varied_answer units terms)) answer)
    (answer ≡ Err WordCount)
