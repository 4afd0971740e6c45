-- Sums of the numbers of an array: one element more, by its index; and those that an iterator has left.
use Rattle.std.proofs.Common.{◌≡◌, ◌∙◌, ap, lit<, arith, ℕ, zero, suc, ◌+◌, ◌*◌, ◌<◌, ◌≤◌, ℤ, pos, w16, w32, SFits}
use Rattle.std.proofs.Common.{List, [], ◌∷◌, take, drop, get_or}
use Rattle.std.proofs.lemmas.List.{drop-drop, take_all}
use Rattle.std.proofs.lemmas.List.Sums.{sum_by-cons, sum_by_more}
use Rattle.std.specs.List.{sum_by}
use Rattle.font_base.specs.{Bytes.numeral, Bytes.signed_numeral, Bytes.bytes_of, Bytes.Laws.numeral-bytes_of}
use Rattle.font_base.specs.{Bytes.Laws.signed_numeral-bytes_of, Elements.elements, Elements.element}
use Rattle.font_base.proofs.{Elements.length-elements, Widths.signed_fits}

element_at : (size n i : ℕ) (bytes d : List ℕ) → i < n → get_or (elements size n bytes) i d ≡ element size bytes i
element_at size zero i bytes d within = absurd (omega arith)
element_at size (suc n) zero bytes d within = grind arith
element_at size (suc n) (suc i) bytes d within =
    grind (arith, element_at size n i (drop size bytes) d (omega arith), drop-drop)

pub numbers_more : (size n i : ℕ) (bytes : List ℕ) → i < n
    → sum_by numeral (take (i + 1) (elements size n bytes))
    ≡ sum_by numeral (take i (elements size n bytes)) + numeral (take size (drop (i * size) bytes))
numbers_more size n i bytes within =
    sum_by_more numeral (elements size n bytes) i [] (omega (arith, length-elements size n bytes))
    ∙ ap (λ b. sum_by numeral (take i (elements size n bytes)) + numeral b) (element_at size n i bytes [] within)

pub numbers_all : (size n i : ℕ) (bytes : List ℕ) → n ≤ i → take i (elements size n bytes) ≡ elements size n bytes
numbers_all size n i bytes all = take_all i (elements size n bytes) (omega (arith, length-elements size n bytes))

-- the number of the bytes that a number is stored as
pub numeral_of_2 : (n : ℕ) → n < 65536 → numeral (bytes_of 2 (pos n)) ≡ n
numeral_of_2 n below = numeral-bytes_of 2 n below

pub numeral_of_4 : (n : ℕ) → n < 4294967296 → numeral (bytes_of 4 (pos n)) ≡ n
numeral_of_4 n below = numeral-bytes_of 4 n below

pub signed_of_2 : (z : ℤ) → SFits w16 z → signed_numeral 2 (bytes_of 2 z) ≡ z
signed_of_2 z fits = signed_numeral-bytes_of 2 z (lit< tt) (signed_fits w16 z fits)

pub signed_of_4 : (z : ℤ) → SFits w32 z → signed_numeral 4 (bytes_of 4 z) ≡ z
signed_of_4 z fits = signed_numeral-bytes_of 4 z (lit< tt) (signed_fits w32 z fits)

-- the next element of an iterator, and those after it
pub numbers_left : (bytes : List ℕ) (rest : List (List ℕ))
    → sum_by numeral (bytes ∷ rest) ≡ numeral bytes + sum_by numeral rest
numbers_left bytes rest = sum_by-cons numeral bytes rest

pub ruleset array_number_calls = (
  numbers_more,
  numbers_all,
  numbers_left,
  numeral_of_2,
  numeral_of_4,
  signed_of_2,
  signed_of_4,
)
