-- Stored bytes: `==` compares those of numbers; a number just read has a shortest text; and the numbers of 24-bit
-- integers.
use Rattle.std.proofs.Common.{◌≡◌, ◌∙◌, ℕ, ◌≤◌, ℤ, pos, sym, ap, lit<, arith, Bool, List, ◌++◌, length, take}
use Rattle.std.proofs.lemmas.List.{take_at, take-take}
use Rattle.std.proofs.{Math.Nat.pow-le-pow_right, lemmas.Int.ints, lemmas.Slice.Eq.bytes_eq-Decides}
use Rattle.std.specs.{Prelude.IsTrue, Str.bytes_eq}
use Rattle.font_base.specs.Bytes.{are_bytes, bytes_of, numeral, signed_numeral, IsBytesOf}
use Rattle.font_base.specs.Bytes.Laws.{bytes_of_is, bytes_of_are, bytes_unique, numeral_below, FitsBits-signed_numeral}
use Rattle.font_base.specs.{declared.uint24.Uint24.Uint24, declared.int24.Int24.Int24}
use Rattle.font_base.specs.Bytes.Laws.{are_bytes-bytes_of, are_bytes-length}
use Rattle.font_base.proofs.ScalarCalls.{uint24_of_stored, int24_of_stored}
use Rattle.font_base.specs.{Int24.int24_number, Int24.int24_of, Int24.Laws.int24_number-of, Uint24.uint24_number}
use Rattle.font_base.specs.{Uint24.uint24_of, Uint24.Laws.uint24_number-of}
use Rattle.font_decimal.specs.Shortest.{IsShortest, shortest_text}
use Rattle.font_decimal.proofs.Printed.{shortest_is}

-- bytes compare equal to those of a number if and only if they are its bytes
module _ (k : ℕ) (z : ℤ) (stored bytes : List ℕ) (same : Bool) where
  pub is_stored : same ≡ bytes_eq stored bytes → stored ≡ bytes_of k z → IsTrue same → IsBytesOf k z bytes
  is_stored compared is test =
      bytes_of_are k z _ (sym ((bytes_eq-Decides stored bytes).0 (sym compared ∙ test)) ∙ is)

  pub equals_stored : same ≡ bytes_eq stored bytes → stored ≡ bytes_of k z → IsBytesOf k z bytes → IsTrue same
  equals_stored compared is given =
      compared ∙ (bytes_eq-Decides stored bytes).1 (is ∙ bytes_unique k z _ _ (bytes_of_is k z) given)

-- the shortest text of the number that four bytes or two are read as
pub shortest_read_4 : (f : ℕ) (bytes : List ℕ)
    → IsShortest (signed_numeral 4 bytes) f (shortest_text (signed_numeral 4 bytes) f)
shortest_read_4 f bytes = let fits = FitsBits-signed_numeral 4 bytes (lit< tt) in
    shortest_is (signed_numeral 4 bytes) f (omega (arith, ints, fits.low, fits.high))

pub shortest_read_2 : (f : ℕ) (bytes : List ℕ)
    → IsShortest (signed_numeral 2 bytes) f (shortest_text (signed_numeral 2 bytes) f)
shortest_read_2 f bytes = let fits = FitsBits-signed_numeral 2 bytes (lit< tt) in
    shortest_is (signed_numeral 2 bytes) f (omega (arith, ints, fits.low, fits.high))

-- ---- 24-bit integers, by what they are read as

pub uint24_of_read : (bytes : List ℕ) → IsTrue (are_bytes (length bytes) bytes) → length bytes ≤ 3
    → uint24_number (uint24_of (numeral bytes)) ≡ numeral bytes
uint24_of_read bytes are short = grind (arith, uint24_number-of, numeral_below, pow-le-pow_right)

pub int24_of_read : (bytes : List ℕ) → int24_number (int24_of (signed_numeral 3 bytes)) ≡ signed_numeral 3 bytes
int24_of_read bytes = int24_number-of (signed_numeral 3 bytes) (FitsBits-signed_numeral 3 bytes (lit< tt))

-- those of the first field of a record, which is stored, or is read from the first m bytes
module _ (rest bytes : List ℕ) where
  first : (z : ℤ) → bytes_of 3 z ++ rest ≡ bytes → bytes_of 3 z ≡ take 3 bytes
  first z is =
      sym (take_at (bytes_of 3 z) rest 3 (are_bytes-length 3 (bytes_of 3 z) (are_bytes-bytes_of 3 z))) ∙ ap (take 3) is

  pub uint24_first : (n : Uint24) → bytes_of 3 (pos (uint24_number n)) ++ rest ≡ bytes
      → uint24_number n ≡ numeral (take 3 bytes)
  uint24_first n is = uint24_of_stored n (take 3 bytes) (first _ is)

  pub int24_first : (n : Int24) → bytes_of 3 (int24_number n) ++ rest ≡ bytes
      → int24_number n ≡ signed_numeral 3 (take 3 bytes)
  int24_first n is = int24_of_stored n (take 3 bytes) (first _ is)

module _ (m : ℕ) (rest bytes : List ℕ) where
  pub uint24_first_read : (n : Uint24) → bytes_of 3 (pos (uint24_number n)) ++ rest ≡ take m bytes → 3 ≤ m
      → uint24_number n ≡ numeral (take 3 bytes)
  uint24_first_read n is some = uint24_first rest (take m bytes) n is ∙ ap numeral (take-take 3 m bytes some)

  pub int24_first_read : (n : Int24) → bytes_of 3 (int24_number n) ++ rest ≡ take m bytes → 3 ≤ m
      → int24_number n ≡ signed_numeral 3 (take 3 bytes)
  int24_first_read n is some = int24_first rest (take m bytes) n is ∙ ap (signed_numeral 3) (take-take 3 m bytes some)

pub ruleset stored_calls = (is_stored, equals_stored, shortest_read_4, shortest_read_2, uint24_of_read, int24_of_read)

pub ruleset first_24_calls = (uint24_first, int24_first, uint24_first_read, int24_first_read)
