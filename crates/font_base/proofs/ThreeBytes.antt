-- The integers of 24 bits and the four bytes of std's integers of 32 bits.
use Rattle.std.proofs.Common.{◌≡◌, ◌∙◌, sym, ap, refl, subst, ℕ, ◌+◌, ◌*◌, ℤ, pos, ◌*ℤ◌, neg_ℤ, List, ◌^◌, ◌<◌, lit<}
use Rattle.std.proofs.Common.{[], ◌∷◌, length, get_or, arith, SFits, to_z, of_z, lt-ltb, w32}
use Rattle.std.proofs.lemmas.Int.{ints, to_z-of_z, to_z_pos}
use Rattle.std.proofs.{Math.Facts.to_z-neg, lemmas.Bool.Decides.nat_tests}
use Rattle.std.specs.{Int.Signed.quot_z, Cmp.Derive.both_true, Int.to_be_bytes}
use Rattle.font_base.specs.{Bytes.numeral, Bytes.signed_numeral, Bytes.bytes_of, Bytes.IsBytesOf, Wrap.FitsBits}
use Rattle.font_base.specs.{Wrap.IsWrapped, Bytes.Laws.IsBytesOf-numeral, Bytes.Laws.IsBytesOf-high_first}
use Rattle.font_base.specs.{Bytes.Laws.IsBytesOf-apart, Bytes.Laws.numeral-bytes_of, Bytes.Laws.signed_numeral-bytes_of}
use Rattle.font_base.proofs.StdBytes.{turns_of, of_z-turned}

-- the last three of the four bytes of a number
pub last_three : (m : ℕ) (bytes : List ℕ) → bytes ≡ to_be_bytes w32 m
    → IsBytesOf 3 (pos m) (get_or bytes 1 0 ∷ get_or bytes 2 0 ∷ get_or bytes 3 0 ∷ [])
last_three m bytes is = rw is (IsBytesOf-high_first 3 m)

-- the same if the number is negative
pub last_three_signed : (z : ℤ) (bytes : List ℕ) → SFits w32 z
    → bytes ≡ to_be_bytes w32 (of_z w32 (to_z w32 (of_z w32 z)))
    → IsBytesOf 3 z (get_or bytes 1 0 ∷ get_or bytes 2 0 ∷ get_or bytes 3 0 ∷ [])
last_three_signed z bytes fits is =
    IsBytesOf-apart 3 z (pos (of_z w32 z)) (neg_ℤ (turns_of z *ℤ pos 256)) _
    (omega (arith, ints, of_z-turned w32 z fits))
    (last_three (of_z w32 z) bytes (is ∙ ap (λ y. to_be_bytes w32 (of_z w32 y)) (to_z-of_z w32 z fits)))

-- the number of three bytes
pub from_three : (bytes : List ℕ) → length bytes ≡ 3
    → get_or bytes 0 0 < 256 → get_or bytes 1 0 < 256 → get_or bytes 2 0 < 256
    → IsBytesOf 3 (pos (get_or bytes 0 0 * 65536 + get_or bytes 1 0 * 256 + get_or bytes 2 0)) bytes
from_three [] many first second third = absurd (omega arith)
from_three (a ∷ []) many first second third = absurd (omega arith)
from_three (a ∷ b ∷ []) many first second third = absurd (omega arith)
from_three (a ∷ b ∷ c ∷ []) many first second third =
    let number : numeral (a ∷ b ∷ c ∷ []) ≡ a * 65536 + b * 256 + c = omega arith in
    let are = both_true (lt-ltb a 256 first) (both_true (lt-ltb b 256 second) (both_true (lt-ltb c 256 third) refl)) in
    subst (λ (n : ℕ). IsBytesOf 3 (pos n) (a ∷ b ∷ c ∷ [])) number (IsBytesOf-numeral 3 _ are)
from_three (a ∷ b ∷ c ∷ d ∷ rest) many first second third = absurd (omega arith)

-- a number of 24 bits in the upper bits of 32, divided by 256
upper_bits : (m : ℕ) → m < 2 ^ 24 → IsWrapped 24 (pos m) (quot_z (to_z w32 (m * 256)) (pos 256))
upper_bits m below = record {
  fits = grind (arith, nat_tests, to_z_pos, to_z-neg);
  turns = turns_of (to_z w32 (m * 256));
  differs = grind (arith, nat_tests, to_z_pos, to_z-neg);
}

-- the same, as `i32::from_be_bytes([a, b, c, 0]) / 0x100` computes it
pub upper_bits_read : (a b c : ℕ) (r : ℤ) → a < 256 → b < 256 → c < 256
    → r ≡ to_z w32 (a * 16777216 + b * 65536 + c * 256 + 0)
    → IsWrapped 24 (pos (a * 65536 + b * 256 + c)) (to_z w32 (of_z w32 (quot_z (to_z w32 (of_z w32 r)) (pos 256))))
upper_bits_read a b c r first second third is =
    let m = a * 65536 + b * 256 + c in
    let wrapped = upper_bits m (omega arith) in
    let quotient = quot_z (to_z w32 (m * 256)) (pos 256) in
    let fits : SFits w32 quotient = grind (arith, nat_tests, wrapped.fits) in
    let value : r ≡ to_z w32 (m * 256) = is ∙ ap (to_z w32) (omega arith) in
    let read : to_z w32 (of_z w32 r) ≡ to_z w32 (m * 256) = grind (arith, nat_tests, value, to_z-of_z) in
    rw read (rw (to_z-of_z w32 quotient fits) wrapped)

-- an unsigned number of three bytes is their numeral
pub uint24_numeral : (n : ℕ) (bytes : List ℕ) → n < 2 ^ 24 → bytes ≡ bytes_of 3 (pos n) → n ≡ numeral bytes
uint24_numeral n bytes below given = sym (ap numeral given ∙ numeral-bytes_of 3 n below)

-- a signed number of three bytes is their numeral in two's complement
pub int24_numeral : (z : ℤ) (bytes : List ℕ) → FitsBits 24 z → bytes ≡ bytes_of 3 z → z ≡ signed_numeral 3 bytes
int24_numeral z bytes fits given = sym (ap (signed_numeral 3) given ∙ signed_numeral-bytes_of 3 z (lit< tt) fits)
