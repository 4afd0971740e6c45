-- The bytes that std reads and writes, as numerals.
use Rattle.std.proofs.Common.{◌≡◌, ◌∙◌, ◌+◌, drop-cons, drop_of_length-le, sym, ap, ℕ, zero, suc, ◌*◌, ◌^◌, ◌<◌, ◌≤◌, ℤ}
use Rattle.std.proofs.Common.{pos, negsuc, ◌+ℤ◌, ◌*ℤ◌, List, [], ◌∷◌, length, get_or, drop, arith, mod-eq_of_lt, w8}
use Rattle.std.proofs.Common.{w16, w32, w64, SFits, to_z, of_z}
use Rattle.std.proofs.lemmas.Grind.{common_steps}
use Rattle.std.proofs.{lemmas.Int.to_z-of_z, lemmas.Bool.Decides.nat_tests, Math.Facts.Fits-of_z}
use Rattle.std.specs.Int.{Width, byte_len, to_be_bytes, from_be_bytes}
use mir.Val.{bits, hbits}
use Rattle.font_base.specs.{Bytes.numeral, Bytes.bytes_of, Bytes.signed_numeral, Bytes.Laws.bytes_of-same}
use Rattle.font_base.proofs.Widths.{to_z-wrap}

-- the bits of a width, its bytes and its half range
width_facts : (w : Width)
    → (256 ^ byte_len w ≡ 2 ^ bits w) × (bits w ≡ 8 * byte_len w) × (2 ^ hbits w ≤ 2 ^ bits w)
width_facts w = grind (arith, nat_tests)

pub to_be_bytes-bytes_of : (w : Width) (n : ℕ) → n < 2 ^ bits w → to_be_bytes w n ≡ bytes_of (byte_len w) (pos n)
unfolding bytes_of
to_be_bytes-bytes_of w n below = grind (arith, nat_tests)

-- how many times 2^width is added to an integer to give its two's complement
abbrev pub turns_of : ℤ → ℤ
turns_of (pos n) = pos 0
turns_of (negsuc n) = pos 1

pub of_z-turned : (w : Width) (z : ℤ) → SFits w z → pos (of_z w z) ≡ (z +ℤ (turns_of z *ℤ pos (2 ^ bits w)))
of_z-turned w z fits = grind (arith, nat_tests)

pub to_be_bytes-signed : (w : Width) (z : ℤ) → SFits w z → to_be_bytes w (of_z w z) ≡ bytes_of (byte_len w) z
to_be_bytes-signed w z fits =
    to_be_bytes-bytes_of w (of_z w z) (Fits-of_z fits).fits ∙ bytes_of-same (byte_len w) (pos (of_z w z)) z
    (turns_of z) (rw (width_facts w).0 (of_z-turned w z fits))

-- n elements of a list from an index on, one by one
abbrev pub items : ℕ → ℕ → List ℕ → List ℕ
items zero i bytes = []
items (suc n) i bytes = get_or bytes i 0 ∷ items n (suc i) bytes

pub items_are : (n i : ℕ) (bytes : List ℕ) → length bytes ≡ i + n → drop i bytes ≡ items n i bytes
items_are zero i bytes many = drop_of_length-le bytes (omega arith)
items_are (suc n) i bytes many = grind (arith, items_are n (suc i) bytes (omega arith), drop-cons)

pub from_be_bytes-numeral : (w : Width) (bytes : List ℕ) → length bytes ≡ byte_len w
    → from_be_bytes w bytes ≡ numeral bytes
from_be_bytes-numeral w bytes many = grind (arith, common_steps)

-- a cast of the bytes' number to the signed type
pub to_z-signed_numeral : (w : Width) (bytes : List ℕ) → numeral bytes < 2 ^ bits w
    → to_z w (numeral bytes) ≡ signed_numeral (byte_len w) bytes
unfolding signed_numeral
to_z-signed_numeral w bytes below = grind (arith, to_z-wrap, width_facts)

-- ---- std's calls, in the form of the goals of `from_raw` and `to_raw`

pub signed_read : (w : Width) (bytes : List ℕ) (n : ℕ) (z : ℤ) → length bytes ≡ byte_len w → n < 2 ^ bits w
    → n ≡ from_be_bytes w bytes → z ≡ to_z w n → to_z w (of_z w z) ≡ signed_numeral (byte_len w) bytes
signed_read w bytes n z many below is cast = grind (arith, from_be_bytes-numeral, to_z-signed_numeral)

signed_written : (w : Width) (z : ℤ) (bytes : List ℕ) → SFits w z → bytes ≡ to_be_bytes w (of_z w (to_z w (of_z w z)))
    → bytes ≡ bytes_of (byte_len w) z
signed_written w z bytes fits is = grind (arith, to_z-of_z, to_be_bytes-signed)

pub unsigned_read : (w : Width) (bytes : List ℕ) (n : ℕ) → length bytes ≡ byte_len w → n ≡ from_be_bytes w bytes
    → n ≡ numeral bytes
unsigned_read w bytes n many is = is ∙ from_be_bytes-numeral w bytes many

-- std writes one byte as it is
pub u8_written : (n : ℕ) (bytes : List ℕ) → n < 256 → bytes ≡ n ∷ [] → bytes ≡ bytes_of 1 (pos n)
u8_written n bytes below is = is ∙ ap (λ b. b ∷ []) (sym (mod-eq_of_lt below)) ∙ to_be_bytes-bytes_of w8 n below

pub i8_written : (z : ℤ) (bytes : List ℕ) → SFits w8 z → bytes ≡ of_z w8 (to_z w8 (of_z w8 z)) ∷ []
    → bytes ≡ bytes_of 1 z
i8_written z bytes fits is = grind (arith, to_be_bytes-signed w8 z fits)

pub u16_written : (n : ℕ) (bytes : List ℕ) → n < 2 ^ 16 → bytes ≡ to_be_bytes w16 n → bytes ≡ bytes_of 2 (pos n)
u16_written n bytes below is = is ∙ to_be_bytes-bytes_of w16 n below

pub i16_written : (z : ℤ) (bytes : List ℕ) → SFits w16 z → bytes ≡ to_be_bytes w16 (of_z w16 (to_z w16 (of_z w16 z)))
    → bytes ≡ bytes_of 2 z
i16_written z bytes fits is = signed_written w16 z bytes fits is

pub u32_written : (n : ℕ) (bytes : List ℕ) → n < 2 ^ 32 → bytes ≡ to_be_bytes w32 n → bytes ≡ bytes_of 4 (pos n)
u32_written n bytes below is = is ∙ to_be_bytes-bytes_of w32 n below

pub i32_written : (z : ℤ) (bytes : List ℕ) → SFits w32 z → bytes ≡ to_be_bytes w32 (of_z w32 (to_z w32 (of_z w32 z)))
    → bytes ≡ bytes_of 4 z
i32_written z bytes fits is = signed_written w32 z bytes fits is

pub i64_written : (z : ℤ) (bytes : List ℕ) → SFits w64 z → bytes ≡ to_be_bytes w64 (of_z w64 (to_z w64 (of_z w64 z)))
    → bytes ≡ bytes_of 8 z
i64_written z bytes fits is = signed_written w64 z bytes fits is

pub ruleset std_bytes = (
  u8_written,
  i8_written,
  signed_read,
  unsigned_read,
  u16_written,
  i16_written,
  u32_written,
  i32_written,
  i64_written,
)
