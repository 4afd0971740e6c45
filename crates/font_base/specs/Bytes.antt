-- Big-endian bytes: every number in a font file is stored with its most significant byte first.
-- (OpenType, data types: "All OpenType fonts use Motorola-style byte ordering (Big Endian)")
pub mod Laws
use Rattle.std.specs.Prelude.{◌≡◌, ℕ, ◌+◌, ◌*◌, ◌^◌, ◌<◌, Bool, List, length, fold, ◌&&◌, ◌==◌, IsTrue, nat_lt}
use Rattle.std.specs.Prelude.{unsigned_abs, ℤ, pos, ◌+ℤ◌, ◌*ℤ◌}
use Rattle.std.specs.{List.list_all, Int.bytes_high_first, Int.int_rem_euclid}
use Rattle.font_base.specs.Wrap.{wrap}

-- the unsigned integer with these big-endian bytes
abbrev pub numeral : List ℕ → ℕ
numeral bytes = fold (λ n byte. n * 256 + byte) 0 bytes

-- the list has n elements, each below 256 (decidable)
abbrev pub are_bytes : ℕ → List ℕ → Bool
are_bytes n bytes = (length bytes == n) && list_all (λ byte. nat_lt byte 256) bytes

-- bytes is the n-byte encoding of the integer v: `numeral bytes` differs from v by a multiple of 256^n
pub record IsBytesOf (n : ℕ) (v : ℤ) (bytes : List ℕ) : Type 0 where
  pub are : IsTrue (are_bytes n bytes)
  pub turns : ℤ
  pub differs : v ≡ (pos (numeral bytes) +ℤ (turns *ℤ pos (256 ^ n)))

-- the unique list with `IsBytesOf n v`
unfoldable pub bytes_of : ℕ → ℤ → List ℕ
bytes_of n v = bytes_high_first n (unsigned_abs (int_rem_euclid v (pos (256 ^ n))))

-- the signed integer with these n bytes, in two's complement
unfoldable pub signed_numeral : ℕ → List ℕ → ℤ
signed_numeral n bytes = wrap (8 * n) (pos (numeral bytes))
