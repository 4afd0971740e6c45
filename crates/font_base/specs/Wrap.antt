-- Wrapping: the low bits of an integer, as a signed integer in two's complement.
pub mod Laws
use Rattle.std.specs.Prelude.{◌≡◌, ℕ, ◌-◌, ◌*◌, ◌^◌, ℤ, pos, ◌+ℤ◌, ◌-ℤ◌, ◌*ℤ◌, neg_ℤ, ◌≤ℤ◌, ◌<ℤ◌, Bool, ◌&&◌, int_le}
use Rattle.std.specs.Prelude.{int_lt}
use Rattle.std.specs.Int.{int_rem_euclid}

-- half the number of values of `w` bits
abbrev pub half_range : ℕ → ℕ
half_range w = 2 ^ (w - 1)

-- z is from -2^(w-1) to 2^(w-1) - 1, the range of a signed w-bit integer
-- (OpenType, data types: int8, int16, int32 are signed integers in two's complement)
pub record FitsBits (w : ℕ) (z : ℤ) : Type 0 where
  pub low : neg_ℤ (pos (half_range w)) ≤ℤ z
  pub high : z <ℤ pos (half_range w)

-- decidable form of `FitsBits`
abbrev pub fits_bits : ℕ → ℤ → Bool
fits_bits w z = int_le (neg_ℤ (pos (half_range w))) z && int_lt z (pos (half_range w))

-- r is z wrapped to w bits: in range, and different from z by a multiple of 2^w
pub record IsWrapped (w : ℕ) (z r : ℤ) : Type 0 where
  pub fits : FitsBits w r
  pub turns : ℤ
  pub differs : z ≡ (r +ℤ (turns *ℤ pos (2 ^ w)))

-- the unique r with `IsWrapped w z r`
unfoldable pub wrap : ℕ → ℤ → ℤ
wrap w z = int_rem_euclid (z +ℤ pos (half_range w)) (pos (2 ^ w)) -ℤ pos (half_range w)
