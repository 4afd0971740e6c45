-- Magnitudes of sums, differences and products of integers, so that these fit in their types. They are natural numbers,
-- so that a search does not split cases by signs. The magnitude of -(n + 1) is n, as in `SFits`.
use Rattle.std.proofs.Common.{◌≤◌, ◌^◌, ◌+◌, ℕ, suc, ℤ, pos, negsuc, neg_ℤ, ◌+ℤ◌, ◌-ℤ◌, ◌*ℤ◌, ◌≤ℤ◌, arith}
use Rattle.std.proofs.Common.{w16, SFits, unsigned_abs}
use Rattle.std.proofs.{Math.Nat.mul-le-mul, lemmas.Int.ints, lemmas.Int.to_z-of_z, lemmas.Int.unsigned_abs-mul}
use Rattle.std.specs.Int.Signed.{mag}

most : (z : ℤ) → z ≤ℤ pos (mag z)
most (pos n) = omega (arith, ints)
most (negsuc n) = omega (arith, ints)

least : (z : ℤ) → neg_ℤ (pos (suc (mag z))) ≤ℤ z
least (pos n) = omega (arith, ints)
least (negsuc n) = omega (arith, ints)

within : (z : ℤ) (n : ℕ) → z ≤ℤ pos n → neg_ℤ (pos (suc n)) ≤ℤ z → mag z ≤ n
within (pos n) m high low = omega (arith, ints, high)
within (negsuc n) m high low = omega (arith, ints, low)

pub mag-sum : (a b : ℤ) → mag (a +ℤ b) ≤ suc (mag a + mag b)
mag-sum a b = within (a +ℤ b) _ (omega (arith, ints, most a, most b)) (omega (arith, ints, least a, least b))

pub mag-difference : (a b : ℤ) → mag (a -ℤ b) ≤ suc (mag a + mag b)
mag-difference a b = within (a -ℤ b) _ (omega (arith, ints, most a, most b, least b))
    (omega (arith, ints, least a, most b, least b))

-- ---- products of two 16-bit numbers

below_size : (z : ℤ) → mag z ≤ unsigned_abs z
below_size z = within z _ (omega (arith, ints)) (omega (arith, ints))

short : (a : ℤ) → SFits w16 a → unsigned_abs a ≤ 2 ^ 15
short a fits = omega (arith, ints, fits)

pub mag-short_product : (a b : ℤ) → SFits w16 a → SFits w16 b → mag (a *ℤ b) ≤ 2 ^ 30
mag-short_product a b fits_a fits_b = omega (
  arith,
  below_size (a *ℤ b),
  unsigned_abs-mul a b,
  mul-le-mul (short a fits_a) (short b fits_b),
)

pub ruleset magnitude_calls = (to_z-of_z, mag-sum, mag-difference, mag-short_product)
