-- The half units of a fraction decide how it is rounded.
use Rattle.std.proofs.Common.{◌≡◌, ℕ, ◌+◌, ◌-◌, ◌*◌, ◌/◌, ◌%◌, ◌^◌, ◌<◌, ◌≤◌, ◌⊎◌, inl, inr, min, ap, arith, pow-add}
use Rattle.std.proofs.Common.{pow_pos, mul-le-mul_right, div-mul-le_self}
use Rattle.std.proofs.{Math.Nat.pow-le-pow_right, Math.Nat.lt-div-mul-add, lemmas.Bool.cases_lt}
use Rattle.font_decimal.proofs.Near.{IsNearMagnitude}

-- half of the half units of value / k, rounded up, is the nearest number of units
pub half_units_halved : (value k t : ℕ) → 0 < k → IsNearMagnitude (value * t) k ((value * (2 * t) / k + 1) / 2)
half_units_halved value k t some =
    let h = value * (2 * t) / k in
    let q = (h + 1) / 2 in
    omega (
      arith,
      mul-le-mul_right {m = 2 * q} {n = h + 1} k (omega arith),
      mul-le-mul_right {m = h} {n = 2 * q} k (omega arith),
      div-mul-le_self (value * (2 * t)) k,
      lt-div-mul-add {a = value * (2 * t)} some,
    )

-- 2^(63-f) times 2^f units are 2^63 units
full_units : (f : ℕ) → f ≤ 30 → 2 ^ (63 - f) * 2 ^ f ≡ 2 ^ 63
full_units f few = let e : 63 - f + f ≡ 63 = omega arith in rw (← pow-add 2 (63 - f) f, e)

-- Integers that are cut to one more than 2^(63-f) act as any greater number: either way the number of units is above
-- 2^63.
pub units_capped : (f v whole r : ℕ) → f ≤ 30 → whole ≡ min v (2 ^ (63 - f) + 1)
    → (whole * 2 ^ f + r ≡ v * 2 ^ f + r) ⊎ ((2 ^ 63 < whole * 2 ^ f + r) × (2 ^ 63 < v * 2 ^ f + r))
units_capped f v whole r few cut = elim (cases_lt (2 ^ (63 - f)) v) [
  | inl large ↦
      let above : (2 ^ (63 - f) + 1) * 2 ^ f ≤ v * 2 ^ f = mul-le-mul_right (2 ^ f) (omega arith) in
      let marked : whole ≡ 2 ^ (63 - f) + 1 = omega arith in
      inr (rw marked (omega (arith, full_units f few, pow_pos f)))
  | inr small ↦ inl (ap (λ n. n * 2 ^ f + r) (omega arith))
]

-- and all results computed from these and the half units of a fraction fit in 64 bits
pub record UnitsFit (f whole halves : ℕ) : Type 0 where
  pub shifted : whole * 2 ^ f % 2 ^ 64 ≡ whole * 2 ^ f
  pub one_more : halves + 1 < 2 ^ 64
  pub total : whole * 2 ^ f + (halves + 1) / 2 < 2 ^ 64

pub units_fit : (f whole halves v : ℕ) → f ≤ 30 → whole ≡ min v (2 ^ (63 - f) + 1) → halves < 2 ^ (f + 1)
    → UnitsFit f whole halves
units_fit f whole halves v few cut below =
    let most : whole * 2 ^ f ≤ (2 ^ (63 - f) + 1) * 2 ^ f = mul-le-mul_right (2 ^ f) (omega arith) in
    omega (arith, full_units f few, pow-le-pow_right {n = 2} (omega arith) few, pow-add 2 f 1)
