-- Products rounded half away from zero, as code computes them: half a step is added, less one if the product is
-- negative, and the sum is shifted.
use Rattle.std.proofs.Common.{◌≡◌, ◌∙◌, ap, ℕ, suc, ◌+◌, ◌-◌, ◌*◌, ◌%◌, ◌^◌, ◌<◌, ◌≤◌, ℤ, pos, ◌+ℤ◌, ◌-ℤ◌, ◌*ℤ◌, ◌≤ℤ◌}
use Rattle.std.proofs.Common.{◌<ℤ◌, unsigned_abs, arith, lit<, ◌⊎◌, pow_pos, SFits, to_z, of_z, w64}
use Rattle.std.proofs.lemmas.Int.{ints, unsigned_abs-mul, to_z-of_z}
use Rattle.std.proofs.Math.Nat.{pow-le-pow_right, two-pow-succ}
use mir.Val.{bool_byte}
use lib.Signed.{shr_z, lt_z}
use Rattle.font_base.specs.Wrap.{wrap}
use Rattle.font_decimal.specs.Near.{Near, near}
use Rattle.font_decimal.proofs.Near.{near_is, near_gives}
use Rattle.font_fixed.specs.Operations.{IsWrappedNear}
use Rattle.font_fixed.proofs.{Shifts.shr_low, Shifts.shr_high, Shifts.shr_fits, Quotients.wrapped_near_from}

-- 1 if n is negative, else 0, as code computes it
sign_step : (n e : ℤ) → e ≡ pos (bool_byte (lt_z n (pos 0)))
    → ((e ≡ pos 1) × (n <ℤ pos 0)) ⊎ ((e ≡ pos 0) × (pos 0 ≤ℤ n))
sign_step n e is = grind (arith, ints)

-- q * d is the greatest multiple of d that is at most n and half a step, less one if n is negative
near_of_sum : (n e q : ℤ) (d half : ℕ) → d ≡ half + half → 0 < half
    → ((e ≡ pos 1) × (n <ℤ pos 0)) ⊎ ((e ≡ pos 0) × (pos 0 ≤ℤ n)) → (q *ℤ pos d) ≤ℤ ((n +ℤ pos half) -ℤ e)
    → ((n +ℤ pos half) -ℤ e) <ℤ ((q *ℤ pos d) +ℤ pos d) → Near n d q
near_of_sum n e q d half halves some step low high = omega (arith, ints, unsigned_abs-mul q (pos d))

-- the wrapped result is the rounded one
pub near_is_wrapped_near : (w : ℕ) (n : ℤ) (d : ℕ) (r : ℤ) → 0 < d → r ≡ wrap w (near n d) → IsWrappedNear w n d r
near_is_wrapped_near w n d r some is = wrapped_near_from w n d (near n d) r some (near_is n d some) is

-- ---- a shift by f bits of fraction

-- half a step in code: 1 << (f - 1)
abbrev half_code : ℕ → ℕ
half_code f = 1 * 2 ^ (f - 1) % 18446744073709551616

half_small : (f : ℕ) → f ≤ 30 → 2 ^ (f - 1) ≤ 2 ^ 30
half_small f few = pow-le-pow_right {n = 2} (lit< tt) {i = f - 1} {j = 30} (omega (arith, few))

half_is : (f : ℕ) → f ≤ 30 → to_z w64 (half_code f) ≡ pos (2 ^ (f - 1))
half_is f few = omega (arith, ints, half_small f few)

pub halves : (f : ℕ) → 6 ≤ f → 2 ^ f ≡ 2 ^ (f - 1) + 2 ^ (f - 1)
halves f many = let is : f ≡ suc (f - 1) = omega (arith, many) in ap (λ n. 2 ^ n) is ∙ two-pow-succ (f - 1)

-- e is 1 if n is negative, else 0
pub shifted_is_near : (n e : ℤ) (f : ℕ) → SFits w64 n → unsigned_abs n ≤ 2 ^ 62 → 6 ≤ f → f ≤ 30
    → e ≡ pos (bool_byte (lt_z (to_z w64 (of_z w64 n)) (pos 0)))
    → to_z w64 (of_z w64 (shr_z
    (to_z w64 (of_z w64 (to_z w64
    (of_z w64 (to_z w64 (of_z w64 n) +ℤ to_z w64 (1 * 2 ^ (f - 1) % 18446744073709551616))) -ℤ to_z w64
    (of_z w64 e)))) (2 ^ f)))
    ≡ near n (2 ^ f)
shifted_is_near n e f fits small many few is =
    let half : ℕ = 2 ^ (f - 1) in
    let bound : half ≤ 2 ^ 30 = half_small f few in
    let step = sign_step n e (rw (to_z-of_z w64 n fits) at is) in
    let sum : SFits w64 ((n +ℤ pos half) -ℤ e) = omega (arith, ints) in
    let q : ℤ = shr_z ((n +ℤ pos half) -ℤ e) (2 ^ f) in
    rw (
      half_is f few,
      to_z-of_z w64 n fits,
      to_z-of_z w64 (n +ℤ pos half) (omega (arith, ints)),
      to_z-of_z w64 e (omega (arith, ints)),
      to_z-of_z w64 ((n +ℤ pos half) -ℤ e) sum,
      to_z-of_z w64 q (shr_fits w64 _ (2 ^ f) sum),
    )
    (near_gives n (2 ^ f) q (pow_pos f) (near_of_sum n e q (2 ^ f) half (halves f many) (pow_pos (f - 1)) step
    (shr_low _ (2 ^ f) (pow_pos f)) (shr_high _ (2 ^ f) (pow_pos f))))
