-- Ceilings of numbers of w bits with f fraction bits: the floor of a step less one unit more.
use Rattle.std.proofs.Common.{◌≡◌, ◌∙◌, sym, ap, refl, ℕ, ◌+◌, ◌-◌, ◌*◌, ◌%◌, ◌^◌, ◌<◌, ◌≤◌, ℤ, pos, neg_ℤ, ◌+ℤ◌, ◌-ℤ◌}
use Rattle.std.proofs.Common.{◌*ℤ◌, ◌≤ℤ◌, ◌<ℤ◌, arith, pow_pos, SFits, to_z, of_z, unsigned_abs}
use Rattle.std.proofs.lemmas.Int.{ints, by_lt_z, to_z-of_z}
use Rattle.std.specs.Int.{Width}
use mir.Val.{bits, hbits}
use Rattle.font_base.specs.{Wrap.wrap, Wrap.FitsBits, Wrap.Laws.wrap_is, Wrap.Laws.wrap_gives, Wrap.Laws.wrap-fits}
use Rattle.font_base.specs.{Integers.sum-times, Integers.product-times}
use Rattle.font_base.proofs.Widths.{bits_positive, half_range-bits}
use Rattle.font_decimal.proofs.Integers.{neg-times, times_monotone}
use Rattle.font_fixed.specs.Operations.{IsFloor, IsCeiling, IsWrappedCeiling, floor_of, ceiling_of}
use Rattle.font_fixed.proofs.{Narrowing.fits_low, Rounds.shr_is_floor, Rounds.step_is, Rounds.step_below, Rounds.top}
use Rattle.font_fixed.proofs.Rounds.{whole, floor_fits, small_fits}

-- the greatest multiple of a step that is not above is the floor
floor_gives : (f : ℕ) (x u : ℤ) → (u *ℤ pos (2 ^ f)) ≤ℤ x → x <ℤ ((u *ℤ pos (2 ^ f)) +ℤ pos (2 ^ f))
    → (u *ℤ pos (2 ^ f)) ≡ floor_of f x
floor_gives f x u low high =
    let floor = shr_is_floor f x in
    let least = fits_low (2 ^ f) u x floor.whole low (omega (arith, ints, floor.bits, floor.high)) in
    let most = fits_low (2 ^ f) floor.whole x u (omega (arith, ints, floor.bits, floor.low)) high in
    let same : u ≡ floor.whole = omega (arith, ints, least, most) in
    ap (λ z. z *ℤ pos (2 ^ f)) same ∙ sym floor.bits ∙ floor.is

-- the least multiple of a step that is not below is the ceiling
ceiling_gives : (f : ℕ) (x u : ℤ) → x ≤ℤ (u *ℤ pos (2 ^ f)) → (u *ℤ pos (2 ^ f)) <ℤ (x +ℤ pos (2 ^ f))
    → IsCeiling f x (u *ℤ pos (2 ^ f))
ceiling_gives f x u low high =
    let times = neg-times u (2 ^ f) in
    let floor = floor_gives f (neg_ℤ x) (neg_ℤ u) (omega (arith, ints, times, low))
    (omega (arith, ints, times, high)) in
    record { whole = u; bits = refl; low = low; high = high; is = omega (arith, ints, floor, times) }

-- the floor of a step less one unit more
floor_is_ceiling : (f : ℕ) (x s r : ℤ) → s ≡ ((x +ℤ pos (2 ^ f)) -ℤ pos 1) → IsFloor f s r → IsCeiling f x r
floor_is_ceiling f x s r is floor = rw floor.bits (ceiling_gives f x floor.whole
    (omega (arith, ints, is, floor.bits, floor.low, floor.high)) (omega (arith, ints, is, floor.bits, floor.low)))

-- the step less one unit, as code computes it
pub rest_fits : (w : Width) (m f : ℕ) → m ≡ 2 ^ bits w → f + 2 ≤ bits w
    → SFits w (to_z w (1 * 2 ^ f % m) -ℤ pos 1)
rest_fits w m f all few = omega (arith, ints, step_is w m f all few, step_below w f few, pow_pos f)

rest_is : (w : Width) (m f : ℕ) → m ≡ 2 ^ bits w → f + 2 ≤ bits w
    → to_z w (of_z w (to_z w (1 * 2 ^ f % m) -ℤ pos 1)) ≡ (pos (2 ^ f) -ℤ pos 1)
rest_is w m f all few =
    to_z-of_z w (to_z w (1 * 2 ^ f % m) -ℤ pos 1) (rest_fits w m f all few)
    ∙ ap (λ z. z -ℤ pos 1) (step_is w m f all few)

-- a step less one unit is added, wrapping
pub ceiling_wraps : (w : Width) (m f : ℕ) (x s r : ℤ) → m ≡ 2 ^ bits w → f + 2 ≤ bits w
    → s ≡ wrap (bits w) (x +ℤ to_z w (of_z w (to_z w (1 * 2 ^ f % m) -ℤ pos 1))) → IsFloor f s r
    → IsWrappedCeiling (bits w) f x r
ceiling_wraps w m f x s r all few is floor =
    let moved = rw (rest_is w m f all few) at is in
    let given = wrap_is (bits w) (x +ℤ (pos (2 ^ f) -ℤ pos 1)) (bits_positive w) in
    let turns : ℤ = given.turns *ℤ pos (2 ^ (bits w - f)) in
    let split = whole (bits w) f (omega (arith, few)) in
    let apart : (turns *ℤ pos (2 ^ f)) ≡ (given.turns *ℤ pos (2 ^ bits w)) = rw split
    (product-times given.turns (pos (2 ^ (bits w - f))) (pos (2 ^ f))) in
    let sum = sum-times floor.whole turns (pos (2 ^ f)) in
    let u : ℤ = floor.whole +ℤ turns in
    let low : x ≤ℤ (u *ℤ pos (2 ^ f)) = omega (arith, ints, moved, given.differs, sum, apart, floor.bits, floor.high) in
    let high : (u *ℤ pos (2 ^ f)) <ℤ (x +ℤ pos (2 ^ f)) =
    omega (arith, ints, moved, given.differs, sum, apart, floor.bits, floor.low) in
    let kept : SFits w s = omega (arith, ints, moved, given.fits, half_range-bits w) in
    let fit = floor_fits w f s r few kept floor in
    record {
      ceiling = u *ℤ pos (2 ^ f);
      is_ceiling = ceiling_gives f x u low high;
      wrapped = wrap_gives (bits w) (u *ℤ pos (2 ^ f)) r (bits_positive w) (record {
        fits = omega (arith, ints, fit, half_range-bits w);
        turns = given.turns;
        differs = omega (arith, ints, sum, apart, floor.bits);
      });
    }

-- the ceiling itself, if it fits
pub ceiling_fits : (w f : ℕ) (x r : ℤ) → 0 < w → IsWrappedCeiling w f x r → FitsBits w (ceiling_of f x)
    → r ≡ ceiling_of f x
ceiling_fits w f x r wide given fits =
    given.wrapped ∙ ap (λ z. wrap w z) given.is_ceiling.is ∙ wrap-fits w (ceiling_of f x) wide fits

-- the same, and its bounds, if a step less one unit more fits
pub ceiling_kept : (w : Width) (m f : ℕ) (x s r : ℤ) → m ≡ 2 ^ bits w → f + 2 ≤ bits w
    → s ≡ wrap (bits w) (x +ℤ to_z w (of_z w (to_z w (1 * 2 ^ f % m) -ℤ pos 1))) → IsFloor f s r
    → FitsBits (bits w) (x +ℤ pos (2 ^ f - 1)) → (r ≡ ceiling_of f x) × (x ≤ℤ r) × (r <ℤ (x +ℤ pos (2 ^ f)))
ceiling_kept w m f x s r all few is floor fits =
    let moved = rw (rest_is w m f all few) at is in
    let less : pos (2 ^ f - 1) ≡ (pos (2 ^ f) -ℤ pos 1) = omega (arith, ints, pow_pos f) in
    let kept = rw less at fits in
    let sum = moved ∙ wrap-fits (bits w) (x +ℤ (pos (2 ^ f) -ℤ pos 1)) (bits_positive w) kept in
    let ceiling = floor_is_ceiling f x s r (omega (arith, ints, sum)) floor in
    (ceiling.is, ceiling.low, ceiling.high)

pub ceiling_small : (w : Width) (m f : ℕ) (x s r : ℤ) → m ≡ 2 ^ bits w → f + 2 ≤ bits w
    → s ≡ wrap (bits w) (x +ℤ to_z w (of_z w (to_z w (1 * 2 ^ f % m) -ℤ pos 1))) → IsFloor f s r
    → unsigned_abs x ≤ 2 ^ (bits w - 2) → (r ≡ ceiling_of f x) × (x ≤ℤ r) × (r <ℤ (x +ℤ pos (2 ^ f)))
ceiling_small w m f x s r all few is floor small =
    ceiling_kept w m f x s r all few is floor (small_fits w f (2 ^ f - 1) x few (omega (arith, pow_pos f)) small)

-- a step less one unit is added, if that fits
pub ceiling_is : (w : Width) (m f : ℕ) (x s r : ℤ) → m ≡ 2 ^ bits w → f + 2 ≤ bits w
    → s ≡ (x +ℤ to_z w (of_z w (to_z w (1 * 2 ^ f % m) -ℤ pos 1))) → IsFloor f s r → IsCeiling f x r
ceiling_is w m f x s r all few is floor =
    let moved = rw (rest_is w m f all few) at is in
    floor_is_ceiling f x s r (omega (arith, ints, moved)) floor

-- the ceiling, for every number
ceiling_at : (f : ℕ) (x : ℤ) → IsCeiling f x (ceiling_of f x)
ceiling_at f x =
    let floor = shr_is_floor f (neg_ℤ x) in
    let times = neg-times floor.whole (2 ^ f) in
    let at = ceiling_gives f x (neg_ℤ floor.whole) (omega (arith, ints, times, floor.bits, floor.low))
    (omega (arith, ints, times, floor.bits, floor.high)) in
    rw at.is at at

-- if a step less one unit more does not fit, neither does the ceiling
pub no_ceiling : (w : Width) (m f : ℕ) (x : ℤ) → m ≡ 2 ^ bits w → f + 2 ≤ bits w → SFits w x
    → (FitsBits (bits w) (x +ℤ to_z w (of_z w (to_z w (1 * 2 ^ f % m) -ℤ pos 1))) → ⊥)
    → FitsBits (bits w) (ceiling_of f x) → ⊥
no_ceiling w m f x all few fits far near =
    let too_far = rw (rest_is w m f all few) at far in
    let split = top (bits w) f few in
    let range = half_range-bits w in
    let positive = pow_pos f in
    by_lt_z (x +ℤ (pos (2 ^ f) -ℤ pos 1)) (pos (2 ^ hbits w))
    (λ less. too_far (omega (arith, ints, fits, less, range, positive)))
    (λ more.
    let most : ℤ = pos (2 ^ (bits w - f - 1)) in
    let ceiling = ceiling_at f x in
    let above = fits_low (2 ^ f) most (x +ℤ (pos (2 ^ f) -ℤ pos 1)) ceiling.whole
    (omega (arith, ints, more, split)) (omega (arith, ints, ceiling.bits, ceiling.low)) in
    omega (arith, ints, near, range, split, ceiling.bits, times_monotone most ceiling.whole (2 ^ f) above))
