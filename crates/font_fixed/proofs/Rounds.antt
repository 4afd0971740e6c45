-- Numbers of w bits with f fraction bits, for every f in range: the steps and halves of code, floors by shifts, and the
-- nearest integer as the floor of half a step more.
use Rattle.std.proofs.Common.{◌≡◌, ◌∙◌, ap, ℕ, ◌+◌, ◌-◌, ◌*◌, ◌/◌, ◌%◌, ◌^◌, ◌<◌, ◌≤◌, ℤ, pos, neg_ℤ, ◌+ℤ◌, ◌*ℤ◌, ◌≤ℤ◌}
use Rattle.std.proofs.Common.{◌<ℤ◌, arith, pow_pos, div-add-mod', IsTrue, SFits, to_z, of_z, pow-add, mod-lt, suc, lit<, unsigned_abs}
use Rattle.std.proofs.lemmas.Int.{ints, by_lt_z, to_z_pos, to_z-of_z}
use Rattle.std.proofs.Math.Nat.{two-pow-succ, pow-le-pow_right}
use Rattle.std.proofs.{lemmas.Bool.Decides.nat_tests, lemmas.Nat.one_shl}
use Rattle.std.specs.Int.{Width}
use mir.Val.{bits, hbits}
use lib.Signed.{shr_z}
use Rattle.font_base.specs.{Wrap.wrap, Wrap.FitsBits, Wrap.Laws.wrap-fits}
use Rattle.font_base.proofs.Widths.{bits_positive, half_range-bits}
use Rattle.font_decimal.specs.Near.{Up, up}
use Rattle.font_decimal.proofs.Integers.{neg-times, times-next, times_monotone}
use Rattle.font_decimal.proofs.Near.{up_gives, up_is}
use Rattle.font_fixed.specs.Operations.{IsFloor, IsNearestWhole, fract_of, floor_of}
use Rattle.font_fixed.specs.Rounding.{rounded}
use Rattle.font_fixed.proofs.Narrowing.{is_width_split, floor_is_nearest_whole, fits_low, shr_back}
use Rattle.font_fixed.proofs.{Steps.halves, Shifts.shr_fits, Shifts.shr_high, Shifts.shr_low, Wrapped.wrapping_mul-wrap}

two_halves : (f : ℕ) → 6 ≤ f → 2 ^ f ≡ 2 ^ f / 2 + 2 ^ f / 2
two_halves f many = omega (arith, halves f many)

-- ---- w bits are w - f bits of integers and f of fraction

pub whole : (w f : ℕ) → f ≤ w → 2 ^ w ≡ 2 ^ (w - f) * 2 ^ f
whole w f few = let is : w ≡ (w - f) + f = omega (arith, few) in ap (λ n. 2 ^ n) is ∙ pow-add 2 (w - f) f

pub top : (w f : ℕ) → f + 2 ≤ w → 2 ^ (w - 1) ≡ 2 ^ (w - f - 1) * 2 ^ f
top w f few = let is : w - 1 ≡ (w - f - 1) + f = omega (arith, few) in ap (λ n. 2 ^ n) is ∙ pow-add 2 (w - f - 1) f

split_at : (w f : ℕ) → 6 ≤ f → f + 2 ≤ w → IsTrue (is_width_split w (w - f) (2 ^ f) (2 ^ f / 2))
split_at w f many few = grind (arith, nat_tests, halves, whole, top)

-- ---- results of code with the step `1 << f` and the half step `1 << (f - 1)`; m is 2^w, a literal in goals

pub step_below : (w : Width) (f : ℕ) → f + 2 ≤ bits w → 2 ^ f < 2 ^ hbits w
step_below w f few = grind (arith, nat_tests, half_range-bits, two-pow-succ, pow_pos, pow-le-pow_right)

pub step_is : (w : Width) (m f : ℕ) → m ≡ 2 ^ bits w → f + 2 ≤ bits w → to_z w (1 * 2 ^ f % m) ≡ pos (2 ^ f)
step_is w m f is few = rw (is, one_shl f (bits w) (omega (arith, few))) (to_z_pos w (2 ^ f) (step_below w f few))

half_is : (w : Width) (m f : ℕ) → m ≡ 2 ^ bits w → 6 ≤ f → f + 2 ≤ bits w
    → to_z w (1 * 2 ^ (f - 1) % m) ≡ pos (2 ^ f / 2)
half_is w m f is many few = grind (arith, nat_tests, halves, step_is)

pub whole_is : (w : Width) (m f : ℕ) (x s r : ℤ) → m ≡ 2 ^ bits w → 6 ≤ f → f + 2 ≤ bits w
    → s ≡ wrap (bits w) (x +ℤ to_z w (1 * 2 ^ (f - 1) % m)) → IsFloor f s r → IsNearestWhole (bits w) f x r
whole_is w m f x s r all many few is floor = grind (arith, floor_is_nearest_whole, half_is, split_at, bits_positive)

-- ---- floors by shifts

-- the rest above the greatest multiple
shr_rest : (f : ℕ) (x : ℤ) → (shr_z x (2 ^ f) *ℤ pos (2 ^ f)) ≡ floor_of f x
unfolding fract_of
shr_rest f v1 = grind (arith, div-add-mod', mod-lt, pow_pos)

pub shr_is_floor : (f : ℕ) (x : ℤ) → IsFloor f x (shr_z x (2 ^ f) *ℤ pos (2 ^ f))
shr_is_floor f x = grind (arith, nat_tests, shr_low, pow_pos, shr_high, shr_rest)

pub floor_fits : (w : Width) (f : ℕ) (x r : ℤ) → f + 2 ≤ bits w → SFits w x → IsFloor f x r → SFits w r
floor_fits w f x r few fits floor =
    let least : ℤ = neg_ℤ (pos (2 ^ (bits w - f - 1))) in
    let split = top (bits w) f few in
    let range = half_range-bits w in
    let times = neg-times (pos (2 ^ (bits w - f - 1))) (2 ^ f) in
    let within = fits_low (2 ^ f) least x floor.whole (omega (arith, ints)) (omega (arith, ints)) in
    omega (arith, ints, times_monotone least floor.whole (2 ^ f) within)

-- the result of `(x >> f) << f`
pub shifted_is_floor : (w : Width) (n m f : ℕ) (x : ℤ) → n ≡ bits w → m ≡ 2 ^ n → SFits w x → f + 2 ≤ bits w
    → IsFloor f x (to_z w (of_z w (shr_z (to_z w (of_z w x)) (2 ^ f)) * 2 ^ f % m))
shifted_is_floor w n m f x is all fits few =
    let d : ℕ = 2 ^ f in
    let floor = shr_is_floor f x in
    let fit = floor_fits w f x (shr_z x d *ℤ pos d) few fits floor in
    let step : SFits w (pos d) = omega (arith, ints, step_below w f few) in
    let kept : FitsBits (bits w) (shr_z x d *ℤ pos d) = omega (arith, ints, fit, half_range-bits w) in
    rw (
      to_z-of_z w x fits,
      wrapping_mul-wrap w n m (shr_z x d) d is all (shr_fits w x d fits) step,
      is,
      wrap-fits (bits w) (shr_z x d *ℤ pos d) (bits_positive w) kept,
    ) floor

-- ---- the nearest integer

-- the floor of half a step more, if that fits
pub nearest_is : (w : Width) (m f : ℕ) (x s r : ℤ) → m ≡ 2 ^ bits w → 6 ≤ f → f + 2 ≤ bits w
    → s ≡ (x +ℤ to_z w (1 * 2 ^ (f - 1) % m)) → IsFloor f s r → r ≡ rounded f x
nearest_is w m f x s r all many few is floor =
    let moved = rw (half_is w m f all many few) at is in
    let two = two_halves f many in
    let next = times-next floor.whole (2 ^ f) in
    let nearest : Up x (2 ^ f) floor.whole = record { low = omega (arith, ints); high = omega (arith, ints) } in
    floor.bits ∙ ap (λ z. z *ℤ pos (2 ^ f)) (up_gives x (2 ^ f) floor.whole (pow_pos f) nearest)

-- the same and its bounds, of a wrapping sum that fits
pub nearest_kept : (w : Width) (m f : ℕ) (x s r : ℤ) → m ≡ 2 ^ bits w → 6 ≤ f → f + 2 ≤ bits w
    → s ≡ wrap (bits w) (x +ℤ to_z w (1 * 2 ^ (f - 1) % m)) → IsFloor f s r → FitsBits (bits w) (x +ℤ pos (2 ^ f / 2))
    → (r ≡ rounded f x) × (r ≤ℤ (x +ℤ pos (2 ^ f / 2))) × ((x +ℤ pos (2 ^ f / 2)) <ℤ (r +ℤ pos (2 ^ f)))
nearest_kept w m f x s r all many few is floor fits =
    let half = half_is w m f all many few in
    let sum = is ∙ wrap-fits (bits w) (x +ℤ to_z w (1 * 2 ^ (f - 1) % m)) (bits_positive w) (rw half fits) in
    let same = rw half at sum in (
      nearest_is w m f x s r all many few sum floor,
      rw (← same) floor.low,
      rw (← same) floor.high,
    )

-- less than a quarter of the range moves a number of at most a quarter to one that fits
pub small_fits : (w : Width) (f n : ℕ) (x : ℤ) → f + 2 ≤ bits w → n < 2 ^ f → unsigned_abs x ≤ 2 ^ (bits w - 2)
    → FitsBits (bits w) (x +ℤ pos n)
small_fits w f n x few below small =
    let step : 2 ^ f ≤ 2 ^ (bits w - 2) = pow-le-pow_right (lit< tt) (omega (arith, few)) in
    let suc_quarter : bits w - 1 ≡ suc (bits w - 2) = omega (arith, few) in
    let half : 2 ^ (bits w - 1) ≡ 2 ^ (bits w - 2) + 2 ^ (bits w - 2) = rw suc_quarter (two-pow-succ (bits w - 2)) in
    record {
      low = omega (arith, ints, small, half);
      high = omega (arith, ints, small, half, below, step);
    }

pub nearest_small : (w : Width) (m f : ℕ) (x s r : ℤ) → m ≡ 2 ^ bits w → 6 ≤ f → f + 2 ≤ bits w
    → s ≡ wrap (bits w) (x +ℤ to_z w (1 * 2 ^ (f - 1) % m)) → IsFloor f s r → unsigned_abs x ≤ 2 ^ (bits w - 2)
    → (r ≡ rounded f x) × (r ≤ℤ (x +ℤ pos (2 ^ f / 2))) × ((x +ℤ pos (2 ^ f / 2)) <ℤ (r +ℤ pos (2 ^ f)))
nearest_small w m f x s r all many few is floor small =
    let below : 2 ^ f / 2 < 2 ^ f = omega (arith, two_halves f many, pow_pos f) in
    nearest_kept w m f x s r all many few is floor (small_fits w f (2 ^ f / 2) x few below small)

-- the nearest integer by its bounds, as code returns it
pub rounded_bounds : (w : Width) (f : ℕ) (x r : ℤ) → 6 ≤ f → SFits w r → r ≡ rounded f x
    → (to_z w (of_z w r) ≤ℤ (x +ℤ pos (2 ^ f / 2)))
    × ((x +ℤ pos (2 ^ f / 2)) <ℤ (to_z w (of_z w r) +ℤ pos (2 ^ f)))
rounded_bounds w f x r many fits is =
    let two = two_halves f many in
    let nearest = up_is x (2 ^ f) (pow_pos f) in
    let next = times-next (up x (2 ^ f)) (2 ^ f) in
    let same = to_z-of_z w r fits in
    (omega (arith, ints, same, is, two, nearest.low), omega (arith, ints, same, is, two, next, nearest.high))

-- if half a step more does not fit, neither does the nearest integer
pub no_nearest : (w : Width) (m f : ℕ) (x : ℤ) → m ≡ 2 ^ bits w → 6 ≤ f → f + 2 ≤ bits w → SFits w x
    → (SFits w (x +ℤ to_z w (1 * 2 ^ (f - 1) % m)) → ⊥) → FitsBits (bits w) (rounded f x) → ⊥
no_nearest w m f x all many few fits far near =
    let half : ℕ = 2 ^ f / 2 in
    let too_far = rw (half_is w m f all many few) at far in
    let two = two_halves f many in
    let split = top (bits w) f few in
    let range = half_range-bits w in
    by_lt_z (x +ℤ pos half) (pos (2 ^ hbits w))
    (λ less. too_far (omega (arith, ints, fits, less)))
    (λ more.
    let most : ℤ = pos (2 ^ (bits w - f - 1)) in
    let high = (up_is x (2 ^ f) (pow_pos f)).high in
    let next = times-next (up x (2 ^ f)) (2 ^ f) in
    let above = fits_low (2 ^ f) most (x +ℤ pos half) _ (omega (arith, ints, more)) (omega (arith, ints)) in
    omega (arith, ints, times_monotone most (up x (2 ^ f)) (2 ^ f) above))

-- ---- an integer, and its raw value

low_times : (f : ℕ) (z u : ℤ) → (z *ℤ pos (2 ^ f)) ≤ℤ (u *ℤ pos (2 ^ f)) → z ≤ℤ u
low_times f z u below = fits_low (2 ^ f) z (u *ℤ pos (2 ^ f)) u below (omega (arith, ints, pow_pos f))

-- the raw value fits if and only if the integer fits in the bits above the fraction
pub integer_fits : (w f : ℕ) (u : ℤ) → f + 2 ≤ w → FitsBits w (u *ℤ pos (2 ^ f)) → FitsBits (w - f) u
integer_fits w f u few fits =
    let split = top w f few in
    let half : ℤ = pos (2 ^ (w - f - 1)) in
    let times = neg-times half (2 ^ f) in
    record {
      low = low_times f (neg_ℤ half) u (omega (arith, ints, fits.low));
      high = by_lt_z u half (λ less. less)
          (λ more. omega (arith, ints, fits.high, times_monotone half u (2 ^ f) more));
    }

pub raw_value_fits : (w f : ℕ) (u : ℤ) → f + 2 ≤ w → FitsBits (w - f) u → FitsBits w (u *ℤ pos (2 ^ f))
raw_value_fits w f u few fits =
    let split = top w f few in
    let half : ℤ = pos (2 ^ (w - f - 1)) in
    let times = neg-times half (2 ^ f) in
    let next = times-next u (2 ^ f) in
    let low = times_monotone (neg_ℤ half) u (2 ^ f) fits.low in
    let high = times_monotone (u +ℤ pos 1) half (2 ^ f) (omega (arith, ints, fits.high)) in
    record { low = omega (arith, ints); high = omega (arith, ints, pow_pos f) }

-- the integer, from its raw value
pub shifted_back : (w : Width) (f : ℕ) (x r : ℤ) → SFits w r → r ≡ rounded f x
    → to_z w (of_z w (shr_z (to_z w (of_z w r)) (2 ^ f))) ≡ up x (2 ^ f)
shifted_back w f x r fits is = grind (arith, to_z-of_z, shr_fits, shr_back, pow_pos)
