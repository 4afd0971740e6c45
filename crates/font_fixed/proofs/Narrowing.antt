-- Numbers rounded half up, as code computes it: half a step is added, and the remainder of the division by a step is
-- dropped.
use Rattle.std.proofs.Common.{◌≡◌, ◌∙◌, ap, refl, ℕ, ◌+◌, ◌-◌, ◌*◌, ◌/◌, ◌^◌, ◌<◌, ◌≤◌, Bool, ℤ, pos, neg_ℤ, ◌+ℤ◌, ◌*ℤ◌}
use Rattle.std.proofs.Common.{◌%◌, ◌≤ℤ◌, ◌<ℤ◌, arith, IsTrue, nat_lt, ◌&&◌, ◌==◌, pow_pos, SFits, to_z, of_z}
use Rattle.std.proofs.lemmas.Int.{ints, by_lt_z, to_z-of_z}
use Rattle.std.proofs.{lemmas.Bool.Decides.nat_tests, lemmas.Grind.common_steps}
use Rattle.std.specs.Int.{Width}
use mir.Val.{bits}
use lib.Signed.{shr_z}
use Rattle.font_base.specs.Wrap.Laws.{wrap_is, wrap_gives, wrap-wrap}
use Rattle.font_base.specs.{Integers.sum-times, Integers.product-times, Wrap.half_range, Wrap.wrap, Wrap.FitsBits}
use Rattle.font_base.proofs.Widths.{bits_positive, half_range-bits}
use Rattle.font_decimal.specs.Near.{Up, up}
use Rattle.font_decimal.proofs.{Integers.neg-times, Integers.times-next, Integers.times_monotone, Near.up_gives}
use Rattle.font_fixed.specs.Operations.{IsNarrowed, IsNearestWhole, IsFloor}
use Rattle.font_fixed.proofs.{Shifts.shr_low, Shifts.shr_high, Shifts.shr_fits, Sums.sums, Wrapped.wrapping_mul-wrap}

-- if s is at least h * d, the greatest q with q * d <= s is at least h
pub fits_low : (d : ℕ) (h s q : ℤ) → (h *ℤ pos d) ≤ℤ s → s <ℤ ((q *ℤ pos d) +ℤ pos d) → h ≤ℤ q
fits_low d h s q low below = by_lt_z q h (λ less.
    let scaled = times_monotone (q +ℤ pos 1) h d (omega (arith, sums, less)) in
    absurd (omega (arith, sums, low, below, scaled, times-next q d))) (λ more. more)

fits_high : (d h : ℕ) (s q : ℤ) → s <ℤ pos (h * d) → (q *ℤ pos d) ≤ℤ s → q <ℤ pos h
fits_high d h s q high low = grind (arith, common_steps)

-- numbers of w bits are integers of v bits, each of d steps, and half an integer is `half` steps
abbrev pub is_width_split : ℕ → ℕ → ℕ → ℕ → Bool
is_width_split w v d half = nat_lt 0 v &&
    ((d == half + half) && ((2 ^ w == 2 ^ v * d) && (half_range w == half_range v * d)))

record WidthSplit (w v d half : ℕ) : Type 0 where
  some : 0 < v
  steps : 0 < d
  halves : d ≡ half + half
  whole : 2 ^ w ≡ 2 ^ v * d
  top : half_range w ≡ half_range v * d

width_split : (w v d half : ℕ) → IsTrue (is_width_split w v d half) → WidthSplit w v d half
width_split w v d half test = grind (arith, nat_tests, pow_pos)

-- x and half a step, s, wrapped to w bits, and the greatest multiple of d not above: so x / d is rounded to v bits
is_narrowed : (w v d half : ℕ) (x s q : ℤ) → WidthSplit w v d half → 0 < w → s ≡ wrap w (x +ℤ pos half)
    → (q *ℤ pos d) ≤ℤ s → s <ℤ ((q *ℤ pos d) +ℤ pos d) → IsNarrowed v x d q
is_narrowed w v d half x s q it wide is low high =
    let given = wrap_is w (x +ℤ pos half) wide in
    let turns : ℤ = given.turns *ℤ pos (2 ^ v) in
    let apart : (turns *ℤ pos d) ≡ (given.turns *ℤ pos (2 ^ w)) = rw it.whole
    (product-times given.turns (pos (2 ^ v)) (pos d)) in
    let next = times-next (q +ℤ turns) d in
    let nearest : Up x d (q +ℤ turns) =
    omega (arith, sums, it.halves, is, low, high, apart, given.differs, sum-times q turns (pos d), next) in
    let fits : FitsBits v q = record {
      low = fits_low d (neg_ℤ (pos (half_range v))) s q
          (rw (neg-times (pos (half_range v)) d, is, ← it.top) given.fits.low) high;
      high = fits_high d (half_range v) s q (rw (is, ← it.top) given.fits.high) low;
    } in
    let wrapped = wrap_gives v (q +ℤ turns) q it.some (record { fits = fits; turns = given.turns; differs = refl }) in
    record {
      rounded = q +ℤ turns;
      nearest = nearest;
      wrapped = wrapped;
      is = wrapped ∙ ap (wrap v) (up_gives x d (q +ℤ turns) it.steps nearest);
    }

-- wrapping an integer, and then multiplying it by the steps
wrap-times : (w v d half : ℕ) (z : ℤ) → WidthSplit w v d half → 0 < w → (wrap v z *ℤ pos d) ≡ wrap w (z *ℤ pos d)
wrap-times w v d half z it wide =
    let given = wrap_is v z it.some in
    let low = times_monotone (neg_ℤ (pos (half_range v))) (wrap v z) d given.fits.low in
    let high = times_monotone (wrap v z +ℤ pos 1) (pos (half_range v)) d (omega (arith, sums, given.fits.high)) in
    let next = times-next (wrap v z) d in
    let apart = product-times given.turns (pos (2 ^ v)) (pos d) in
    wrap_gives w (z *ℤ pos d) (wrap v z *ℤ pos d) wide (record {
      fits = omega (arith, sums, it.top, it.steps, low, high, neg-times (pos (half_range v)) d, next);
      turns = given.turns;
      differs = ap (λ n. n *ℤ pos d) given.differs ∙ sum-times (wrap v z) (given.turns *ℤ pos (2 ^ v)) (pos d)
          ∙ rw it.whole (ap (λ n. (wrap v z *ℤ pos d) +ℤ n) apart);
    })

-- the same if the bits of the integer are kept
pub floor_is_nearest_whole : (w f : ℕ) (x s r : ℤ) → s ≡ wrap w (x +ℤ pos (2 ^ f / 2)) → IsFloor f s r
    → IsTrue (is_width_split w (w - f) (2 ^ f) (2 ^ f / 2)) → 0 < w → IsNearestWhole w f x r
floor_is_nearest_whole w f x s r is floor test wide =
    let it = width_split w (w - f) (2 ^ f) (2 ^ f / 2) test in
    let narrow = is_narrowed w (w - f) (2 ^ f) (2 ^ f / 2) x s floor.whole it wide is (rw (← floor.bits) floor.low)
    (rw (← floor.bits) floor.high) in
    let steps = λ (z : ℤ). wrap-times w (w - f) (2 ^ f) (2 ^ f / 2) z it wide in
    record {
      whole = narrow.rounded;
      nearest = narrow.nearest;
      wrapped = floor.bits ∙ ap (λ n. n *ℤ pos (2 ^ f)) narrow.wrapped ∙ steps narrow.rounded;
      is = floor.bits ∙ ap (λ n. n *ℤ pos (2 ^ f)) narrow.is ∙ steps (up x (2 ^ f));
    }

-- a half step is added, and the sum shifted to the right
pub shr_is_narrowed : (w : Width) (v d half : ℕ) (x s : ℤ) → SFits w s → s ≡ wrap (bits w) (x +ℤ pos half)
    → IsTrue (is_width_split (bits w) v d half) → IsNarrowed v x d (to_z w (of_z w (shr_z (to_z w (of_z w s)) d)))
shr_is_narrowed w v d half x s fits is test =
    let it = width_split (bits w) v d half test in
    rw (to_z-of_z w s fits, to_z-of_z w (shr_z s d) (shr_fits w s d fits))
    (is_narrowed (bits w) v d half x s (shr_z s d) it (bits_positive w) is (shr_low s d it.steps)
    (shr_high s d it.steps))

-- the low bits of a narrowed number, as code computes them
pub narrowed_low_bits : (w u : Width) (v : ℕ) (x : ℤ) (d : ℕ) (q l r : ℤ) → 0 < d → bits u ≤ v → IsNarrowed v x d q
    → SFits w q → l ≡ wrap (bits u) (to_z w (of_z w q)) → SFits u l
    → r ≡ to_z u (of_z u l) → IsNarrowed (bits u) x d r
narrowed_low_bits w u v x d q l r some less given fits is narrow same = grind (arith, to_z-of_z, wrap-wrap)

-- a number of v bits, shifted to the left of w and back
pub shr_back : (d : ℕ) (z : ℤ) → 0 < d → shr_z (z *ℤ pos d) d ≡ z
shr_back d z some = grind (arith, sums)

-- the low bits of a number, by two shifts
pub shifts-wrap : (w v : Width) (m d : ℕ) (x : ℤ) → m ≡ 2 ^ bits w
    → IsTrue (is_width_split (bits w) (bits v) d (d / 2)) → SFits w x → SFits w (pos d)
    → to_z v (of_z v (to_z w (of_z w (shr_z (to_z w (of_z w x * d % m)) d)))) ≡ wrap (bits v) x
shifts-wrap w v m d x all test fits step =
    let it = width_split (bits w) (bits v) d (d / 2) test in
    let low : ℤ = wrap (bits v) x in
    let range = (wrap_is (bits v) x (bits_positive v)).fits in
    let narrow : SFits v low = omega (arith, ints, range, half_range-bits v) in
    let wide : SFits w (low *ℤ pos d) = rw (wrap-times (bits w) (bits v) d (d / 2) x it (bits_positive w))
    (omega (arith, ints, (wrap_is (bits w) (x *ℤ pos d) (bits_positive w)).fits, half_range-bits w)) in
    let small : SFits w low = rw (shr_back d low it.steps) at (shr_fits w (low *ℤ pos d) d wide) in
    rw (
      wrapping_mul-wrap w (bits w) m x d refl all fits step,
      ← wrap-times (bits w) (bits v) d (d / 2) x it (bits_positive w),
      shr_back d low it.steps,
      to_z-of_z w low small,
      to_z-of_z v low narrow,
    )
    refl
