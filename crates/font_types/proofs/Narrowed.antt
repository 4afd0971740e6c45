-- Narrowed numbers that do not wrap, and exact sums and negations of integers.
use Rattle.std.proofs.Common.{◌≡◌, ℕ, ◌<◌, ◌-◌, ◌/◌, ℤ, pos, neg_ℤ, ◌+ℤ◌, ◌*ℤ◌, ◌≤ℤ◌, arith, pow_pos}
use Rattle.std.proofs.lemmas.Int.{ints, by_lt_z}
use Rattle.font_base.specs.{Wrap.wrap, Wrap.Laws.wrap-fits}
use Rattle.font_decimal.specs.Near.{up}
use Rattle.font_decimal.proofs.Integers.{times_monotone, times-next}
use Rattle.font_decimal.proofs.Near.{up_is, up_monotone, up_whole}
use Rattle.font_fixed.proofs.Integral.{negated_is_integral, sum_is_integral, wrapped_is_integral}
use Rattle.font_fixed.specs.Operations.{IsIntegral, least, greatest}

-- a number that is rounded to one within the bounds of the narrower type does not wrap
pub narrowed_is_exact : (v d : ℕ) (b : ℤ) → 0 < v → 0 < d → (least v *ℤ pos d) ≤ℤ b
    → b ≤ℤ ((greatest v *ℤ pos d) +ℤ pos ((d - 1) / 2)) → wrap v (up b d) ≡ up b d
narrowed_is_exact v d b wide some low high =
    let q : ℤ = up b d in
    let nearest = up_is b d some in
    let above : least v ≤ℤ q = up_monotone (up_whole (least v) d some) nearest low in
    let below : q ≤ℤ greatest v = by_lt_z (greatest v) q
    (λ more. absurd (omega (
      arith,
      ints,
      nearest.low,
      high,
      times_monotone (greatest v +ℤ pos 1) q d (omega (arith, ints, more)),
      times-next (greatest v) d,
    )))
    (λ less. less) in
    wrap-fits v q wide (omega (arith, ints, above, below, pow_pos (v - 1)))

pub ruleset exact_narrow_calls = (narrowed_is_exact)

pub negation_is_integral : (f w : ℕ) (a r : ℤ) → r ≡ wrap w (neg_ℤ a) → f < w → IsIntegral f a → IsIntegral f r
negation_is_integral f w a r is few is_a = rw is (wrapped_is_integral f w (neg_ℤ a) few (negated_is_integral f a is_a))

-- an exact sum of integers is an integer
pub exact_sum_is_integral : (f : ℕ) (a b r : ℤ) → r ≡ (a +ℤ b) → IsIntegral f a → IsIntegral f b → IsIntegral f r
exact_sum_is_integral f a b r is is_a is_b = rw is (sum_is_integral f a b is_a is_b)
