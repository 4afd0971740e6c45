-- Small results, which do not wrap and so are the nearest numbers.
use Rattle.std.proofs.Common.{◌≡◌, ◌∙◌, ℕ, ◌*◌, ◌^◌, ◌<◌, ◌≤◌, ℤ, pos, neg_ℤ, unsigned_abs, ◌*ℤ◌, ◌≤ℤ◌, arith, pow_pos}
use Rattle.std.proofs.Common.{mul-le-mul}
use Rattle.std.proofs.{lemmas.Bool.Decides.nat_tests, lemmas.Int.ints, lemmas.Int.unsigned_abs-mul}
use Rattle.font_base.specs.{Wrap.FitsBits, Wrap.half_range, Wrap.Laws.wrap-fits}
use Rattle.font_decimal.specs.Near.{near}
use Rattle.font_decimal.proofs.{Near.near_gives, Near.near_monotone, Integers.neg-times, Integers.times_monotone}
use Rattle.font_fixed.proofs.NumberLaws.{near_exact}
use Rattle.font_fixed.specs.Operations.{IsWrappedNear, IsProduct}

-- a quotient of at most m fits in w bits
pub small_near : (w m d : ℕ) (n r : ℤ) → 0 < w → 0 < d → IsWrappedNear w n d r → unsigned_abs n ≤ m * d
    → m < half_range w → r ≡ near n d
small_near w m d n r wide some given room small =
    let high : n ≤ℤ (pos m *ℤ pos d) = omega (arith, ints, room) in
    let low_is : neg_ℤ (pos m *ℤ pos d) ≤ℤ n = omega (arith, ints, room) in
    let low : (neg_ℤ (pos m) *ℤ pos d) ≤ℤ n = rw (neg-times (pos m) d) low_is in
    let below = near_monotone some some given.nearest (near_exact (pos m) d some) (times_monotone _ _ d high) in
    let above = near_monotone some some (near_exact (neg_ℤ (pos m)) d some) given.nearest (times_monotone _ _ d low) in
    let inside : FitsBits w given.rounded = record {
      low = omega (arith, ints, above, small);
      high = omega (arith, ints, below, small);
    } in
    given.wrapped ∙ wrap-fits w given.rounded wide inside ∙ near_gives n d given.rounded some given.nearest

factors_small : (u v k : ℕ) (x a : ℤ) → unsigned_abs x ≤ u → unsigned_abs a ≤ v → u * v ≤ k
    → unsigned_abs (x *ℤ a) ≤ k
factors_small u v k x a xs bs room = grind (arith, nat_tests, mul-le-mul, unsigned_abs-mul)

-- the product of numbers of at most u and v, in steps
pub product_near : (w f u v m : ℕ) (x y r : ℤ) → 0 < w → IsProduct w f x y r → unsigned_abs x ≤ u
    → unsigned_abs y ≤ v → u * v ≤ m * 2 ^ f → m < half_range w → r ≡ near (x *ℤ y) (2 ^ f)
product_near w f u v m x y r wide given xs ys room small =
    small_near w m (2 ^ f) (x *ℤ y) r wide (pow_pos f) given (factors_small u v (m * 2 ^ f) x y xs ys room) small
