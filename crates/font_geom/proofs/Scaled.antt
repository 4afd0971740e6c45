-- Scaled units: no overflow of 16 bits, the distance from the exact coordinate, order and opposites.
use Rattle.std.proofs.Common.{◌≡◌, ◌≢◌, ◌∙◌, ap, sym, refl, ℕ, zero, suc, ◌*◌, ◌^◌, ◌<◌, ◌≤◌, ℤ, pos, negsuc, neg_ℤ}
use Rattle.std.proofs.Common.{◌+ℤ◌, ◌*ℤ◌, ◌≤ℤ◌, lit<, arith, unsigned_abs, SFits, w16, w32, mul-le-mul_right}
use Rattle.std.proofs.{lemmas.Int.ints, lemmas.Int.unsigned_abs-mul, Math.IntN.*ℤ_comm}
use Rattle.font_base.specs.{Wrap.FitsBits, Wrap.wrap, Wrap.Laws.wrap-fits, Integers.sum-times, Integers.product-times}
use Rattle.font_decimal.specs.Near.{near}
use Rattle.font_decimal.proofs.{Near.near_is, Near.near_monotone, Integers.times_monotone}
use Rattle.font_fixed.proofs.{NumberLaws.near_exact, Orders.near-neg, Sums.sums}
use Rattle.font_geom.specs.{FixedMatrix.rounded_product, Scale.factor_of, Scale.IsCloseScaled}
use Rattle.font_geom.proofs.Bounds.{Close, Close-times, rounded_close}

-- the product of few units and a factor of 32 bits fits in them
pub units_fit : (u s : ℤ) → unsigned_abs u ≤ 65535 → SFits w32 s → FitsBits 32 (rounded_product u s)
units_fit u s few fits =
    let size : unsigned_abs s ≤ 2 ^ 31 = omega (arith, ints, fits) in
    let most : unsigned_abs u * unsigned_abs s ≤ 65535 * 2 ^ 31 =
    omega (arith, mul-le-mul_right (unsigned_abs s) few, size) in
    let nearest = near_is (u *ℤ s) 65536 (lit< tt) in
    omega (arith, ints, nearest.close, unsigned_abs-mul u s, most)

-- the magnitude of the product of 16-bit units is at most 2^30, and the product fits in 32 bits
pub word_bounded : (u s : ℤ) → SFits w16 u → SFits w32 s → unsigned_abs (rounded_product u s) ≤ 2 ^ 30
word_bounded u s few fits =
    let size : unsigned_abs s ≤ 2 ^ 31 = omega (arith, ints, fits) in
    let units : unsigned_abs u ≤ 32768 = omega (arith, ints, few) in
    let most : unsigned_abs u * unsigned_abs s ≤ 32768 * 2 ^ 31 =
    omega (arith, mul-le-mul_right (unsigned_abs s) units, size) in
    let nearest = near_is (u *ℤ s) 65536 (lit< tt) in
    omega (arith, ints, nearest.close, unsigned_abs-mul u s, most)

pub word_unwrapped : (u s : ℤ) → SFits w16 u → SFits w32 s → wrap 32 (rounded_product u s) ≡ rounded_product u s
word_unwrapped u s few fits =
    wrap-fits 32 (rounded_product u s) (lit< tt) (units_fit u s (omega (arith, ints, few)) fits)

pub ruleset word_calls = (word_unwrapped, word_bounded)

-- ---- the distance

exchange : (a b c : ℤ) → ((a *ℤ b) *ℤ c) ≡ ((a *ℤ c) *ℤ b)
exchange a b c = cc (product-times a b c, product-times a c b, *ℤ_comm b c)

close_to : (size u : ℤ) (m : ℕ) → 0 < m → IsCloseScaled size m u (rounded_product u (factor_of size m))
close_to size u m some =
    let s = factor_of size m in
    let r = rounded_product u s in
    let nearest = near_is (size *ℤ pos 65536) m some in
    let factor : Close m ((s *ℤ pos m) *ℤ pos 2) (size *ℤ pos 131072) = omega (arith, sums, nearest.close) in
    let turned : ((s *ℤ pos m) *ℤ u) ≡ ((u *ℤ s) *ℤ pos m) = cc (exchange s (pos m) u, *ℤ_comm s u) in
    omega (
      arith,
      sums,
      Close-times m _ _ u factor,
      Close-times 32768 _ _ (pos m) (rounded_close u s),
      exchange (s *ℤ pos m) (pos 2) u,
      turned,
      exchange size (pos 131072) u,
      *ℤ_comm size u,
      exchange r (pos 65536) (pos m),
    )

-- ---- order and opposites

factor_not_negative : (size : ℤ) (m : ℕ) → 0 < m → pos 0 ≤ℤ size → pos 0 ≤ℤ factor_of size m
factor_not_negative size m some positive =
    near_monotone some some (near_exact (pos 0) m some) (near_is (size *ℤ pos 65536) m some)
    (times_monotone (pos 0 *ℤ pos m) (size *ℤ pos 65536) m (omega (arith, ints, positive)))

ordered : (u v s : ℤ) → pos 0 ≤ℤ s → u ≤ℤ v → (u *ℤ s) ≤ℤ (v *ℤ s)
ordered u v (pos s) positive order = times_monotone u v s order
ordered u v (negsuc s) positive order = grind (arith, ints)

-- a rule: products by a factor that is not negative are in the order of the units
pub products_in_order : (u v s : ℤ) → pos 0 ≤ℤ s → u ≤ℤ v → rounded_product u s ≤ℤ rounded_product v s
products_in_order u v s positive order =
    near_monotone (lit< tt) (lit< tt) (near_is (u *ℤ s) 65536 (lit< tt)) (near_is (v *ℤ s) 65536 (lit< tt))
    (times_monotone (u *ℤ s) (v *ℤ s) 65536 (ordered u v s positive order))

in_order : (size u v : ℤ) (m : ℕ) → 0 < m → pos 0 ≤ℤ size → u ≤ℤ v
    → rounded_product u (factor_of size m) ≤ℤ rounded_product v (factor_of size m)
in_order size u v m some positive order =
    products_in_order u v (factor_of size m) (factor_not_negative size m some positive) order

opposite_factor : (v s : ℤ) → (neg_ℤ v *ℤ s) ≡ neg_ℤ (v *ℤ s)
opposite_factor v s =
    let none : (neg_ℤ v +ℤ v) ≡ pos 0 = omega (arith, ints) in
    omega (arith, ints, sum-times (neg_ℤ v) v s, ap (λ n. n *ℤ s) none)

-- ---- results of the calls: q and r are the units u and v, scaled by the factor s

some_units : (m : ℕ) → m ≢ 0 → 0 < m
some_units zero some = absurd (some refl)
some_units (suc m) some = omega arith

pub scaled_close : (size u s q : ℤ) (m : ℕ) → m ≢ 0 → s ≡ factor_of size m → q ≡ rounded_product u s
    → IsCloseScaled size m u q
scaled_close size u s q m some factor first = rw (first, factor) (close_to size u m (some_units m some))

pub scaled_in_order : (size u v s q r : ℤ) (m : ℕ) → m ≢ 0 → s ≡ factor_of size m → q ≡ rounded_product u s
    → r ≡ rounded_product v s → pos 0 ≤ℤ size → u ≤ℤ v → q ≤ℤ r
scaled_in_order size u v s q r m some factor first second positive order =
    rw (first, second, factor) (in_order size u v m (some_units m some) positive order)

pub scaled_opposite : (u v s q r : ℤ) → q ≡ rounded_product u s → r ≡ rounded_product v s → u ≡ neg_ℤ v → q ≡ neg_ℤ r
scaled_opposite u v s q r first second same =
    first ∙ ap (λ n. rounded_product n s) same ∙ ap (λ n. near n 65536) (opposite_factor v s)
    ∙ near-neg (v *ℤ s) 65536 (lit< tt) ∙ ap neg_ℤ (sym second)

pub ruleset scaled_calls = (scaled_close, scaled_in_order, scaled_opposite)
