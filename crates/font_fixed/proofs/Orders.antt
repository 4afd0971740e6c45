-- Results that do not overflow are the nearest numbers, so rounding and scaling keep the order, and distances but for
-- one unit; and the product by the opposite of a factor is the opposite product.
use Rattle.std.proofs.Common.{◌≡◌, ◌≢◌, ◌∙◌, sym, ap, refl, ℕ, zero, suc, ◌*◌, ◌^◌, ◌<◌, ◌≤◌, ℤ, pos, negsuc, neg_ℤ}
use Rattle.std.proofs.Common.{◌+ℤ◌, ◌-ℤ◌, ◌*ℤ◌, ◌≤ℤ◌, ◌<ℤ◌, arith, pow_pos, unsigned_abs, suc-mul}
use Rattle.std.proofs.{lemmas.Int.ints, lemmas.Int.unsigned_abs-mul, Math.IntN.*ℤ-negsuc, Math.IntN.neg_ℤ-neg_ℤ}
use Rattle.font_base.specs.Wrap.Laws.{wrap-fits, wrap_is, wrap_same}
use Rattle.font_base.specs.{Integers.sum-times, Wrap.wrap, Wrap.FitsBits}
use Rattle.font_decimal.specs.Near.{Near, near, up}
use Rattle.font_decimal.proofs.Integers.{times_monotone, neg-times}
use Rattle.font_decimal.proofs.Near.{near_is, near_gives, near_monotone, up_is, up_monotone}
use Rattle.font_fixed.specs.Operations.{IsWrappedNear, IsMulDiv, IsProduct, IsNarrowed, IsNearestWhole, rounded_mul_div}
use Rattle.font_fixed.specs.Rounding.{rounded}

-- a product or a quotient that does not overflow is within half a step of the exact one
pub kept_near : (w d : ℕ) (n r : ℤ) → 0 < w → 0 < d → IsWrappedNear w n d r → FitsBits w (near n d) → Near n d r
kept_near w d n r wide some given fits = rw (given.is ∙ wrap-fits w (near n d) wide fits) (near_is n d some)

-- ---- order

-- of two numbers scaled by one ratio that is not negative, the greater never becomes the smaller
pub scaled_in_order : (w : ℕ) (x y a c r s : ℤ) → 0 < w → IsMulDiv w x a c r → IsMulDiv w y a c s → pos 0 ≤ℤ a
    → pos 0 <ℤ c → x ≤ℤ y → FitsBits w (rounded_mul_div x a c) → FitsBits w (rounded_mul_div y a c)
    → r ≤ℤ s
scaled_in_order w x y (pos a) (pos (suc c)) r s wide first second from some order fits_r fits_s =
    near_monotone (omega arith) (omega arith) (kept_near w (suc c) _ r wide (omega arith) first fits_r)
    (kept_near w (suc c) _ s wide (omega arith) second fits_s)
    (times_monotone _ _ (suc c) (times_monotone x y a order))
scaled_in_order w x y (negsuc a) (pos (suc c)) r s wide first second from some order fits_r fits_s = grind arith
scaled_in_order w x y a (pos zero) r s wide first second from some order fits_r fits_s = grind arith
scaled_in_order w x y a (negsuc c) r s wide first second from some order fits_r fits_s = grind arith

-- nor of two that are narrowed
pub narrowed_in_order : (w d : ℕ) (x y r s : ℤ) → 0 < w → 0 < d → IsNarrowed w x d r → IsNarrowed w y d s → x ≤ℤ y
    → FitsBits w (up x d) → FitsBits w (up y d) → r ≤ℤ s
narrowed_in_order w d x y r s wide some first second order fits_r fits_s =
    let kept_r : r ≡ up x d = first.is ∙ wrap-fits w (up x d) wide fits_r in
    let kept_s : s ≡ up y d = second.is ∙ wrap-fits w (up y d) wide fits_s in
    rw (kept_r, kept_s) (up_monotone (up_is x d some) (up_is y d some) order)

-- nor of two that are rounded to integers
pub rounded_in_order : (w f : ℕ) (x y r s : ℤ) → 0 < w → IsNearestWhole w f x r → IsNearestWhole w f y s → x ≤ℤ y
    → FitsBits w (rounded f x) → FitsBits w (rounded f y) → r ≤ℤ s
rounded_in_order w f x y r s wide first second order fits_r fits_s =
    let kept_r : r ≡ rounded f x = first.is ∙ wrap-fits w (rounded f x) wide fits_r in
    let kept_s : s ≡ rounded f y = second.is ∙ wrap-fits w (rounded f y) wide fits_s in
    let whole = up_monotone (up_is x (2 ^ f) (pow_pos f)) (up_is y (2 ^ f) (pow_pos f)) order in
    rw (kept_r, kept_s) (times_monotone _ _ (2 ^ f) whole)

-- nor of two fractions, or of two products by a number that is not negative, where the results fit
pub ups_in_order : (x y : ℤ) (d : ℕ) → 0 < d → x ≤ℤ y → up x d ≤ℤ up y d
ups_in_order x y d some order = up_monotone (up_is x d some) (up_is y d some) order

pub multiples_in_order : (n m : ℕ) (s : ℤ) (d : ℕ) → 0 < d → pos 0 ≤ℤ s → n ≤ m
    → near (pos n *ℤ s) d ≤ℤ near (pos m *ℤ s) d
multiples_in_order n m (pos s) d some from order =
    near_monotone some some (near_is (pos n *ℤ pos s) d some) (near_is (pos m *ℤ pos s) d some)
    (times_monotone _ _ d (times_monotone (pos n) (pos m) s (grind (arith, order))))
multiples_in_order n m (negsuc s) d some from order = absurd (omega (arith, from))

-- nor of two that are moved by deltas, if the delta of the greater is not the smaller
pub moved_in_order : (x y d e : ℤ) → x ≤ℤ y → d ≤ℤ e
    → up (x *ℤ pos 65536 +ℤ d) 65536 ≤ℤ up (y *ℤ pos 65536 +ℤ e) 65536
moved_in_order x y d e order more =
    up_monotone (up_is (x *ℤ pos 65536 +ℤ d) 65536 (omega arith)) (up_is (y *ℤ pos 65536 +ℤ e) 65536 (omega arith))
    (omega (arith, ints, times_monotone x y 65536 order, more))

-- ---- opposites

-- the opposite of a fraction rounds to the opposite number
pub near-neg : (n : ℤ) (d : ℕ) → 0 < d → near (neg_ℤ n) d ≡ neg_ℤ (near n d)
near-neg n d some =
    let h = near_is n d some in
    let turned = neg-times (near n d) d in
    let size : unsigned_abs (neg_ℤ (near n d)) ≡ unsigned_abs (near n d) = omega (arith, ints) in
    sym (near_gives (neg_ℤ n) d (neg_ℤ (near n d)) some (record {
      close = omega (arith, ints, turned, h.close);
      away = λ tie. rw size (omega (arith, ints, h.away (omega (arith, ints, turned, tie))));
    }))

-- wrapping an opposite
wrap-neg : (w : ℕ) (z : ℤ) → 0 < w → wrap w (neg_ℤ (wrap w z)) ≡ wrap w (neg_ℤ z)
wrap-neg w z wide =
    let given = wrap_is w z wide in
    let turned = neg-times given.turns (2 ^ w) in
    wrap_same w (neg_ℤ (wrap w z)) (neg_ℤ z) given.turns wide (omega (arith, ints, given.differs, turned))

opposite_factor : (x y : ℤ) → neg_ℤ x *ℤ y ≡ neg_ℤ (x *ℤ y)
opposite_factor x v1 = grind (arith, neg-times, *ℤ-negsuc, neg_ℤ-neg_ℤ)

-- the product by the opposite of a number is the opposite, wrapped
pub product_of_opposite : (w f : ℕ) (x y r s : ℤ) → 0 < w → IsProduct w f x y r → IsProduct w f (neg_ℤ x) y s
    → s ≡ wrap w (neg_ℤ r)
product_of_opposite w f x y r s wide first second = grind (arith, opposite_factor, near-neg, pow_pos, wrap-neg)

-- ---- distances

difference-times : (x y z : ℤ) → ((x -ℤ y) *ℤ z) ≡ ((x *ℤ z) -ℤ (y *ℤ z))
difference-times x y z =
    let split : x ≡ ((x -ℤ y) +ℤ y) = omega (arith, ints) in
    omega (arith, ints, ap (λ n. n *ℤ z) split ∙ sum-times (x -ℤ y) y z)

-- two numbers rounded to the nearest, and their difference
near_difference : (n m : ℤ) (d : ℕ) (p q r : ℤ) → 0 < d → Near n d p → Near m d q → Near (n -ℤ m) d r
    → unsigned_abs ((p -ℤ q) -ℤ r) ≤ 1
near_difference n m d p q r some x y z =
    let spread = difference-times (p -ℤ q) r (pos d) in
    let parts = difference-times p q (pos d) in
    grind (arith, ints, spread, parts, unsigned_abs-mul ((p -ℤ q) -ℤ r) (pos d))

exact_distance : (w : ℕ) (x y a c r s t : ℤ) → 0 < w → c ≢ pos 0 → IsMulDiv w x a c r → IsMulDiv w y a c s
    → IsMulDiv w (x -ℤ y) a c t → FitsBits w (rounded_mul_div x a c) → FitsBits w (rounded_mul_div y a c)
    → FitsBits w (rounded_mul_div (x -ℤ y) a c) → unsigned_abs ((r -ℤ s) -ℤ t) ≤ 1
exact_distance w x y a (pos zero) r s t wide some first second third fits_r fits_s fits_t = absurd (some refl)
exact_distance w x y a (pos (suc c)) r s t wide some first second third fits_r fits_s fits_t =
    near_difference (x *ℤ a) (y *ℤ a) (suc c) r s t (omega arith)
    (kept_near w (suc c) _ r wide (omega arith) first fits_r) (kept_near w (suc c) _ s wide (omega arith) second fits_s)
    (rw difference-times at (kept_near w (suc c) _ t wide (omega arith) third fits_t))
exact_distance w x y a (negsuc c) r s t wide some first second third fits_r fits_s fits_t =
    let turned : neg_ℤ ((x -ℤ y) *ℤ a) ≡ (neg_ℤ (x *ℤ a) -ℤ neg_ℤ (y *ℤ a)) =
    omega (arith, ints, difference-times x y a) in
    near_difference (neg_ℤ (x *ℤ a)) (neg_ℤ (y *ℤ a)) (suc c) r s t (omega arith)
    (kept_near w (suc c) _ r wide (omega arith) first fits_r) (kept_near w (suc c) _ s wide (omega arith) second fits_s)
    (rw turned at (kept_near w (suc c) _ t wide (omega arith) third fits_t))

-- the distance of two scaled numbers is within one unit of their scaled distance
pub scaled_distance : (w : ℕ) (x y a c r s t : ℤ) → 0 < w → c ≢ pos 0 → IsMulDiv w x a c r → IsMulDiv w y a c s
    → IsMulDiv w (wrap w (x -ℤ y)) a c t → FitsBits w (x -ℤ y) → FitsBits w (rounded_mul_div x a c)
    → FitsBits w (rounded_mul_div y a c) → FitsBits w (rounded_mul_div (x -ℤ y) a c)
    → unsigned_abs ((r -ℤ s) -ℤ t) ≤ 1
scaled_distance w x y a c r s t wide some first second third fits fits_r fits_s fits_t =
    grind (arith, exact_distance, wrap-fits)

-- ---- up and back

no_half : (j a : ℕ) → 0 < a → 2 * (j * a) ≡ a → ⊥
no_half zero a some half = omega (arith, some, half)
no_half (suc j) a some half = omega (arith, some, half, suc-mul j a)

-- a number that is scaled up and then down by one ratio
back : (x r : ℤ) (a c : ℕ) → 0 < c → c ≤ a → Near (x *ℤ pos a) c r → near (r *ℤ pos c) a ≡ x
back x r a c some most given =
    sym (near_gives (r *ℤ pos c) a x (omega (arith, some, most)) (record {
      close = omega (arith, ints, given.close, most);
      away = λ tie.
          let same : c ≡ a = omega (arith, ints, given.close, most, tie) in
          let apart : 2 * unsigned_abs ((x -ℤ r) *ℤ pos a) ≡ a =
          omega (arith, ints, tie, difference-times x r (pos a), ap (λ k. r *ℤ pos k) same) in
          absurd (no_half (unsigned_abs (x -ℤ r)) a (omega (arith, some, most))
          (rw (unsigned_abs-mul (x -ℤ r) (pos a)) at apart));
    }))

pub scaled_back : (w : ℕ) (x a c r s : ℤ) → 0 < w → FitsBits w x → IsMulDiv w x a c r → IsMulDiv w r c a s
    → pos 0 <ℤ c → c ≤ℤ a → FitsBits w (rounded_mul_div x a c) → s ≡ x
scaled_back w x (pos (suc a)) (pos (suc c)) r s wide fits first second some most fits_r =
    let kept = kept_near w (suc c) _ r wide (omega arith) first fits_r in
    let same = back x r (suc a) (suc c) (omega arith) (omega (arith, ints, most)) kept in
    second.is ∙ ap (λ n. wrap w n) same ∙ wrap-fits w x wide fits
scaled_back w x (pos zero) (pos (suc c)) r s wide fits first second some most fits_r = grind (arith, ints)
scaled_back w x (negsuc a) (pos (suc c)) r s wide fits first second some most fits_r = grind (arith, ints)
scaled_back w x a (pos zero) r s wide fits first second some most fits_r = grind (arith, ints)
scaled_back w x a (negsuc c) r s wide fits first second some most fits_r = grind (arith, ints)

-- ---- for callers
pub ruleset order_calls = (scaled_in_order, narrowed_in_order, rounded_in_order, ups_in_order, multiples_in_order)
