-- The distance of a point from its exact image, if all entries and coordinates fit in 32 bits; and lemmas for callers
-- on matrices whose entries are small enough for that.
use Rattle.std.proofs.Common.{◌≡◌, ◌∙◌, ap, ℕ, ◌+◌, ◌*◌, ◌^◌, ◌<◌, ◌≤◌, ℤ, pos, ◌+ℤ◌, ◌-ℤ◌, ◌*ℤ◌, ◌≤ℤ◌, unsigned_abs}
use Rattle.std.proofs.Common.{lit<, arith, ◌/◌, ◌&&◌, IsTrue, nat_lt, mul-le-mul_right, le_trans, SFits, w32, sym}
use Rattle.std.proofs.Math.IntN.{*ℤ_comm, +ℤ_comm, +ℤ_assoc}
use Rattle.std.proofs.{lemmas.Int.unsigned_abs-mul, lemmas.Int.ints, lemmas.Bool.Decides.nat_tests}
use Rattle.font_base.specs.Wrap.Laws.{wrap-fits, wrap-add_left, wrap-add_right}
use Rattle.font_base.specs.{Integers.sum-times, Integers.product-times, Wrap.FitsBits}
use Rattle.font_decimal.proofs.Near.{near_is}
use Rattle.font_fixed.proofs.{Calls.add_zero, Sums.sums}
use Rattle.font_fixed.specs.{Operations.IsProduct, Operations.WrapsTo, Fixed.Fixed, Fixed.fixed_bits}
use Rattle.font_geom.proofs.FixedCalls.{product_value, image_value}
use Rattle.font_geom.specs.Matrix.{linear_form, affine_form, image_of, matrix_product, FitsEach}
use Rattle.font_geom.specs.Matrix.{IsProductOf, IsTransformed}
use Rattle.font_geom.specs.FixedMatrix.{matrix_bits, point_bits}
use Rattle.font_geom.specs.FixedMatrix.{rounded_image, rounded_matrix_product, rounded_product, wrapped_product}
use Rattle.font_geom.specs.FixedMatrix.{wrapped_sum, exact_coordinate, IsWithin, exact_row, IsCloseImage, FitsComposed}
use Rattle.font_geom.specs.FixedMatrix.{FitsInTurn, IsCloseComposed, IsCloseInTurn, FitsPoint, IsBounded}
use Rattle.font_geom.specs.FixedMatrix.{IsBoundedPoint, form_bound, has_room_composed, has_room_in_turn}
use Rattle.font_geom.specs.{declared.matrix.Matrix.Matrix, declared.point.Point.Point}

-- a and b are at most e apart
pub record Close (e : ℕ) (a b : ℤ) : Type 0 where
  pub low : a ≤ℤ (b +ℤ pos e)
  pub high : b ≤ℤ (a +ℤ pos e)

pub Close-times : (e : ℕ) (a b x : ℤ) → Close e a b → Close (e * unsigned_abs x) (a *ℤ x) (b *ℤ x)
Close-times e a b x p =
    let split : a ≡ ((a -ℤ b) +ℤ b) = omega (arith, sums) in
    let spread = ap (λ n. n *ℤ x) split ∙ sum-times (a -ℤ b) b x in
    let apart : unsigned_abs (a -ℤ b) ≤ e = omega (arith, sums, p) in
    omega (arith, sums, spread, unsigned_abs-mul (a -ℤ b) x, mul-le-mul_right (unsigned_abs x) apart)

-- a rounded product is half a step off
pub rounded_close : (x y : ℤ) → Close 32768 (rounded_product x y *ℤ pos 65536) (x *ℤ y)
rounded_close x y = let nearest = near_is (x *ℤ y) 65536 (lit< tt) in omega (arith, sums, nearest.close)

linear_close : (p x q y : ℤ) → Close 65536 (linear_form ◌+ℤ◌ rounded_product p x q y *ℤ pos 65536)
    (linear_form ◌+ℤ◌ ◌*ℤ◌ p x q y)
linear_close p x q y = omega (arith, sums, rounded_close p x, rounded_close q y)

affine_close : (p x q y d : ℤ) → Close 65536 (affine_form ◌+ℤ◌ rounded_product p x q y d *ℤ pos 65536)
    (affine_form ◌+ℤ◌ ◌*ℤ◌ p x q y (pos 65536 *ℤ d))
affine_close p x q y d = omega (arith, sums, rounded_close p x, rounded_close q y)

image_close : (p q d : ℤ) (at : Point ℤ) → unsigned_abs
    ((pos 65536 *ℤ affine_form ◌+ℤ◌ rounded_product p at.x q at.y d) -ℤ exact_row p q d at) ≤ 65536
image_close p q d at = omega (arith, sums, affine_close p at.x q at.y d)

-- a second rounding, of numbers u, v and w that are near to finer ones
row_close : (e f : ℕ) (u v w x y fine_u fine_v fine_w : ℤ) → Close e (u *ℤ pos 65536) fine_u
    → Close e (v *ℤ pos 65536) fine_v → Close f (w *ℤ pos 65536) fine_w
    → Close (65536 * (65536 + f) + e * (unsigned_abs x + unsigned_abs y))
    (pos (2 ^ 32) *ℤ affine_form ◌+ℤ◌ rounded_product u x v y w)
    ((fine_u *ℤ x) +ℤ (fine_v *ℤ y) +ℤ (pos 65536 *ℤ fine_w))
row_close e f u v w x y fine_u fine_v fine_w p q r =
    omega (
      arith,
      sums,
      r,
      rounded_close u x,
      rounded_close v y,
      factor_out u x,
      factor_out v y,
      Close-times e (u *ℤ pos 65536) fine_u x p,
      Close-times e (v *ℤ pos 65536) fine_v y q,
    )
  where
    factor_out : (a b : ℤ) → ((a *ℤ pos 65536) *ℤ b) ≡ ((a *ℤ b) *ℤ pos 65536)
    factor_out a b = cc (product-times a (pos 65536) b, product-times a b (pos 65536), *ℤ_comm (pos 65536) b)

-- ---- exact sums of exact products

times-sum : (x y z : ℤ) → (x *ℤ (y +ℤ z)) ≡ ((x *ℤ y) +ℤ (x *ℤ z))
times-sum x y z = cc (*ℤ_comm x (y +ℤ z), sum-times y z x, *ℤ_comm x y, *ℤ_comm x z)

literal_out : (a b : ℤ) → (a *ℤ (pos 65536 *ℤ b)) ≡ (pos 65536 *ℤ (a *ℤ b))
literal_out a b = cc (*ℤ_comm a (pos 65536 *ℤ b), product-times (pos 65536) b a, *ℤ_comm b a)

literals : (a : ℤ) → (pos 65536 *ℤ (pos 65536 *ℤ a)) ≡ (pos (2 ^ 32) *ℤ a)
literals a = omega (arith, sums)

sum_exchange : (a b c : ℤ) → (a +ℤ (b +ℤ c)) ≡ (b +ℤ (a +ℤ c))
sum_exchange a b c = omega (arith, sums)

by_columns : (p q d : ℤ) (b : Matrix ℤ) (at : Point ℤ) →
    affine_form ◌+ℤ◌ ◌*ℤ◌ (linear_form ◌+ℤ◌ ◌*ℤ◌ p b.xx q b.yx) at.x (linear_form ◌+ℤ◌ ◌*ℤ◌ p b.xy q b.yy) at.y
    (pos 65536 *ℤ affine_form ◌+ℤ◌ ◌*ℤ◌ p b.dx q b.dy (pos 65536 *ℤ d))
    ≡ exact_coordinate p q d b at
by_columns p q d b at = simp
    (sum-times, times-sum, product-times, literals, literal_out, +ℤ_assoc, +ℤ_comm, sum_exchange)

composed_close : (p q d : ℤ) (b : Matrix ℤ) (at : Point ℤ) →
    IsWithin (65536 * (unsigned_abs at.x + unsigned_abs at.y + 2 * 65536)) (exact_coordinate p q d b at)
    (affine_form ◌+ℤ◌ rounded_product (linear_form ◌+ℤ◌ rounded_product p b.xx q b.yx) at.x
    (linear_form ◌+ℤ◌ rounded_product p b.xy q b.yy) at.y
    (affine_form ◌+ℤ◌ rounded_product p b.dx q b.dy d))
composed_close p q d b at =
    let once = linear_form ◌+ℤ◌ rounded_product in
    let close = row_close 65536 65536 (once p b.xx q b.yx) (once p b.xy q b.yy) (once p b.dx q b.dy +ℤ d) at.x at.y
    _ _ _ (linear_close p b.xx q b.yx) (linear_close p b.xy q b.yy) (affine_close p b.dx q b.dy d) in
    rw (← by_columns p q d b at) (omega (arith, sums, close))

in_turn_close : (p q d : ℤ) (b : Matrix ℤ) (at : Point ℤ) →
    IsWithin (65536 * (unsigned_abs p + unsigned_abs q + 65536)) (exact_coordinate p q d b at)
    (affine_form ◌+ℤ◌ rounded_product p (image_of ◌+ℤ◌ rounded_product b at).x q (image_of ◌+ℤ◌ rounded_product b at).y
    d)
in_turn_close p q d b at =
    let u = affine_form ◌+ℤ◌ rounded_product b.xx at.x b.xy at.y b.dx in
    let v = affine_form ◌+ℤ◌ rounded_product b.yx at.x b.yy at.y b.dy in
    let fine_u = affine_form ◌+ℤ◌ ◌*ℤ◌ b.xx at.x b.xy at.y (pos 65536 *ℤ b.dx) in
    let fine_v = affine_form ◌+ℤ◌ ◌*ℤ◌ b.yx at.x b.yy at.y (pos 65536 *ℤ b.dy) in
    let none : Close 0 (d *ℤ pos 65536) (d *ℤ pos 65536) = omega (arith, sums) in
    let close = row_close 65536 0 u v d p q fine_u fine_v _ (affine_close b.xx at.x b.xy at.y b.dx)
    (affine_close b.yx at.x b.yy at.y b.dy) none in
    rw (*ℤ_comm p u, *ℤ_comm q v, *ℤ_comm p fine_u, *ℤ_comm q fine_v) (omega (arith, sums, close))

-- ---- results of the calls: wrapping changes nothing if the exact sums fit in 32 bits

pub image_is_close : (a : Matrix ℤ) (p moved : Point ℤ) → moved ≡ image_of wrapped_sum wrapped_product a p
    → FitsPoint (image_of ◌+ℤ◌ rounded_product a p) → IsCloseImage a p moved
image_is_close a p moved value fits = grind (arith, wrap-add_left, wrap-add_right, wrap-fits, image_close)

pub composed_is_close : (a b : Matrix ℤ) (p moved : Point ℤ) → moved ≡ image_of wrapped_sum wrapped_product
    (matrix_product wrapped_sum wrapped_product a b) p
    → FitsComposed a b p → IsCloseComposed a b p moved
composed_is_close a b p moved value fits = grind (arith, wrap-add_left, wrap-add_right, wrap-fits, composed_close)

pub in_turn_is_close : (a b : Matrix ℤ) (p moved : Point ℤ) → moved ≡ image_of wrapped_sum wrapped_product a
    (image_of wrapped_sum wrapped_product b p)
    → FitsInTurn a b p → IsCloseInTurn a b p moved
in_turn_is_close a b p moved value fits = grind (arith, wrap-add_left, wrap-add_right, wrap-fits, in_turn_close)

-- ---- results of checked calls: the exact sums themselves
product_bound : (u v : ℕ) (x y : ℤ) → unsigned_abs x ≤ u → unsigned_abs y ≤ v
    → unsigned_abs (rounded_product x y) ≤ u * v / 65536 + 1
product_bound u v x y low high = grind (arith, near_is (x *ℤ y) 65536 (lit< tt), unsigned_abs-mul x y)

pub rounded_product_small : (x y : ℤ) → SFits w32 x → SFits w32 y → unsigned_abs (rounded_product x y) ≤ 2 ^ 47
rounded_product_small x y low high =
    omega (arith, ints, product_bound (2 ^ 31) (2 ^ 31) x y (omega (arith, ints)) (omega (arith, ints)))

pub affine_zero : (p x q y : ℤ) → affine_form ◌+ℤ◌ rounded_product p x q y (pos 0)
    ≡ linear_form ◌+ℤ◌ rounded_product p x q y
affine_zero p x q y = add_zero (linear_form ◌+ℤ◌ rounded_product p x q y)

pub image_unwrapped : (m : Matrix ℤ) (p : Point ℤ) → FitsPoint (rounded_image m p)
    → rounded_image m p ≡ image_of wrapped_sum wrapped_product m p
image_unwrapped m p fits = grind (arith, wrap-add_left, wrap-add_right, wrap-fits)

pub product_unwrapped : (a b : Matrix ℤ) → FitsEach (FitsBits 32) (rounded_matrix_product a b)
    → rounded_matrix_product a b ≡ matrix_product wrapped_sum wrapped_product a b
product_unwrapped a b fits = grind (arith, wrap-add_left, wrap-add_right, wrap-fits)

-- the checked calls in sequence: m is a * b, and moved is the image of p under it; or first is b * p
pub checked_composed_value : (a b m : Matrix ℤ) (p moved : Point ℤ) → m ≡ rounded_matrix_product a b
    → moved ≡ rounded_image m p → FitsEach (FitsBits 32) (rounded_matrix_product a b) → FitsPoint (rounded_image m p)
    → moved ≡ image_of wrapped_sum wrapped_product (matrix_product wrapped_sum wrapped_product a b) p
checked_composed_value a b m p moved product image fits_product fits_image =
    cc (product, image, product_unwrapped a b fits_product, image_unwrapped m p fits_image)

pub checked_composed_is_close : (a b m : Matrix ℤ) (p moved : Point ℤ) → m ≡ rounded_matrix_product a b
    → moved ≡ rounded_image m p → IsCloseComposed a b p moved
checked_composed_is_close a b m p moved product image = rw (image, product) (record {
  x = composed_close a.xx a.xy a.dx b p;
  y = composed_close a.yx a.yy a.dy b p;
})

pub checked_in_turn_value : (a b : Matrix ℤ) (p first moved : Point ℤ) → first ≡ rounded_image b p
    → moved ≡ rounded_image a first → FitsPoint (rounded_image b p) → FitsPoint (rounded_image a first)
    → moved ≡ image_of wrapped_sum wrapped_product a (image_of wrapped_sum wrapped_product b p)
checked_in_turn_value a b p first moved is_first image fits_first fits_image =
    cc (is_first, image, image_unwrapped b p fits_first, image_unwrapped a first fits_image)

pub checked_in_turn_is_close : (a b : Matrix ℤ) (p first moved : Point ℤ) → first ≡ rounded_image b p
    → moved ≡ rounded_image a first → IsCloseInTurn a b p moved
checked_in_turn_is_close a b p first moved is_first image = rw (image, is_first) (record {
  x = in_turn_close a.xx a.xy a.dx b p;
  y = in_turn_close a.yx a.yy a.dy b p;
})

-- ---- small entries
linear_bound : (u v : ℕ) (p x q y : ℤ) → unsigned_abs p ≤ u → unsigned_abs x ≤ v → unsigned_abs q ≤ u
    → unsigned_abs y ≤ v
    → unsigned_abs (linear_form ◌+ℤ◌ rounded_product p x q y) ≤ form_bound u v
linear_bound u v p x q y first x_is second y_is =
    omega (arith, sums, product_bound u v p x first x_is, product_bound u v q y second y_is)

affine_bound : (u v e : ℕ) (p x q y d : ℤ) → unsigned_abs p ≤ u → unsigned_abs x ≤ v → unsigned_abs q ≤ u
    → unsigned_abs y ≤ v → unsigned_abs d ≤ e
    → unsigned_abs (affine_form ◌+ℤ◌ rounded_product p x q y d) ≤ form_bound u v + e
affine_bound u v e p x q y d first x_is second y_is shift =
    omega (arith, sums, linear_bound u v p x q y first x_is second y_is, shift)

-- the product of two matrices, and the image of a point, by bounds
pub product_bounded : (m d m' d' : ℕ) (a b : Matrix ℤ) → IsBounded m d a → IsBounded m' d' b
    → IsBounded (form_bound m m') (form_bound m d' + d) (matrix_product ◌+ℤ◌ rounded_product a b)
product_bounded m d m' d' a b s t = search (linear_bound, affine_bound)

image_bounded : (m d n : ℕ) (a : Matrix ℤ) (p : Point ℤ) → IsBounded m d a → IsBoundedPoint n p
    → IsBoundedPoint (form_bound m n + d) (image_of ◌+ℤ◌ rounded_product a p)
image_bounded m d n a p s t = search (affine_bound)

fits_matrix : (m d : ℕ) (a : Matrix ℤ) → m < 2 ^ 31 → d < 2 ^ 31 → IsBounded m d a → FitsEach (FitsBits 32) a
fits_matrix m d a low high s = omega (arith, ints)

fits_point : (n : ℕ) (p : Point ℤ) → n < 2 ^ 31 → IsBoundedPoint n p → FitsPoint p
fits_point n p low s = omega (arith, ints)

both_below : (j k n : ℕ) → IsTrue (nat_lt j n && nat_lt k n) → (j < n) × (k < n)
both_below j k n test = grind (arith, nat_tests)

-- the product of two matrices fits
pub fits_product : (m d m' d' : ℕ) (a b : Matrix ℤ) → IsBounded m d a → IsBounded m' d' b
    → IsTrue (nat_lt (form_bound m m') (2 ^ 31) && nat_lt (form_bound m d' + d) (2 ^ 31))
    → FitsEach (FitsBits 32) (matrix_product ◌+ℤ◌ rounded_product a b)
fits_product m d m' d' a b s t test =
    let room = both_below _ _ _ test in
    fits_matrix _ _ _ room.0 room.1 (product_bounded m d m' d' a b s t)

-- the result of `a * b`: the exact sums, bounded
pub bounded_product : {a b ab : Matrix Fixed} (m d m' d' : ℕ)
    → IsProductOf (λ x y r. IsProduct 32 16 (fixed_bits x) (fixed_bits y) (fixed_bits r))
    (λ x y r. WrapsTo 32 (fixed_bits x +ℤ fixed_bits y) (fixed_bits r)) a b ab
    → IsBounded m d (matrix_bits a) → IsBounded m' d' (matrix_bits b)
    → IsTrue (nat_lt (form_bound m m') (2 ^ 31) && nat_lt (form_bound m d' + d) (2 ^ 31))
    → (matrix_bits ab ≡ rounded_matrix_product (matrix_bits a) (matrix_bits b))
    × IsBounded (form_bound m m') (form_bound m d' + d) (matrix_bits ab)
bounded_product {a} {b} m d m' d' given s t test =
    let is = product_value given
    ∙ sym (product_unwrapped (matrix_bits a) (matrix_bits b) (fits_product m d m' d' _ _ s t test)) in
    (is, rw is (product_bounded m d m' d' (matrix_bits a) (matrix_bits b) s t))

-- the result of `a * p`: the exact sums, bounded
bound_below : (k n : ℕ) → IsTrue (nat_lt k n) → k < n
bound_below k n test = grind (arith, nat_tests)

pub bounded_image : {a : Matrix Fixed} {p moved : Point Fixed} (m d n : ℕ)
    → IsTransformed (λ x y r. IsProduct 32 16 (fixed_bits x) (fixed_bits y) (fixed_bits r))
    (λ x y r. WrapsTo 32 (fixed_bits x +ℤ fixed_bits y) (fixed_bits r)) a p.x p.y moved.x moved.y
    → IsBounded m d (matrix_bits a) → IsBoundedPoint n (point_bits p)
    → IsTrue (nat_lt (form_bound m n + d) (2 ^ 31))
    → (point_bits moved ≡ rounded_image (matrix_bits a) (point_bits p))
    × IsBoundedPoint (form_bound m n + d) (point_bits moved)
bounded_image {a} {p} m d n given s q test =
    let small = image_bounded m d n (matrix_bits a) (point_bits p) s q in
    let is = image_value given
    ∙ sym (image_unwrapped (matrix_bits a) (point_bits p) (fits_point _ _ (bound_below _ _ test) small)) in
    (is, rw is small)

pub fits_composed : (m d m' d' n : ℕ) (a b : Matrix ℤ) (p : Point ℤ) → IsBounded m d a → IsBounded m' d' b
    → IsBoundedPoint n p
    → IsTrue (has_room_composed m d m' d' n) → FitsComposed a b p
fits_composed m d m' d' n a b p s t q test =
    let room = both_below _ _ _ test in
    let product = product_bounded m d m' d' a b s t in
    record {
      product = fits_matrix _ _ _ room.0 (omega (arith, room)) product;
      image = fits_point _ _ room.1 (image_bounded _ _ n _ p product q);
    }

pub fits_in_turn : (m d m' d' n : ℕ) (a b : Matrix ℤ) (p : Point ℤ) → IsBounded m d a → IsBounded m' d' b
    → IsBoundedPoint n p
    → IsTrue (has_room_in_turn m d m' d' n) → FitsInTurn a b p
fits_in_turn m d m' d' n a b p s t q test =
    let room = both_below _ _ _ test in
    let moved = image_bounded m' d' n b p t q in
    record { first = fits_point _ _ room.0 moved; image = fits_point _ _ room.1 (image_bounded m d _ a _ s moved) }

-- a bound may be replaced by a greater one
pub within_more : (d e : ℕ) (exact moved : ℤ) → IsWithin d exact moved → d ≤ e → IsWithin e exact moved
within_more d e exact moved close less = le_trans close less

-- equal coordinates have equal images
pub same_fits : (m : Matrix ℤ) (x y u v : ℤ) → x ≡ u → y ≡ v → FitsPoint (rounded_image m (record { x = x; y = y }))
    → FitsPoint (rounded_image m (record { x = u; y = v }))
same_fits m x y u v first second fits = rw (first, second) at fits

pub ruleset bound_calls = (fits_composed, fits_in_turn, within_more)
