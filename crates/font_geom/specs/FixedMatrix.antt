-- Matrices of `Fixed`, over their raw values (OpenType, data types: Fixed is 16.16), and the distance of a transformed
-- point from its exact image.
pub mod Laws
use Rattle.std.specs.Prelude.{◌≡◌, ℕ, ◌+◌, ◌*◌, ◌/◌, ◌^◌, ◌≤◌, Bool, ◌&&◌, nat_lt, ℤ, pos, ◌+ℤ◌, ◌-ℤ◌, ◌*ℤ◌}
use Rattle.std.specs.Prelude.{unsigned_abs}
use Rattle.font_base.specs.Wrap.{FitsBits, wrap}
use Rattle.font_decimal.specs.Near.{near}
use Rattle.font_fixed.specs.Fixed.{Fixed, fixed_bits, fixed_of}
use Rattle.font_fixed.specs.{FixedI32.bits_of, declared.fixed_i32.FixedI32.FixedI32}
use Rattle.font_geom.specs.Matrix.{image_of, matrix_product, FitsEach}
use Rattle.font_geom.specs.{declared.matrix.Matrix.Matrix, declared.point.Point.Point}

-- the raw value of each element, and of each coordinate
abbrev pub matrix_bits : Matrix Fixed → Matrix ℤ
matrix_bits m = record {
  xx = fixed_bits m.xx;
  yx = fixed_bits m.yx;
  xy = fixed_bits m.xy;
  yy = fixed_bits m.yy;
  dx = fixed_bits m.dx;
  dy = fixed_bits m.dy;
}

abbrev pub point_bits : Point Fixed → Point ℤ
point_bits p = record { x = fixed_bits p.x; y = fixed_bits p.y }

-- the same of a point of any format of 32 bits
abbrev pub bits_of_point : {F : ℕ} → Point (FixedI32 F) → Point ℤ
bits_of_point p = record { x = bits_of p.x; y = bits_of p.y }

-- the product of two raw values, rounded half away from zero, and not wrapped
abbrev pub rounded_product : ℤ → ℤ → ℤ
rounded_product x y = near (x *ℤ y) 65536

-- the image of a point and the product of two matrices, as exact sums of rounded products: nothing is wrapped
abbrev pub rounded_image : Matrix ℤ → Point ℤ → Point ℤ
rounded_image m p = image_of ◌+ℤ◌ rounded_product m p

abbrev pub rounded_matrix_product : Matrix ℤ → Matrix ℤ → Matrix ℤ
rounded_matrix_product a b = matrix_product ◌+ℤ◌ rounded_product a b

-- the results of `*` and `+`: the rounded product and the sum, each wrapped to 32 bits
abbrev pub wrapped_product : ℤ → ℤ → ℤ
wrapped_product x y = wrap 32 (rounded_product x y)

abbrev pub wrapped_sum : ℤ → ℤ → ℤ
wrapped_sum x y = wrap 32 (x +ℤ y)

-- the result of `*`, as a `Fixed`
abbrev pub fixed_product : Fixed → Fixed → Fixed
fixed_product x y = fixed_of (wrapped_product (fixed_bits x) (fixed_bits y))

-- products are associative, as in a ring; those of `Fixed` are not
abbrev pub ProductsAssociate : Type 0
ProductsAssociate = (x y z : Fixed) → fixed_product (fixed_product x y) z ≡ fixed_product x (fixed_product y z)

-- ---- no overflow of entries and coordinates. Each is an exact sum of rounded products: intermediate sums may wrap.

-- both coordinates fit in 32 bits
pub record FitsPoint (p : Point ℤ) : Type 0 where
  pub x : FitsBits 32 p.x
  pub y : FitsBits 32 p.y

-- every entry of a * b and every coordinate of (a * b) * p fits in 32 bits, as the exact sum of rounded products
pub record FitsComposed (a b : Matrix ℤ) (p : Point ℤ) : Type 0 where
  pub product : FitsEach (FitsBits 32) (matrix_product ◌+ℤ◌ rounded_product a b)
  pub image : FitsPoint (image_of ◌+ℤ◌ rounded_product (matrix_product ◌+ℤ◌ rounded_product a b) p)

-- every coordinate of b * p and of a * (b * p) fits in 32 bits, as the exact sum of rounded products
pub record FitsInTurn (a b : Matrix ℤ) (p : Point ℤ) : Type 0 where
  pub first : FitsPoint (image_of ◌+ℤ◌ rounded_product b p)
  pub image : FitsPoint (image_of ◌+ℤ◌ rounded_product a (image_of ◌+ℤ◌ rounded_product b p))

-- ---- bounds on the inputs that imply these

-- each linear entry has magnitude at most m, and each translation at most d
pub record IsBounded (m d : ℕ) (a : Matrix ℤ) : Type 0 where
  pub xx : unsigned_abs a.xx ≤ m
  pub yx : unsigned_abs a.yx ≤ m
  pub xy : unsigned_abs a.xy ≤ m
  pub yy : unsigned_abs a.yy ≤ m
  pub dx : unsigned_abs a.dx ≤ d
  pub dy : unsigned_abs a.dy ≤ d

-- each coordinate has magnitude at most n
pub record IsBoundedPoint (n : ℕ) (p : Point ℤ) : Type 0 where
  pub x : unsigned_abs p.x ≤ n
  pub y : unsigned_abs p.y ≤ n

-- a bound on the sum of two rounded products, if the magnitudes of the first factors are at most u and those of the
-- second at most v
abbrev pub form_bound : ℕ → ℕ → ℕ
form_bound u v = 2 * (u * v / 65536 + 1)

-- the bounds m and d of a, m' and d' of b, and n of p are small enough for `FitsComposed a b p`
abbrev pub has_room_composed : ℕ → ℕ → ℕ → ℕ → ℕ → Bool
has_room_composed m d m' d' n =
    nat_lt (form_bound m m') (2 ^ 31) && nat_lt (form_bound (form_bound m m') n + (form_bound m d' + d)) (2 ^ 31)

-- the same for `FitsInTurn a b p`
abbrev pub has_room_in_turn : ℕ → ℕ → ℕ → ℕ → ℕ → Bool
has_room_in_turn m d m' d' n =
    nat_lt (form_bound m' n + d') (2 ^ 31) && nat_lt (form_bound m (form_bound m' n + d') + d) (2 ^ 31)

-- ---- the exact image

-- 2^16 times the exact coordinate, as a raw value, of the point p by the row (u, v, d) of a matrix
abbrev pub exact_row : ℤ → ℤ → ℤ → Point ℤ → ℤ
exact_row u v d p = (u *ℤ p.x) +ℤ (v *ℤ p.y) +ℤ (pos 65536 *ℤ d)

-- the bound for a * p: one unit of the raw value
pub record IsCloseImage (a : Matrix ℤ) (p moved : Point ℤ) : Type 0 where
  pub x : unsigned_abs ((pos 65536 *ℤ moved.x) -ℤ exact_row a.xx a.xy a.dx p) ≤ 65536
  pub y : unsigned_abs ((pos 65536 *ℤ moved.y) -ℤ exact_row a.yx a.yy a.dy p) ≤ 65536

-- 2^32 times the exact coordinate, as a raw value, of the point p after b and then the row (u, v, d) of another matrix
abbrev pub exact_coordinate : ℤ → ℤ → ℤ → Matrix ℤ → Point ℤ → ℤ
exact_coordinate u v d b p =
    (u *ℤ ((b.xx *ℤ p.x) +ℤ (b.xy *ℤ p.y) +ℤ (pos 65536 *ℤ b.dx)))
    +ℤ (v *ℤ ((b.yx *ℤ p.x) +ℤ (b.yy *ℤ p.y) +ℤ (pos 65536 *ℤ b.dy)))
    +ℤ (pos (2 ^ 32) *ℤ d)

-- 2^32 times the exact image of p, as raw values, after b and then a
abbrev pub exact_image : Matrix ℤ → Matrix ℤ → Point ℤ → Point ℤ
exact_image a b p = record { x = exact_coordinate a.xx a.xy a.dx b p; y = exact_coordinate a.yx a.yy a.dy b p }

-- the raw coordinate is within e / 2^32 of the exact one
abbrev pub IsWithin : ℕ → ℤ → ℤ → Type 0
IsWithin e exact coordinate = unsigned_abs ((pos (2 ^ 32) *ℤ coordinate) -ℤ exact) ≤ e

-- the bound for (a * b) * p: (|x| + |y|) / 65536 + 2, in units of the raw value
pub record IsCloseComposed (a b : Matrix ℤ) (p moved : Point ℤ) : Type 0 where
  pub x : IsWithin (65536 * (unsigned_abs p.x + unsigned_abs p.y + 2 * 65536)) (exact_image a b p).x moved.x
  pub y : IsWithin (65536 * (unsigned_abs p.x + unsigned_abs p.y + 2 * 65536)) (exact_image a b p).y moved.y

-- the bound for a * (b * p): the sum of the magnitudes of the linear entries of a's row over 65536, plus 1
pub record IsCloseInTurn (a b : Matrix ℤ) (p moved : Point ℤ) : Type 0 where
  pub x : IsWithin (65536 * (unsigned_abs a.xx + unsigned_abs a.xy + 65536)) (exact_image a b p).x moved.x
  pub y : IsWithin (65536 * (unsigned_abs a.yx + unsigned_abs a.yy + 65536)) (exact_image a b p).y moved.y
