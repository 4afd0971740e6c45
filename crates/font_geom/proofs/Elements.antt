-- If sums and products of elements have one result, so have images and products of matrices.
use Rattle.std.proofs.Common.{arith, ◌≡◌}
use Rattle.font_geom.specs.Matrix.{IsLinearForm, IsAffineForm, IsTransformed, IsProductOf, linear_form, affine_form}
use Rattle.font_geom.specs.Matrix.{image_of, matrix_product}
use Rattle.font_geom.specs.{declared.matrix.Matrix.Matrix, declared.point.Point.Point}

-- the matrix and the point of a function's results at each element
abbrev pub map_matrix : {T V : Type 0} → (T → V) → Matrix T → Matrix V
map_matrix f m = record { xx = f m.xx; yx = f m.yx; xy = f m.xy; yy = f m.yy; dx = f m.dx; dy = f m.dy }

abbrev pub map_point : {T V : Type 0} → (T → V) → Point T → Point V
map_point f p = record { x = f p.x; y = f p.y }

-- elements are described by `shown`, by which products and sums are these functions
pub record HasOneAnswer {T V : Type 0} (product sum : T → T → T → Type 0) (shown : T → V)
    (plus times : V → V → V) : Type 0 where
  pub product_is : (x y r : T) → product x y r → shown r ≡ times (shown x) (shown y)
  pub sum_is : (x y r : T) → sum x y r → shown r ≡ plus (shown x) (shown y)

module _ {T V : Type 0} {product sum : T → T → T → Type 0} {shown : T → V} {plus times : V → V → V}
    (one : HasOneAnswer product sum shown plus times) where
  linear_is : {p x q y r : T} → IsLinearForm product sum p x q y r → shown r ≡ linear_form plus times (shown p)
      (shown x) (shown q) (shown y)
  linear_is it = grind arith

  affine_is : {p x q y d r : T} → IsAffineForm product sum p x q y d r → shown r ≡ affine_form plus times (shown p)
      (shown x) (shown q) (shown y) (shown d)
  affine_is it = cc (one.sum_is _ _ _ it.is_sum, linear_is it.is_linear)

  pub image_is : {m : Matrix T} {p r : Point T} → IsTransformed product sum m p.x p.y r.x r.y
      → map_point shown r ≡ image_of plus times (map_matrix shown m) (map_point shown p)
  image_is it = λ i. record { x = affine_is it.on_x i; y = affine_is it.on_y i }

  pub matrix_product_is : {a b c : Matrix T} → IsProductOf product sum a b c
      → map_matrix shown c ≡ matrix_product plus times (map_matrix shown a) (map_matrix shown b)
  matrix_product_is it = grind arith
