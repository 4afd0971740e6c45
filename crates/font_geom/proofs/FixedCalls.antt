-- Results of calls on matrices of `Fixed`, by their raw values.
use Rattle.std.proofs.Common.{◌≡◌, ◌+ℤ◌}
use Rattle.font_fixed.specs.{Operations.IsProduct, Operations.WrapsTo, Fixed.Fixed, Fixed.fixed_bits}
use Rattle.font_geom.specs.Matrix.{IsTransformed, IsProductOf, image_of, matrix_product}
use Rattle.font_geom.specs.FixedMatrix.{matrix_bits, point_bits, wrapped_product, wrapped_sum}
use Rattle.font_geom.specs.{declared.matrix.Matrix.Matrix, declared.point.Point.Point}
use Rattle.font_geom.proofs.Elements.{HasOneAnswer, image_is, matrix_product_is}

-- the contracts of `*` and `+`
abbrev Product : Fixed → Fixed → Fixed → Type 0
Product x y r = IsProduct 32 16 (fixed_bits x) (fixed_bits y) (fixed_bits r)

abbrev Sum : Fixed → Fixed → Fixed → Type 0
Sum x y r = WrapsTo 32 (fixed_bits x +ℤ fixed_bits y) (fixed_bits r)

fixed_has_one_answer : HasOneAnswer Product Sum fixed_bits wrapped_sum wrapped_product
fixed_has_one_answer = record { product_is = λ x y r given. given.is; sum_is = λ x y r given. given.0 }

-- the raw values of a product, and of a transformed point
pub product_value : {a b ab : Matrix Fixed} → IsProductOf Product Sum a b ab
    → matrix_bits ab ≡ matrix_product wrapped_sum wrapped_product (matrix_bits a) (matrix_bits b)
product_value given = matrix_product_is fixed_has_one_answer given

pub image_value : {m : Matrix Fixed} {p r : Point Fixed} → IsTransformed Product Sum m p.x p.y r.x r.y
    → point_bits r ≡ image_of wrapped_sum wrapped_product (matrix_bits m) (point_bits p)
image_value given = image_is fixed_has_one_answer given
