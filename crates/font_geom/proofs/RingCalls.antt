-- Results of calls on matrices over a ring.
use Rattle.std.proofs.Common.{◌≡◌, ◌∙◌, arith}
use Rattle.font_geom.specs.Matrix.{IsTransformed, IsProductOf, identity_matrix, matrix_product}
use Rattle.font_geom.specs.{declared.matrix.Matrix.Matrix, declared.point.Point.Point, Ring.RingLaws}
use Rattle.font_geom.proofs.Elements.{HasOneAnswer, matrix_product_is}
use Rattle.font_geom.proofs.RingMatrices.{matrix_product-matrix_product, image_of-matrix_product}

module _ {T : Type 0} {product sum : T → T → T → Type 0} {zero one : T} {plus times : T → T → T}
    (answers : HasOneAnswer product sum (λ x. x) plus times) (ring : RingLaws zero one plus times) where
  pub products_agree : {a b c ab abc bc a_bc : Matrix T} → IsProductOf product sum a b ab
      → IsProductOf product sum ab c abc → IsProductOf product sum b c bc
      → IsProductOf product sum a bc a_bc → abc ≡ a_bc
  products_agree {a} {b} {c} first second third fourth = grind (arith, matrix_product-matrix_product ring a b c)

  pub images_agree : {a b ab : Matrix T} {p ab_p bp a_bp : Point T} → IsProductOf product sum a b ab
      → IsTransformed product sum ab p.x p.y ab_p.x ab_p.y
      → IsTransformed product sum b p.x p.y bp.x bp.y → IsTransformed product sum a bp.x bp.y a_bp.x a_bp.y
      → ab_p ≡ a_bp
  images_agree {a} {b} {p = p} first second third fourth = grind (arith, image_of-matrix_product ring a b p)

  zero_plus : (x : T) → plus zero x ≡ x
  zero_plus x = ring.sums_commute zero x ∙ ring.plus_zero x

  pub left_identity : {a identity r : Matrix T} → identity ≡ identity_matrix zero one
      → IsProductOf product sum identity a r
      → (r ≡ matrix_product plus times (identity_matrix zero one) a) × (r ≡ a)
  left_identity {a} is given = grind (arith, matrix_product_is, zero_plus)

  pub right_identity : {a identity r : Matrix T} → identity ≡ identity_matrix zero one
      → IsProductOf product sum a identity r
      → (r ≡ matrix_product plus times a (identity_matrix zero one)) × (r ≡ a)
  right_identity {a} is given = grind (arith, matrix_product_is answers given, zero_plus)
