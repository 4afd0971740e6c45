use Rattle.std.proofs.Common.{◌∙◌, ap, refl}
use Rattle.font_geom.specs.FixedMatrix.{matrix_bits, point_bits}
use Rattle.font_geom.proofs.Bounds.{checked_composed_value, checked_composed_is_close}
use Rattle.font_geom.proofs.laws.checked_composed.Goals as goal

pub returns-clause-value : goal.returns-clause-value
returns-clause-value c =
    let product = c.in_ok-checked_mul.ensures in
    let image = c.in_ok-x.ensures in
    checked_composed_value (matrix_bits c.args.a) (matrix_bits c.args.b) (matrix_bits c.in_ok-checked_mul.field-0)
    (point_bits c.args.p) (point_bits c.new.result) product.value (ap point_bits c.new.ensures ∙ image.value)
    (product.variant.0 refl) (image.variant.0 refl)

pub returns-clause-close : goal.returns-clause-close
returns-clause-close c =
    checked_composed_is_close _ _ _ _ _ c.in_ok-checked_mul.ensures.value
    (ap point_bits c.new.ensures ∙ c.in_ok-x.ensures.value)
