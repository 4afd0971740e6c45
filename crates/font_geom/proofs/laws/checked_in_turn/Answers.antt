use Rattle.std.proofs.Common.{◌∙◌, ap, refl}
use Rattle.font_geom.specs.FixedMatrix.{matrix_bits, point_bits}
use Rattle.font_geom.proofs.Bounds.{checked_in_turn_value, checked_in_turn_is_close}
use Rattle.font_geom.proofs.laws.checked_in_turn.Goals as goal

pub returns-clause-value : goal.returns-clause-value
returns-clause-value c =
    let first = c.in_ok-x.ensures in
    let image = c.in_ok-x-2.ensures in
    checked_in_turn_value (matrix_bits c.args.a) (matrix_bits c.args.b) (point_bits c.args.p)
    (point_bits (record { x = c.in_ok-x.x; y = c.in_ok-x.y })) (point_bits c.new.result) first.value
    (ap point_bits c.new.ensures ∙ image.value) (first.variant.0 refl) (image.variant.0 refl)

pub returns-clause-close : goal.returns-clause-close
returns-clause-close c =
    checked_in_turn_is_close _ _ _ _ _ c.in_ok-x.ensures.value
    (ap point_bits c.new.ensures ∙ c.in_ok-x-2.ensures.value)
