use Rattle.std.proofs.Common.{refl, rules}
use Rattle.font_geom.specs.FixedMatrix.{matrix_bits}
use Rattle.font_geom.proofs.Bounds.{same_fits}
use Rattle.font_geom.proofs.matrix.Matrix+Fixed.checked_transform_point.Goals as goal

pub returns-in-Some-clause-variant : goal.returns-in-Some-clause-variant
returns-in-Some-clause-variant g c =
    let fits = c.in-Some.ensures.variant.0 refl in (
      λ _. same_fits (matrix_bits c.args.self) c.from_bits-x.result.0 c.from_bits-y.result.0 c.args.point.x.0
          c.args.point.y.0 (search rules) (search rules) fits,
      λ _. refl,
    )
