use Rattle.std.proofs.Common.{refl, ap, arith, ◌∙◌}
use Rattle.font_types.specs.FixedMatrix.{matrix_bits, rounded_matrix_product}
use Rattle.font_types.proofs.Callers.{bounded_product}
use Rattle.callers.proofs.scaler.composed_of_three.Goals as goal

pub returns-clause-value : goal.returns-clause-value
returns-clause-value c =
    let first = bounded_product _ _ _ _ c.mul.ensures c.requires.a c.requires.b refl in
    let second = bounded_product _ _ _ _ c.mul-2.ensures first.1 c.requires.c refl in
    second.0 ∙ ap (λ m. rounded_matrix_product m (matrix_bits c.args.c)) first.0

pub returns-clause-bound : goal.returns-clause-bound
returns-clause-bound c =
    let first = bounded_product _ _ _ _ c.mul.ensures c.requires.a c.requires.b refl in
    let second = bounded_product _ _ _ _ c.mul-2.ensures first.1 c.requires.c refl in
    omega (arith, second.1)
