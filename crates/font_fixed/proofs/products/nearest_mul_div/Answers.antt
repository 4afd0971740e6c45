use Rattle.std.proofs.Common.{rules, ◌∙◌, ◌<◌, arith, w32, w64}
use Rattle.std.proofs.lemmas.Int.{ints, to_z-of_z}
use Rattle.font_fixed.proofs.Quotients.{signed_is_rounded}
use Rattle.font_fixed.proofs.products.nearest_mul_div.Goals as goal

pub returns-clause-nearest : goal.returns-clause-nearest
returns-clause-nearest c = λ other.
    let third = rw (to_z-of_z w32 c.args.c c.ranges.c) at c.magnitude-3.ensures.value in
    let some : 0 < c.magnitude-3.result = rw third (omega (arith, ints, other)) in
    to_z-of_z w64 c.with_sign.result (search rules) ∙ c.with_sign.ensures ∙ signed_is_rounded c.args.x c.args.a c.args.c
    _ _ _ _ _ _
    (rw (to_z-of_z w32 c.args.x c.ranges.x, to_z-of_z w32 c.args.a c.ranges.a) at c.differs_in_sign.ensures)
    (rw (to_z-of_z w32 c.args.c c.ranges.c) at c.is_negative.ensures)
    (rw (to_z-of_z w32 c.args.x c.ranges.x) at c.magnitude.ensures.value)
    (rw (to_z-of_z w32 c.args.a c.ranges.a) at c.magnitude-2.ensures.value)
    third some (c.rounded_quotient.ensures.quotient some)
