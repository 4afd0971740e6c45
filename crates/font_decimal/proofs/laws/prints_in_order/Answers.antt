use Rattle.std.proofs.{Common.w64, Common.arith, lemmas.Int.ints, lemmas.Int.to_z-of_z}
use Rattle.font_decimal.proofs.Order.{printed_in_order}
use Rattle.font_decimal.proofs.laws.prints_in_order.Goals as goal

pub returns-clause-in_order : goal.returns-clause-in_order
returns-clause-in_order c = λ order.
    let a = to_z-of_z w64 c.args.a c.ranges.a in
    let b = to_z-of_z w64 c.args.b c.ranges.b in
    rw (c.new.ensures.text, c.new-2.ensures.text, a, b) (printed_in_order c.args.a c.args.b c.args.f
    (omega (arith, ints, c.ranges.a)) (omega (arith, ints, c.ranges.b)) order)
