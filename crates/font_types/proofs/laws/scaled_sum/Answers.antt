use Rattle.std.proofs.Common.{pos, arith}
use Rattle.font_fixed.specs.Fixed.{fixed_bits}
use Rattle.font_types.proofs.SumCalls.{one_more_scaled}
use Rattle.font_types.proofs.laws.scaled_sum.Goals as goal

pub loop-number-preserved : goal.loop-number-preserved
loop-number-preserved c = one_more_scaled (fixed_bits c.args.a) (fixed_bits c.args.c) c.args.numbers.now
    c.loop-number.number-index (record { 0 = pos 0 }) _ _ _ (omega (arith, c.loop-number-test.true))
    c.loop-number.invariant c.mul_div.ensures c.add_assign.ensures.after.0
