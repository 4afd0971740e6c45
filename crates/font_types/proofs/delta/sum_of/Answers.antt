use Rattle.std.proofs.Common.{pos, arith}
use Rattle.font_types.proofs.SumCalls.{sum_goes_on}
use Rattle.font_types.proofs.delta.sum_of.Goals as goal

pub loop-term-preserved : goal.loop-term-preserved
loop-term-preserved c = sum_goes_on c.args.terms.now c.loop-term.term-index (record { 0 = pos 0 }, pos 0) _ _
    (omega (arith, c.loop-term-test.true)) c.loop-term.invariant c.add_term.ensures.wrapped
