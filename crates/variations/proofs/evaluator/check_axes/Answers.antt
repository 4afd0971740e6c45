-- One more axis.
use Rattle.std.proofs.Common.{rules, below_more}
use Rattle.font_types.proofs.Callers.{calls}
use Rattle.variations.proofs.evaluator.check_axes.Goals as goal

pub loop-axis-preserved : goal.loop-axis-preserved
loop-axis-preserved c =
    (c.in_ok-next.ensures.next, below_more _ _ c.loop-axis.invariant.1 (search (rules, calls)))
