use Rattle.std.proofs.Common.{◌≡◌, ◌≤◌, ◌*◌, ◌^◌, unsigned_abs}
use Rattle.font_types.specs.DeltaSum.{steps_of}
use Rattle.font_c.proofs.Sums.{sum_of_first}
use Rattle.font_c.proofs.delta.sum_in_range.Given as goal

abbrev pub invariant-loop-i : goal.invariant-loop-i
invariant-loop-i l =
    (steps_of l.sum ≡ sum_of_first l.i l.scalars l.deltas) × (unsigned_abs (steps_of l.sum) ≤ l.i * 2 ^ 62)
