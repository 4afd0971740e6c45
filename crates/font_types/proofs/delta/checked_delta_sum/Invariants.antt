use Rattle.std.proofs.Common.{◌≡◌, ◌≤◌, ◌*◌, ◌^◌, take, unsigned_abs}
use Rattle.font_types.specs.{Delta.exact_sum, DeltaSum.steps_of}
use Rattle.font_types.proofs.delta.checked_delta_sum.Given as goal

abbrev pub invariant-loop-term : goal.invariant-loop-term
invariant-loop-term l = (steps_of l.exact ≡ exact_sum (take l.term-index l.terms))
    × (unsigned_abs (steps_of l.exact) ≤ l.term-index * 2 ^ 62)
