use Rattle.std.proofs.Common.{◌≡◌, ◌≤◌, ◌+◌, ◌*◌, ◌^◌, unsigned_abs}
use Rattle.font_types.specs.DeltaSum.{steps_of}
use Rattle.font_c.specs.DeltaSets.{first_products}
use Rattle.font_c.proofs.delta_set.long_sum.Given as goal

abbrev pub invariant-loop-i : goal.invariant-loop-i
invariant-loop-i l =
    (steps_of l.sum ≡ first_products 4 2 l.words l.set l.scalars l.i) × (unsigned_abs (steps_of l.sum) ≤ l.i * 2 ^ 62)

abbrev pub invariant-loop-i-2 : goal.invariant-loop-i-2
invariant-loop-i-2 l =
    (steps_of l.sum ≡ first_products 4 2 l.words l.set l.scalars (l.words + l.i))
    × (unsigned_abs (steps_of l.sum) ≤ (l.words + l.i) * 2 ^ 62)
