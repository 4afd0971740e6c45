use Rattle.std.proofs.Common.{◌≡◌, ◌≤◌, ◌*◌, ◌^◌}
use Rattle.std.specs.Prelude.{unsigned_abs}
use Rattle.font_types.specs.Delta.{total_below}
use Rattle.callers.specs.Scaler.{kerned_at}
use Rattle.callers.proofs.scaler.exact_width.Given as goal

abbrev pub invariant-loop-index : goal.invariant-loop-index
invariant-loop-index l = (l.width ≡ total_below (kerned_at l.advances l.kerning) l.index)
    × (unsigned_abs l.width ≤ l.index * 2 ^ 32)
