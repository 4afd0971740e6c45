use Rattle.std.proofs.Common.{◌≡◌}
use Rattle.font_types.specs.{Delta.total_below, Fixed.fixed_bits, Wrap.wrap}
use Rattle.callers.specs.Scaler.{kerned_at}
use Rattle.callers.proofs.scaler.kerned_width.Given as goal

abbrev pub invariant-loop-index : goal.invariant-loop-index
invariant-loop-index l = fixed_bits l.width ≡ wrap 32 (total_below (kerned_at l.advances l.kerning) l.index)
