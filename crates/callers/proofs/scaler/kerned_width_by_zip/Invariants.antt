use Rattle.std.proofs.Common.{◌≡◌, length}
use Rattle.font_types.specs.{Delta.total_below, Fixed.fixed_bits, Wrap.wrap}
use Rattle.callers.specs.Scaler.{kerned_at}
use Rattle.callers.proofs.scaler.kerned_width_by_zip.Given as goal

abbrev pub invariant-loop-advance : goal.invariant-loop-advance
invariant-loop-advance l = fixed_bits l.width
    ≡ wrap 32 (total_below (kerned_at l.advances l.kerning) (length l.yielded))
