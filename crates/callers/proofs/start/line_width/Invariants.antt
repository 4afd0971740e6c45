use Rattle.std.proofs.Common.{◌≡◌, take}
use Rattle.font_types.specs.{Delta.total, Fixed.fixed_bits, Wrap.wrap}
use Rattle.callers.proofs.start.line_width.Given as goal

abbrev pub invariant-loop-advance : goal.invariant-loop-advance
invariant-loop-advance l = fixed_bits l.width ≡ wrap 32 (total fixed_bits (take l.advance-index l.advances))
