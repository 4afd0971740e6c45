use Rattle.std.proofs.Common.{◌≡◌, take}
use Rattle.font_base.specs.Wrap.{wrap}
use Rattle.font_fixed.specs.Fixed.{fixed_bits}
use Rattle.font_types.specs.Delta.{total}
use Rattle.font_types.proofs.laws.plain_sum.Given as goal

abbrev pub invariant-loop-number : goal.invariant-loop-number
invariant-loop-number l = fixed_bits l.sum ≡ wrap 32 (total fixed_bits (take l.number-index l.numbers))
