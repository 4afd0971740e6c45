use Rattle.std.proofs.Common.{◌≡◌, take}
use Rattle.font_base.specs.Wrap.{wrap}
use Rattle.font_fixed.specs.Fixed.{fixed_bits}
use Rattle.font_types.specs.Delta.{total, scaled}
use Rattle.font_types.proofs.laws.scaled_sum.Given as goal

abbrev pub invariant-loop-number : goal.invariant-loop-number
invariant-loop-number l = fixed_bits l.sum
    ≡ wrap 32 (total (scaled (fixed_bits l.a) (fixed_bits l.c)) (take l.number-index l.numbers))
