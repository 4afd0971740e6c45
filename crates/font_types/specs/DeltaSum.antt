-- An accumulator of deltas.
use Rattle.std.specs.Prelude.{ℤ}
use Rattle.font_types.specs.declared.delta.DeltaSum.{DeltaSum}

-- the 16.16 raw value of the sum
abbrev pub steps_of : DeltaSum → ℤ
steps_of sum = sum.steps
