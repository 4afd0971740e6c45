use Rattle.std.proofs.Common.{◌≡◌, take}
use Rattle.font_base.specs.Wrap.{wrap}
use Rattle.font_types.specs.{Delta.exact_sum, DeltaSum.steps_of}
use Rattle.font_types.proofs.delta.sum_of.Given as goal

abbrev pub invariant-loop-term : goal.invariant-loop-term
invariant-loop-term l = steps_of l.sum ≡ wrap 128 (exact_sum (take l.term-index l.terms))
