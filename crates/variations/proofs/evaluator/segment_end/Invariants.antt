use Rattle.font_types.specs.Fixed.{fixed_bits}
use Rattle.variations.specs.Evaluator.{AreBelow}
use Rattle.variations.proofs.evaluator.segment_end.Given as goal

abbrev pub invariant-loop-index : goal.invariant-loop-index
invariant-loop-index l = AreBelow l.map l.index (fixed_bits l.coordinate)
