use Rattle.std.proofs.Common.{◌≢◌, ◌<◌, ℕ}
use Rattle.font_types.specs.Tag.{tag_bytes}
use Rattle.variations.specs.Evaluator.{HasAxis, axis_tag_bytes}
use Rattle.variations.proofs.evaluator.has_tag.Given as goal

abbrev pub invariant-loop-number : goal.invariant-loop-number
invariant-loop-number l = (k : ℕ) → k < l.number → HasAxis l.fvar.bytes.now k
    → axis_tag_bytes l.fvar.bytes.now k ≢ tag_bytes l.tag
