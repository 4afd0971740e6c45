use Rattle.std.specs.List.{AllWithin}
use Rattle.font_types.specs.Tag.{tag_bytes, IsGood}
use Rattle.callers.proofs.linter.validate.Given as goal

abbrev pub invariant-loop-index : goal.invariant-loop-index
invariant-loop-index l = AllWithin (λ tag. IsGood (tag_bytes tag)) l.tags 0 l.index
