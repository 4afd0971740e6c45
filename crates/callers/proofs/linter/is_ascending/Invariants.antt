use Rattle.std.proofs.Common.{◌≡◌}
use Rattle.std.specs.Cmp.Lexicographic.{slice_cmp}
use Rattle.std.specs.{List.AllAdjacentBelow, declared.cmp.Ordering.TheVariants.Less, Ordering.nat_cmp}
use Rattle.font_types.specs.Tag.{tag_bytes}
use Rattle.callers.proofs.linter.is_ascending.Given as goal

abbrev pub invariant-loop-index : goal.invariant-loop-index
invariant-loop-index l = AllAdjacentBelow (λ a b. slice_cmp nat_cmp (tag_bytes a) (tag_bytes b) ≡ Less) l.tags l.index
