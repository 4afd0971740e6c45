use Rattle.std.proofs.Common.{ℕ, ◌<◌, ◌*◌}
use Rattle.callers.specs.Linter.{IsInOrder}
use Rattle.callers.proofs.linter.first_unordered.Given as goal

abbrev pub invariant-loop-index : goal.invariant-loop-index
invariant-loop-index l = (k : ℕ) → k < l.index → IsInOrder l.axes (k * 20)
