use Rattle.std.proofs.Common.{◌≡◌, ◌<◌, ℕ, IfSome}
use Rattle.std.specs.Option.{option_map}
use Rattle.variations.specs.Evaluator.{map_offset, HasCoordinate}
use Rattle.variations.proofs.evaluator.check_axes.Given as goal

abbrev pub invariant-loop-axis : goal.invariant-loop-axis
invariant-loop-axis l = IfSome l.avar.bytes (λ avar. l.start ≡ map_offset avar.now l.axis)
    × ((k : ℕ) → k < l.axis → HasCoordinate l.fvar.bytes.now (option_map (λ avar. avar.now) l.avar.bytes) k)
