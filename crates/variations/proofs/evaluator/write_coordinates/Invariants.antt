use Rattle.std.proofs.Common.{◌≡◌, IfSome, length}
use Rattle.std.specs.{Option.option_map, List.AllWithin}
use Rattle.variations.specs.Evaluator.{map_offset, AreCoordinates, IsWithinOne}
use Rattle.variations.proofs.evaluator.write_coordinates.Given as goal

abbrev pub invariant-loop-index : goal.invariant-loop-index
invariant-loop-index l = IfSome l.avar.bytes (λ avar. l.start ≡ map_offset avar.now l.index)
    × (length l.coordinates ≡ length l.initial.coordinates)
    × AreCoordinates l.fvar.bytes.now (option_map (λ avar. avar.now) l.avar.bytes) l.settings l.index l.coordinates
    × AllWithin IsWithinOne l.coordinates 0 l.index
