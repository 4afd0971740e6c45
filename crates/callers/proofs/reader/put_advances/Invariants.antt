use Rattle.std.proofs.Common.{◌≡◌, ◌*◌, length, take, drop, pos}
use Rattle.std.specs.List.{flat_map}
use Rattle.font_types.specs.{Bytes.bytes_of, FWord.ufword_number}
use Rattle.callers.proofs.reader.put_advances.Given as goal

abbrev pub invariant-loop-advance : goal.invariant-loop-advance
invariant-loop-advance l = (l.at ≡ l.advance-index * 2)
    × (take l.at l.hmtx
    ≡ flat_map (λ advance. bytes_of 2 (pos (ufword_number advance))) (take l.advance-index l.advances))
    × (length l.hmtx ≡ length l.initial.hmtx)
    × (drop l.len l.hmtx ≡ drop l.len l.initial.hmtx)
