use Rattle.std.proofs.Common.{◌≡◌, take}
use Rattle.std.specs.List.{flat_map}
use Rattle.font_types.specs.{Fixed.fixed_text, Padding.padded_text}
use Rattle.callers.specs.Dumper.{column}
use Rattle.callers.proofs.dumper.row.Given as goal

abbrev pub invariant-loop-number : goal.invariant-loop-number
invariant-loop-number l = l.row.items ≡ flat_map (λ number. padded_text (fixed_text number) (column l.width))
    (take l.number-index l.numbers)
