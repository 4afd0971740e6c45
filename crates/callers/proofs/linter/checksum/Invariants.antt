use Rattle.std.proofs.Common.{◌≡◌, ◌+◌, ◌%◌, ◌^◌}
use Rattle.std.specs.List.{sum_by}
use Rattle.font_types.specs.{Array.array_elements, Array.elements_left, Bytes.numeral}
use Rattle.callers.proofs.linter.checksum.Given as goal

abbrev pub invariant-loop-word : goal.invariant-loop-word
invariant-loop-word l = (l.total + sum_by numeral (elements_left l.word-iterator)) % 2 ^ 32
    ≡ sum_by numeral (array_elements l.fn.words) % 2 ^ 32
