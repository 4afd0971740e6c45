use Rattle.font_decimal.specs.declared.shortest.TheConstants.{POINT}
use Rattle.std.proofs.Common.{◌≡◌, ◌≤◌, ◌+◌, ◌++◌, decimal, drop, length}
use Rattle.font_decimal.proofs.shortest.put_whole.Given as goal

abbrev pub invariant-loop-left : goal.invariant-loop-left
invariant-loop-left l = record {
  text : decimal l.left ++ drop l.start l.bytes ≡ decimal l.whole ++ drop POINT l.fn.bytes;
  within : l.start ≤ POINT;
  place : l.start + length (decimal l.whole) ≡ POINT + length (decimal l.left);
}

abbrev pub decreases-loop-left : goal.decreases-loop-left
decreases-loop-left l = l.left
