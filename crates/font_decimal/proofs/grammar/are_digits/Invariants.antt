use Rattle.std.proofs.Common.{◌-◌, ◌≤◌, IsTrue, length, take}
use Rattle.std.specs.{Char.is_ascii_digit, List.list_all}
use Rattle.font_decimal.proofs.grammar.are_digits.Given as goal

abbrev pub invariant-loop-place : goal.invariant-loop-place
invariant-loop-place l = record {
  all_digits : IsTrue (list_all is_ascii_digit (take l.place l.text));
  within : l.place ≤ length l.text;
}

abbrev pub decreases-loop-place : goal.decreases-loop-place
decreases-loop-place l = length l.text - l.place
