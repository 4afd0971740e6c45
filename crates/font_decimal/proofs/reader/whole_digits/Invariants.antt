use Rattle.std.proofs.Common.{◌≡◌, ◌-◌, ◌≤◌, length, take, min}
use Rattle.std.specs.Str.Parse.{digits_value, AllDigits}
use Rattle.font_decimal.proofs.reader.whole_digits.Given as goal

abbrev pub invariant-loop-place : goal.invariant-loop-place
invariant-loop-place l = record {
  number : l.whole ≡ min (digits_value 10 (take l.place l.text)) l.too_large;
  judged : AllDigits 10 (take l.place l.text);
  within : l.place ≤ length l.text;
}

abbrev pub decreases-loop-place : goal.decreases-loop-place
decreases-loop-place l = length l.text - l.place
