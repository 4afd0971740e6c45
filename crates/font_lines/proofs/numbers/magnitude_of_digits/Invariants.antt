use Rattle.std.proofs.Common.{◌≡◌, ◌^◌, take, min}
use Rattle.std.specs.Str.Parse.{digits_value, AllDigits}
use Rattle.font_lines.proofs.numbers.magnitude_of_digits.Given as goal

abbrev pub invariant-loop-digit : goal.invariant-loop-digit
invariant-loop-digit l = record {
  number : l.number ≡ min (digits_value 10 (take l.digit-index l.digits)) (2 ^ 40);
  valid : AllDigits 10 (take l.digit-index l.digits);
}
