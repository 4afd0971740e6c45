use Rattle.font_decimal.specs.declared.shortest.TheConstants.{POINT, LEN}
use Rattle.font_decimal.specs.Shortest.{reads_back, last_digits}
use Rattle.std.proofs.Common.{◌≡◌, ℕ, ◌+◌, ◌-◌, ◌^◌, ◌<◌, ◌≤◌, ◌++◌, false, length, take}
use Rattle.font_decimal.proofs.Remainder.{HasRest}
use Rattle.font_decimal.proofs.shortest.shortest_fraction.Given as goal

abbrev pub invariant-loop-margin : goal.invariant-loop-margin
invariant-loop-margin l = record {
  margin : l.margin ≡ 10 ^ l.places;
  numeral : ℕ;
  digits : take (POINT + 1 + l.places) l.bytes ≡ take (POINT + 1) l.fn.bytes ++ last_digits l.places numeral;
  long : length l.bytes ≡ LEN;
  rest : HasRest l.magnitude l.f l.places numeral l.rest;
  few : l.places ≤ 10;
  within : l.places ≤ l.f;
  fail : (j : ℕ) → j < l.places → reads_back l.magnitude l.f j ≡ false;
}

abbrev pub decreases-loop-margin : goal.decreases-loop-margin
decreases-loop-margin l = l.f - l.places
