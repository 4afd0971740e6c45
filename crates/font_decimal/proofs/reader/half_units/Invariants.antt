use Rattle.std.proofs.Common.{◌≡◌, ◌+◌, ◌/◌, ◌^◌, ◌≤◌, drop, length}
use Rattle.std.specs.Str.Parse.{digits_value}
use Rattle.font_decimal.{specs.Reading.HasUnits, proofs.Units.exactly}
use Rattle.font_decimal.proofs.reader.half_units.Given as goal

abbrev pub invariant-loop-place : goal.invariant-loop-place
invariant-loop-place l = record {
  found : HasUnits (l.f + 1) (drop l.place l.kept) l.units;
  -- the number of exactly f + 1 digits, divided by 5^(f + 1)
  fifths : l.units ≡ digits_value 10 (exactly (l.f + 1) (drop l.place l.kept)) / 5 ^ (l.f + 1);
  within : l.place ≤ length l.kept;
}

abbrev pub decreases-loop-place : goal.decreases-loop-place
decreases-loop-place l = l.place
