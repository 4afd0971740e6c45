use Rattle.std.proofs.Common.{◌≡◌, ℕ, ◌<◌, ◌^◌, ◌⊎◌, arith, to_z-of_z, w64, SFits}
use Rattle.std.proofs.lemmas.Int.{ints}
use Rattle.font_decimal.specs.Reading.{Reads}
use Rattle.font_decimal.proofs.{Parts.no_decimal, Readings.judged_by_range}
use Rattle.font_decimal.proofs.reader.read_decimal_bytes.Goals as goal

pub returns-in_default : goal.returns-in_default
returns-in_default c =
    let sign = c.split_sign-negative.ensures in
    no_decimal _ _ _ sign.minus sign.plain c.in_default.ensures.none

same_units : {n m units : ℕ} → n ≡ m → (m ≡ units) ⊎ ((2 ^ 63 < m) × (2 ^ 63 < units))
    → (n ≡ units) ⊎ ((2 ^ 63 < n) × (2 ^ 63 < units))
same_units e same = rw e same

pub returns-in-Some-in_range : goal.returns-in-Some-in_range
returns-in-Some-in_range c =
    let sign = c.split_sign-negative in
    let some = c.in-Some.ensures.some in
    let reads : Reads c.args.text.now c.args.f c.args.min c.args.max c.in-Some-in_range.bits =
    rw c.in-Some-in_range.is at (judged_by_range c.args.text.now c.args.f sign.result.0 _ some.0 c.args.min c.args.max _
    c.ranges.min c.ranges.max (same_units (omega arith) some.1) (rw sign.ensures.minus (some.2 sign.result.0))
    (simp (to_z-of_z, c.ranges.min, c.ranges.max) at c.in_range.ensures)) in
    let fits : SFits w64 c.in-Some-in_range.bits =
    omega (arith, ints, reads.low, reads.high, c.ranges.min, c.ranges.max) in
    rw (to_z-of_z fits) reads

pub returns-in-None : goal.returns-in-None
returns-in-None c =
    let sign = c.split_sign-negative in
    let some = c.in-Some.ensures.some in
    rw c.in-None.is at (judged_by_range c.args.text.now c.args.f sign.result.0 _ some.0 c.args.min c.args.max _
    c.ranges.min c.ranges.max (same_units (omega arith) some.1) (rw sign.ensures.minus (some.2 sign.result.0))
    (simp (to_z-of_z, c.ranges.min, c.ranges.max) at c.in_range.ensures))
