use Rattle.std.proofs.Common.{◌≡◌, ℕ, ◌≤◌, ◌+◌, ◌-◌, ◌*◌, ◌/◌, ◌%◌, ◌^◌, arith, sym, ◌∙◌, true≢false, min, length, drop}
use Rattle.std.proofs.Common.{get_or, mod-eq_of_lt, []}
use Rattle.std.proofs.{lemmas.List.drop_all, lemmas.List.drop_more, lemmas.Str.digit_value_digit}
use Rattle.std.proofs.{lemmas.Str.Parse.digit_at, Math.Nat.pow-le-pow_right, Math.Nat.mul-le-mul}
use Rattle.std.specs.{Char.digit_value, Str.Parse.AllDigits}
use Rattle.font_decimal.proofs.{Digits.digits_parts, Digits.by_test, Units.units_more, Units.units_cut}
use Rattle.font_decimal.{proofs.Units.units_below, proofs.Units.at_cut, proofs.Units.units_by_fives}
use Rattle.font_decimal.{specs.Reading.HasUnits}
use Rattle.font_decimal.proofs.reader.half_units.Goals as goal
use Rattle.font_decimal.proofs.reader.half_units.Goals.{then-fraction-most, else-fraction-most}

pub returns-then-not-are_digits : goal.returns-then-not-are_digits
returns-then-not-are_digits c = λ all. true≢false
    (sym (by_test.from c.split_at.result.1.now (rw c.split_at.ensures.back (digits_parts _ _ all).1))
    ∙ sym c.if-not-are_digits.ensures)

pub returns-then-not-is_ascii_digit : goal.returns-then-not-is_ascii_digit
returns-then-not-is_ascii_digit c = λ all.
    let kept : AllDigits 10 c.split_at.result.0.now = rw c.split_at.ensures.front (digits_parts _ _ all).0 in
    omega (arith, c.if-not-is_ascii_digit.ensures.cases, digit_at _ (c.loop-place.place - 1) kept (omega arith))

-- the product by the digit
product_fits : (digit f : ℕ) → digit ≤ 9 → f ≤ 30 → digit * 2 ^ (f + 1) ≤ 9 * 2 ^ 31
product_fits digit f few most =
    mul-le-mul few (pow-le-pow_right {n = 2} (omega arith) {i = f + 1} {j = 31} (omega (arith, most)))

pub overflow_add-units-in-loop-place : goal.overflow_add-units-in-loop-place
overflow_add-units-in-loop-place c =
    let below = units_below (c.args.f + 1) _ c.loop-place.invariant.found in
    let digit = get_or c.split_at.result.0.now (c.loop-place.place - 1) 0 - 48 in
    let most : c.args.f ≤ 30 = omega (arith, c.requires) in
    let fits = product_fits digit c.args.f (omega (arith, c.if-not-is_ascii_digit.ensures.cases)) most in
    omega (arith, below, fits, product_fits 1 c.args.f (omega arith) most)

pub loop-place-init : goal.loop-place-init
loop-place-init c =
    let kept = c.split_at.result.0.now in
    let none : drop (length kept) kept ≡ [] = drop_all (length kept) kept (omega arith) in
    let found : HasUnits (c.args.f + 1) (drop (length kept) kept) 0 =
    rw none (record { digits = tt; floor = omega arith }) in
    record { found = found; fifths = units_by_fives (c.args.f + 1) _ found; within = omega arith }

pub loop-place-preserved : goal.loop-place-preserved
loop-place-preserved c =
    let l = c.loop-place in
    let kept = c.split_at.result.0.now in
    let at = l.place - 1 in
    let byte = get_or kept at 0 in
    let digit = c.if-not-is_ascii_digit.ensures.cases in
    let next : at + 1 ≡ l.place = omega arith in
    let value : digit_value byte ≡ byte - 48 = omega (arith, digit_value_digit byte digit) in
    let fits = product_fits (byte - 48) c.args.f (omega (arith, digit)) (omega (arith, c.requires)) in
    let shifted : (byte - 48) * 2 ^ (c.args.f + 1) % 2 ^ 64 ≡ (byte - 48) * 2 ^ (c.args.f + 1) =
    mod-eq_of_lt (omega (arith, fits)) in
    let units = (byte - 48) * 2 ^ (c.args.f + 1) % 2 ^ 64 + l.units in
    let found : HasUnits (c.args.f + 1) (drop at kept) (units / 10) =
    rw (shifted, drop_more kept at 0 (omega (arith, l.invariant.within)), next)
    (units_more byte (byte - 48) (drop l.place kept) value (omega (arith, digit)) l.invariant.found) in
    record {
      found = found;
      fifths = units_by_fives (c.args.f + 1) (drop at kept) found;
      within = omega (arith, l.invariant.within);
    }

pub returns : goal.returns
returns c =
    let split = c.split_at.ensures in
    let is : c.if-fraction-most.places ≡ min (length c.args.fraction.now) (c.args.f + 1)
    = elim c.if-fraction-most.branch [
      | then-fraction-most w ↦ omega arith
      | else-fraction-most w ↦ omega arith
    ] in
    let first : c.loop-place.place ≡ 0 = omega (arith, c.loop-place-test.false) in
    rw split.by_index.0 (units_cut _ c.split_at.result.1.now (rw first at c.loop-place.invariant.found)
    (by_test.to _ (sym c.if-not-are_digits.ensures)) (at_cut (c.args.f + 1) _ _ is split.front split.back))
