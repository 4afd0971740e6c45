use Rattle.std.proofs.Common.{◌≡◌, ◌+◌, ◌-◌, ◌^◌, ◌≤◌, min, take, arith, sym, ◌∙◌}
use Rattle.std.proofs.{Math.Nat.pow-le-pow_right, lemmas.List.take_rest, lemmas.Nat.one_shl}
use Rattle.std.specs.Str.Parse.{digits_value}
use Rattle.font_decimal.proofs.{Texts.same_point, Parts.fraction_found, Parts.parts_found, Rounding.units_fit}
use Rattle.font_decimal.proofs.{Rounding.UnitsFit, Rounding.units_capped, Units.units_below, Readings.rounds_by}
use Rattle.font_decimal.proofs.reader.nearest_raw.Goals as goal

pub whole_digits-whole-requires : goal.whole_digits-whole-requires
whole_digits-whole-requires c =
    let most : 2 ^ (63 - c.args.f) ≤ 2 ^ 57 = pow-le-pow_right {n = 2} (omega arith) {i = 63 - c.args.f} {j = 57}
    (omega (arith, c.requires)) in
    rw (one_shl (63 - c.args.f) 64 (omega arith)) (omega arith)

pub returns-in_default-after_point-clause-none : goal.returns-in_default-after_point-clause-none
returns-in_default-after_point-clause-none c = grind (arith, take_rest, fraction_found)

pub returns-in_default-half_units-clause-none : goal.returns-in_default-half_units-clause-none
returns-in_default-half_units-clause-none c = grind (arith, same_point, fraction_found, take_rest)

cap : (c : goal.In-Some-half_units) → c.whole_digits-whole.result.0
    ≡ min (digits_value 10 (take c.whole_digits-whole.result.1 c.args.digits.now)) (2 ^ (63 - c.args.f) + 1)
cap c = omega (arith, one_shl (63 - c.args.f) 64 (omega arith), c.whole_digits-whole.ensures.number)

fit : (c : goal.In-Some-half_units) → UnitsFit c.args.f c.whole_digits-whole.result.0 c.in-Some-half_units.half_units
fit c = units_fit c.args.f _ _ _
    (omega (arith, c.requires)) (cap c) (units_below (c.args.f + 1) _ c.in-Some-half_units.ensures)

pub overflow_add-result : goal.overflow_add-result
overflow_add-result c = omega (arith, (fit c).one_more)

pub overflow_add-result-2 : goal.overflow_add-result-2
overflow_add-result-2 c = rw (fit c).shifted (omega (arith, (fit c).total))

pub returns-clause-some : goal.returns-clause-some
returns-clause-some c =
    let whole = c.whole_digits-whole in
    let digits = c.args.digits.now in
    let halves = c.in-Some-half_units.ensures in
    let rest = sym c.split_at.ensures.back ∙ c.in-Some.ensures in
    rw (fit c).shifted (
      _,
      units_capped c.args.f _ _ _ (omega (arith, c.requires)) (cap c),
      λ s. rw halves.floor (rounds_by c.args.f (parts_found _ _ _ s
          whole.ensures.digits (omega arith) whole.ensures.within rest halves.digits)),
    )
