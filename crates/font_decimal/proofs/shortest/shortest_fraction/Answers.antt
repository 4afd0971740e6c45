use Rattle.font_decimal.specs.{declared.shortest.TheConstants.POINT, Shortest.reads_back}
use Rattle.std.proofs.Common.{◌≡◌, ◌+◌, ◌*◌, ◌/◌, ◌%◌, ◌^◌, ◌<◌, ◌≤◌, false, arith, sym, ◌∙◌, add-one, below_more, refl}
use Rattle.std.proofs.Common.{pow-suc, append-nil, append_assoc, take}
use Rattle.std.proofs.{lemmas.List.length-set, lemmas.Nat.one_shl}
use Rattle.font_decimal.proofs.Buffer.{unit_is, nine_places, put_behind, digit_more, digit_raised}
use Rattle.font_decimal.proofs.Fewest.{place_left, places_are}
use Rattle.font_decimal.proofs.Remainder.{stopped, fails_here, rounded_up, first_numeral, next_numeral, next_digit}
use Rattle.font_decimal.proofs.shortest.shortest_fraction.Goals as goal
use Rattle.font_decimal.proofs.shortest.shortest_fraction.Goals.{After-loop-margin, In-loop-margin}

fails : (c : In-loop-margin) → reads_back c.args.magnitude c.args.f c.loop-margin.places ≡ false
fails c = fails_here c.loop-margin.invariant.rest (omega (arith, c.min.ensures, unit_is c.args.f c.requires))

pub loop-margin-init : goal.loop-margin-init
loop-margin-init c = record {
  margin = refl;
  numeral = c.args.magnitude / 2 ^ c.args.f;
  digits = sym (append-nil _);
  long = c.told-bytes;
  rest = rw (one_shl c.args.f 64 (omega arith)) (first_numeral c.args.magnitude c.args.f);
  few = omega arith;
  within = omega arith;
  fail = λ j h. absurd (omega arith);
}

pub loop-margin-smaller : goal.loop-margin-smaller
loop-margin-smaller c = omega (arith, place_left _ _ _ c.loop-margin.invariant.within (fails c.before))

pub loop-margin-preserved : goal.loop-margin-preserved
loop-margin-preserved c =
    let p = c.loop-margin.places in
    let rest = c.loop-margin.rest in
    let l = c.loop-margin.invariant in
    let unit = 1 * 2 ^ (c.args.f + 1) % 18446744073709551616 in
    let is = unit_is c.args.f c.requires in
    let less : rest < unit = omega (arith, l.rest.below, is) in
    let so_far : p ≤ 9 = nine_places p c.args.f c.requires
    (omega (arith, c.min.ensures, c.loop-margin-test.true, is, l.rest.below, l.margin)) in
    let end : POINT + 1 + (p + 1) ≡ POINT + 1 + p + 1 = omega arith in
    let put = put_behind c.loop-margin.bytes (POINT + 1 + p) (48 + 10 * rest / unit) (omega (arith, l.long, so_far)) in
    let more = digit_more p l.numeral (10 * rest / unit) (next_digit rest unit less) in
    record {
      margin = rw (l.margin, add-one) (sym (pow-suc 10 p));
      numeral = 10 * l.numeral + 10 * rest / unit;
      digits = rw end (put ∙ rw (l.digits, more, append_assoc) refl);
      long = rw length-set l.long;
      rest = next_numeral l.rest is;
      few = omega (arith, so_far);
      within = omega (arith, place_left _ _ _ l.within (fails c.before));
      fail = below_more _ p l.fail (fails c.before);
    }

pub overflow_add-bytes-then-rest-unit-2 : goal.overflow_add-bytes-then-rest-unit-2
overflow_add-bytes-then-rest-unit-2 c =
    let l = c.loop-margin.invariant in
    let unit = unit_is c.args.f c.requires in
    let fewest = stopped l.rest (omega (arith, c.min.ensures, unit)) l.within l.fail in
    let up = digit_raised c.loop-margin.places c.loop-margin.bytes (take (POINT + 1) c.args.bytes.now) fewest l.rest
    (omega (arith, c.if-rest-unit.true, unit))
    (omega (arith, c.min.ensures, c.loop-margin-test.false, l.margin, unit)) (omega (arith, l.long, l.few)) l.digits in
    omega (arith, up.fits)

pub returns-then-rest-unit-clause-places : goal.returns-then-rest-unit-clause-places
returns-then-rest-unit-clause-places c =
    let l = c.loop-margin.invariant in
    places_are (stopped l.rest (omega (arith, c.min.ensures, unit_is c.args.f c.requires)) l.within l.fail)

pub returns-then-rest-unit-clause-digits : goal.returns-then-rest-unit-clause-digits
returns-then-rest-unit-clause-digits c =
    let l = c.loop-margin.invariant in
    let unit = unit_is c.args.f c.requires in
    let fewest = stopped l.rest (omega (arith, c.min.ensures, unit)) l.within l.fail in
    let up = digit_raised c.loop-margin.places c.loop-margin.bytes (take (POINT + 1) c.args.bytes.now) fewest l.rest
    (omega (arith, c.if-rest-unit.true, unit))
    (omega (arith, c.min.ensures, c.loop-margin-test.false, l.margin, unit)) (omega (arith, l.long, l.few)) l.digits in
    rw (rounded_up l.rest (omega (arith, c.if-rest-unit.true, unit))) up.text

pub returns-else-rest-unit-clause-places : goal.returns-else-rest-unit-clause-places
returns-else-rest-unit-clause-places c =
    let l = c.loop-margin.invariant in
    places_are (stopped l.rest (omega (arith, c.min.ensures, unit_is c.args.f c.requires)) l.within l.fail)
