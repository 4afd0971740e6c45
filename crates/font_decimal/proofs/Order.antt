-- Parsing and printing preserve order.
use Rattle.std.proofs.Common.{◌≡◌, sym, ap, subst, ℕ, ◌^◌, ◌≤◌, List, ℤ, pos, ◌*ℤ◌, ◌≤ℤ◌, Result, Ok, unsigned_abs}
use Rattle.std.proofs.Common.{arith}
use Rattle.std.proofs.lemmas.Int.{ints, by_lt_z}
use Rattle.font_decimal.specs.Reading.{Rounds, Parses, IsAtMost}
use Rattle.font_decimal.specs.{Grammar.Decimal, Shortest.shortest_text, declared.reader.DecimalFault.DecimalFault}
use Rattle.font_decimal.proofs.Integers.{swap_factors, times_monotone}
use Rattle.font_decimal.proofs.{Printed.shortest_is, Near.near_monotone, Texts.decimal_unique, Units.ten_pos}

-- of two texts, the one of greater decimal value never parses as the smaller number
pub rounds_in_order : {s t : List ℕ} {f : ℕ} {a b : ℤ} → IsAtMost s t → Rounds s f a → Rounds t f b → a ≤ℤ b
rounds_in_order {f = f} most x y =
    let first = decimal_unique _ _ _ _ _ most.first x.decimal in
    let second = decimal_unique _ _ _ _ _ most.second y.decimal in
    let scaled = times_monotone _ _ (2 ^ f)
    (rw (first.numeral, first.places, second.numeral, second.places) at most.ordered) in
    near_monotone (ten_pos x.places) (ten_pos y.places) x.nearest y.nearest
    (rw (swap_factors x.numeral (2 ^ f) (10 ^ y.places), swap_factors y.numeral (2 ^ f) (10 ^ x.places)) scaled)

pub order_of_readings : (s t : List ℕ) (f : ℕ) (min max : ℤ) (q r : Result ℤ DecimalFault) → Parses s f min max q
    → Parses t f min max r
    → (a b : ℤ) → q ≡ Ok a → r ≡ Ok b → IsAtMost s t → a ≤ℤ b
order_of_readings s t f min max q r x y a b first second most =
    rounds_in_order most (rw first at x).rounds (rw second at y).rounds

-- printing keeps the order: of two values, the greater never prints the smaller decimal
pub printed_in_order : (a b : ℤ) (f : ℕ) → unsigned_abs a ≤ 2 ^ 63 → unsigned_abs b ≤ 2 ^ 63 → a ≤ℤ b
    → IsAtMost (shortest_text a f) (shortest_text b f)
printed_in_order a b f small_a small_b order =
    let s = shortest_is a f small_a in
    let t = shortest_is b f small_b in
    record {
      n = s.numeral;
      j = s.places;
      first = s.plain.decimal;
      m = t.numeral;
      k = t.places;
      second = t.plain.decimal;
      ordered = by_lt_z (t.numeral *ℤ pos (10 ^ s.places)) (s.numeral *ℤ pos (10 ^ t.places))
          (λ less.
          let turned : IsAtMost (shortest_text b f) (shortest_text a f) = record {
            n = t.numeral;
            j = t.places;
            first = t.plain.decimal;
            m = s.numeral;
            k = s.places;
            second = s.plain.decimal;
            ordered = omega (arith, ints, less);
          } in
          let same : a ≡ b = omega (arith, ints, order, rounds_in_order turned t.rounds s.rounds) in
          let moved = subst (λ (text : List ℕ). Decimal text t.numeral t.places)
          (sym (ap (λ z. shortest_text z f) same)) t.plain.decimal in
          let one = decimal_unique (shortest_text a f) _ _ _ _ s.plain.decimal moved in
          absurd (omega (arith, ints, rw (one.numeral, one.places) at less)))
          (λ more. more);
    }
