use Rattle.std.proofs.Common.{unsigned_abs, ◌≤◌, ◌^◌, w64, arith, SFits, ◌∙◌, ap}
use Rattle.std.proofs.lemmas.Int.{ints, to_z-of_z}
use Rattle.font_decimal.specs.{Reading.Reads, Shortest.shortest_text}
use Rattle.font_decimal.proofs.Again.{printed_again}
use Rattle.font_decimal.proofs.laws.printed_again.Goals as goal

reading : (c : goal.After-new) → Reads c.args.text.now c.args.f c.args.min c.args.max c.in_ok-bits.bits
reading c = grind (arith, to_z-of_z)

fits : (c : goal.After-new) → SFits w64 c.in_ok-bits.bits
fits c = omega (arith, ints, (reading c).low, (reading c).high, c.ranges.min, c.ranges.max)

pub returns-clause-printed : goal.returns-clause-printed
returns-clause-printed c =
    (c.in_ok-bits.bits, reading c, c.new.ensures.text ∙ ap (λ b. shortest_text b c.args.f) (to_z-of_z w64 _ (fits c)))

pub returns-clause-again : goal.returns-clause-again
returns-clause-again c = λ n k tidy few.
    let small : unsigned_abs c.in_ok-bits.bits ≤ 2 ^ 63 = omega (arith, ints, fits c) in
    c.new.ensures.text ∙ ap (λ b. shortest_text b c.args.f) (to_z-of_z w64 _ (fits c))
    ∙ printed_again c.args.text.now n c.in_ok-bits.bits k c.args.f tidy few small (reading c).rounds
