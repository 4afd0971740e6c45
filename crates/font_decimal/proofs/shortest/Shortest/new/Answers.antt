use Rattle.font_decimal.specs.declared.shortest.TheConstants.{POINT}
use Rattle.font_decimal.specs.{Shortest.IsShortest, Shortest.shortest_text, Shown.shown}
use Rattle.std.proofs.Common.{arith, w64, FitsSigned, to_z-of_z, unsigned_abs, ◌≡◌, ◌<◌, ◌+◌}
use Rattle.font_decimal.proofs.{Buffer.IsText, Buffer.text_made, Printed.shortest_is, Texts.decimal_is_ascii}
use Rattle.font_decimal.proofs.shortest.Shortest.new.Goals as goal
use Rattle.font_decimal.proofs.shortest.Shortest.new.Goals.{then-places-gt0, else-places-gt0}

size : (c : goal.After-put_sign-start) → c.unsigned_abs-magnitude.result ≡ unsigned_abs c.args.bits
size c =
    let fits : FitsSigned w64 c.args.bits = c.ranges.bits in
    simp to_z-of_z at c.unsigned_abs-magnitude.ensures.value

made : (c : goal.After-put_sign-start)
    → IsText c.args.bits c.args.f c.put_sign-start.result c.if-places-gt0.end c.put_sign-start.new.bytes
made c =
    let fits : FitsSigned w64 c.args.bits = c.ranges.bits in
    let fraction = c.shortest_fraction-places in
    let some : 0 < fraction.result → c.if-places-gt0.end ≡ POINT + 1 + fraction.result =
    λ h. elim c.if-places-gt0.branch [
      | then-places-gt0 w ↦ w.end-is
      | else-places-gt0 w ↦ absurd (omega arith)
    ] in
    let none : fraction.result ≡ 0 → c.if-places-gt0.end ≡ POINT = λ h. elim c.if-places-gt0.branch [
      | then-places-gt0 w ↦ absurd (omega arith)
      | else-places-gt0 w ↦ w.end-is
    ] in
    text_made c.args.bits _ c.put_whole-start.new.bytes c.requires (size c)
    c.unsigned_abs-magnitude.ensures.bound fraction.ensures.places fraction.ensures.digits some none
    c.put_whole-start.ensures.start c.put_whole-start.ensures.text
    (simp to_z-of_z at c.put_sign-start.ensures.start) (simp to_z-of_z at c.put_sign-start.ensures.text)

shortest : (c : goal.After-put_sign-start) → IsShortest c.args.bits c.args.f (shortest_text c.args.bits c.args.f)
shortest c = shortest_is c.args.bits c.args.f (omega (arith, size c, c.unsigned_abs-magnitude.ensures.bound))

pub invariant_of-result : goal.invariant_of-result
invariant_of-result c =
    let is = made c in
    let ascii = decimal_is_ascii _ _ _ (shortest c).plain.decimal in
    record { within = is.within; ascii = rw is.text ascii }

pub returns-clause-shortest : goal.returns-clause-shortest
unfolding shown
returns-clause-shortest c = rw (made c.before).text (shortest c.before)

pub returns-clause-text : goal.returns-clause-text
unfolding shown
returns-clause-text c = (made c.before).text
