use Rattle.std.proofs.Common.{rules, arith, subst, ◌≡◌, ◌↔◌, ◌∙◌, IsSome, IfSome}
use Rattle.font_types.specs.{DeltaSum.steps_of, F48Dot16.f48dot16_bits, Wrap.FitsBits}
use Rattle.font_c.specs.Sums.{sum_of_products}
use Rattle.font_c.proofs.Sums.{sum_of_all, sum_grows}
use Rattle.font_c.proofs.delta.sum_in_range.Goals as goal

pub loop-i-preserved : goal.loop-i-preserved
loop-i-preserved c = sum_grows c.args.scalars.now c.args.deltas.now c.loop-i.i _ _ _ c.requires c.loop-i-test.true
    (omega arith) c.loop-i.invariant (search rules) c.add_product.ensures.small

summed : (c : goal.After-checked_finish) → steps_of c.loop-i.sum ≡ sum_of_products c.args.scalars.now c.args.deltas.now
summed c = c.loop-i.invariant.0 ∙ sum_of_all _ _ c.loop-i.i c.requires (omega (arith, c.loop-i-test.false))

pub returns-clause-variant : goal.returns-clause-variant
returns-clause-variant c =
    subst (λ z. IsSome c.checked_finish.result ↔ FitsBits 64 z) (summed c) c.checked_finish.ensures.variant

pub returns-clause-value : goal.returns-clause-value
returns-clause-value c = subst (λ z. IfSome c.checked_finish.result (λ sum. f48dot16_bits sum ≡ z)) (summed c)
    c.checked_finish.ensures.value
