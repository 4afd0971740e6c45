use Rattle.std.proofs.{Common.refl, Common.w16, lemmas.Int.to_z-of_z}
use Rattle.font_geom.proofs.Scaled.{scaled_close, scaled_in_order, scaled_opposite}
use Rattle.font_geom.proofs.laws.scaled.Goals as goal

pub returns-clause-close : goal.returns-clause-close
returns-clause-close c =
    let scale = c.in_ok-scale.ensures in
    let first = rw (to_z-of_z w16 c.args.u c.ranges.u) at c.apply.ensures.value in
    scaled_close _ _ _ _ _ (scale.variant.0 refl).0 scale.value first

pub returns-clause-in_order : goal.returns-clause-in_order
returns-clause-in_order c =
    let scale = c.in_ok-scale.ensures in
    let first = rw (to_z-of_z w16 c.args.u c.ranges.u) at c.apply.ensures.value in
    let second = rw (to_z-of_z w16 c.args.v c.ranges.v) at c.apply-2.ensures.value in
    scaled_in_order _ _ _ _ _ _ _ (scale.variant.0 refl).0 scale.value first second

pub returns-clause-opposite : goal.returns-clause-opposite
returns-clause-opposite c =
    let first = rw (to_z-of_z w16 c.args.u c.ranges.u) at c.apply.ensures.value in
    let second = rw (to_z-of_z w16 c.args.v c.ranges.v) at c.apply-2.ensures.value in
    scaled_opposite _ _ _ _ _ first second
