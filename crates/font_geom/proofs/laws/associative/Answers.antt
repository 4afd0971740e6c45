use Rattle.font_geom.proofs.RingCalls.{products_agree}
use Rattle.font_geom.proofs.laws.associative.Goals as goal

pub returns-clause-equal : goal.returns-clause-equal
returns-clause-equal g c =
    let element = g.met.T.RingElement in
    products_agree (record { product_is = element.product_is; sum_is = element.sum_is }) element.ring c.mul.ensures
    c.mul-2.ensures c.mul-3.ensures c.mul-4.ensures
