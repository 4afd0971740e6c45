use Rattle.font_geom.proofs.RingCalls.{left_identity, right_identity}
use Rattle.font_geom.proofs.laws.identity_neutral.Goals as goal

pub returns : goal.returns
returns g c =
    let element = g.met.T.RingElement in
    let left = left_identity
    (record { product_is = element.product_is; sum_is = element.sum_is }) element.ring c.identity.ensures
    c.mul.ensures in
    let right = right_identity
    (record { product_is = element.product_is; sum_is = element.sum_is }) element.ring c.identity-2.ensures
    c.mul-2.ensures in
    record { first = left.0; second = right.0; left = left.1; right = right.1 }
