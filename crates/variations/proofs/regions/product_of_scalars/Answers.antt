-- Once the scalar is 0, so is the product.
use Rattle.std.proofs.Common.{rules, ◌≡◌, ◌≤◌, ◌+◌, pos}
use Rattle.font_types.proofs.Callers.{calls}
use Rattle.font_types.specs.Fixed.{fixed_bits}
use Rattle.variations.proofs.Scalars.{zero_stays}
use Rattle.variations.proofs.Stores.{one_more_axis, scalar_is_near}
use Rattle.variations.proofs.regions.product_of_scalars.Goals as goal

pub returns-then-eq-clause-value : goal.returns-then-eq-clause-value
returns-then-eq-clause-value c =
    let none : fixed_bits c.scaled_along-scalar.result ≡ pos 0 = search (rules, calls) in
    let within : c.loop-axis.axis + 1 ≤ c.args.axes = search (rules, calls) in
    let so_far = one_more_axis c.args.region.now c.args.coordinates.now c.loop-axis.axis _ _ c.loop-axis.invariant.0
    c.scaled_along-scalar.ensures.value in
    rw none (zero_stays c.args.region.now c.args.coordinates.now (c.loop-axis.axis + 1) c.args.axes within
    (rw none at so_far))

pub returns-then-eq-clause-near : goal.returns-then-eq-clause-near
returns-then-eq-clause-near c = scalar_is_near c.args.region.now c.args.coordinates.now c.args.axes _
    (returns-then-eq-clause-value c)
