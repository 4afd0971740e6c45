-- The scalars before the region that the list does not have.
use Rattle.std.proofs.Common.{rules, arith, ◌≡◌}
use Rattle.font_types.proofs.Callers.{calls}
use Rattle.variations.specs.Variations.{HasRegion}
use Rattle.variations.proofs.Stores.{are_scalars}
use Rattle.variations.proofs.regions.region_scalars.Goals as goal

pub returns-in_default-clause-value : goal.returns-in_default-clause-value
returns-in_default-clause-value c =
    let so_far = c.loop-region.invariant in
    let last : ¬ HasRegion c.args.regions.now c.loop-region.region = search (rules, calls) in
    are_scalars c.args.regions.now c.args.coordinates.now c.loop-region.region c.from.result c.loop-region.scalars
    c.from.ensures so_far.1 so_far.3 so_far.4 so_far.5 so_far.6 last

pub returns-clause-value : goal.returns-clause-value
returns-clause-value c =
    let so_far = c.loop-region.invariant in
    let is : 0x7FFF ≡ c.loop-region.region = omega arith in
    let last : ¬ HasRegion c.args.regions.now c.loop-region.region =
    λ has. omega (arith, is, has.count, has.within) in
    are_scalars c.args.regions.now c.args.coordinates.now c.loop-region.region 0x7FFF c.loop-region.scalars
    is so_far.1 so_far.3 so_far.4 so_far.5 so_far.6 last

pub returns-clause-rest : goal.returns-clause-rest
returns-clause-rest c =
    let is : 0x7FFF ≡ c.loop-region.region = omega arith in
    rw is c.loop-region.invariant.2
