-- One more coordinate.
use Rattle.std.proofs.Common.{rules}
use Rattle.std.proofs.lemmas.List.Elements.{AllWithin-more_set}
use Rattle.font_types.proofs.Callers.{calls}
use Rattle.variations.specs.Evaluator.{IsWithinOne}
use Rattle.variations.proofs.Coordinates.{one_more_coordinate}
use Rattle.variations.proofs.evaluator.write_coordinates.Goals as goal

pub loop-index-preserved : goal.loop-index-preserved
loop-index-preserved c =
    let is = c.unwrap-next.ensures in
    let so_far = c.loop-index.invariant in (
      rw is at c.coordinate_along.ensures.next,
      search (rules, calls),
      one_more_coordinate _ _ _ c.loop-index.coordinates c.loop-index.index c.from.result c.unwrap-next.result.0
          c.from.ensures (search (rules, calls)) so_far.2 (rw is at c.coordinate_along.ensures.value),
      rw c.from.ensures (AllWithin-more_set c.loop-index.coordinates c.loop-index.index c.unwrap-next.result.0
          (search (rules, calls)) IsWithinOne so_far.3 (rw is at c.coordinate_along.ensures.within)),
    )
