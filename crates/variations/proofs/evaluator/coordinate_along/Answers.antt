-- The value and the map of the axis.
use Rattle.std.proofs.Common.{rules, ◌≡◌}
use Rattle.std.specs.Option.{option_map}
use Rattle.font_types.specs.Fixed.{fixed_bits}
use Rattle.font_types.proofs.Callers.{calls}
use Rattle.variations.specs.Evaluator.{IsAxis, IsCoordinate, map_of}
use Rattle.variations.proofs.evaluator.coordinate_along.Goals as goal

pub returns-clause-value : goal.returns-clause-value
returns-clause-value c =
    let found = c.in_ok-axis.axis in
    let axis : IsAxis c.args.fvar.now.bytes.now c.args.index found = search (rules, calls) in
    let map : c.in_ok-map.map.now ≡ map_of (option_map (λ avar. avar.now) c.args.avar.now.bytes) c.args.index =
    search (rules, calls) in
    let is : IsCoordinate (fixed_bits found.min_value) (fixed_bits found.default_value) (fixed_bits found.max_value)
    (fixed_bits c.value_of-value.result) c.in_ok-map.map.now c.in_ok-coordinate.coordinate = search (rules, calls) in
    record {
      value = fixed_bits c.value_of-value.result;
      is_value = rw (axis.axis_tag, axis.default_value) at c.value_of-value.ensures;
      is_coordinate = rw (axis.min_value, axis.default_value, axis.max_value, map) at is;
    }
