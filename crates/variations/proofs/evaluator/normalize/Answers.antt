-- The clamped value is within the range, and has the coordinate.
use Rattle.std.proofs.Common.{rules, ap}
use Rattle.font_types.specs.Fixed.{fixed_bits}
use Rattle.font_types.proofs.Callers.{calls}
use Rattle.variations.proofs.Normals.{is_normalized}
use Rattle.variations.proofs.evaluator.normalize.Goals as goal

pub returns-then-has_range-clause-value : goal.returns-then-has_range-clause-value
returns-then-has_range-clause-value c =
    let clamped = c.clamp-clamped.ensures in
    let gives = c.normalize_clamped.ensures in
    is_normalized _ _ _ _ (fixed_bits c.clamp-clamped.result) _ (search (rules, calls)) (search (rules, calls))
    (λ low high. ap fixed_bits (clamped.inside low high)) (λ low. ap fixed_bits (clamped.below low))
    (λ high. ap fixed_bits (clamped.above high)) gives.default
    (λ over. gives.above over) (λ under. gives.below under) gives.max gives.min
