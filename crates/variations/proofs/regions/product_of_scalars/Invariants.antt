use Rattle.std.proofs.Common.{pos, ◌≤ℤ◌}
use Rattle.font_types.specs.Fixed
use Rattle.font_types.specs.Fixed.{fixed_bits}
use Rattle.variations.specs.Variations.{IsScalarOf}
use Rattle.variations.proofs.regions.product_of_scalars.Given as goal

abbrev pub invariant-loop-axis : goal.invariant-loop-axis
invariant-loop-axis l = IsScalarOf l.region l.coordinates l.axis (fixed_bits l.scalar)
    × (pos 0 ≤ℤ fixed_bits l.scalar) × (fixed_bits l.scalar ≤ℤ fixed_bits Fixed.ONE)
