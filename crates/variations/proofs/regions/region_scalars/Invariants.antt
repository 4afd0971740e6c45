use Rattle.std.proofs.Common.{◌≡◌, ◌<◌, ◌≤◌, ℕ, pos, ◌≤ℤ◌, length, drop, get_or}
use Rattle.font_types.specs.Fixed.{Fixed, fixed_bits}
use Rattle.variations.specs.Variations.{HasRegion, IsRegionScalar}
use Rattle.variations.proofs.regions.region_scalars.Given as goal

abbrev pub invariant-loop-region : goal.invariant-loop-region
invariant-loop-region l = (length l.scalars ≡ length l.initial.scalars)
    × (l.region ≤ length l.scalars)
    × (drop l.region l.scalars ≡ drop l.region l.initial.scalars)
    × ((k : ℕ) (d : Fixed) → k < l.region
    → IsRegionScalar l.regions k l.coordinates (fixed_bits (get_or l.scalars k d)))
    × ((k : ℕ) → k < l.region → HasRegion l.regions k)
    × ((k : ℕ) (d : Fixed) → k < l.region → pos 0 ≤ℤ fixed_bits (get_or l.scalars k d))
    × ((k : ℕ) (d : Fixed) → k < l.region → fixed_bits (get_or l.scalars k d) ≤ℤ pos 65536)
