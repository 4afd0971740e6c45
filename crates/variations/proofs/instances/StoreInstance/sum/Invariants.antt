use Rattle.std.proofs.Common.{ℕ, ◌<◌, ◌≤◌, ◌*◌, ◌^◌, unsigned_abs}
use Rattle.font_types.specs.F48Dot16.{f48dot16_bits}
use Rattle.variations.specs.{Advances.regions_of, Variations.IsSumThrough, Variations.HasTerm}
use Rattle.variations.proofs.instances.StoreInstance.sum.Given as goal

abbrev pub invariant-loop-column : goal.invariant-loop-column
invariant-loop-column l = IsSumThrough (regions_of l.self.store.bytes.now) l.subtable l.self.coordinates.now l.set l.column
    (f48dot16_bits l.sum)
    × (unsigned_abs (f48dot16_bits l.sum) ≤ l.column * 2 ^ 47)
    × ((k : ℕ) → k < l.column → HasTerm (regions_of l.self.store.bytes.now) l.subtable l.set k)
