-- Sums of deltas, over a list of scalars and one of deltas. The exact product of a 16.16 number and an integer has the
-- product of their bits as its bits, so the sum of these is the sum of deltas (OpenType, item variation stores), in
-- units of 2^-16.
use Rattle.std.specs.Prelude.{◌≡◌, ◌≢◌, ℕ, List, length, ℤ, pos, ◌+ℤ◌, ◌*ℤ◌}
use Rattle.std.specs.List.{zip}
use Rattle.font_types.specs.{Delta.total, FWord.nearest_unit}
use Rattle.font_c.specs.Status.{count_mismatch, StoresExact}

-- the exact sum of the products, item by item
abbrev pub sum_of_products : List ℤ → List ℤ → ℤ
sum_of_products scalars deltas = total (λ term. term.0 *ℤ term.1) (zip scalars deltas)

-- the exact sum is stored if the lists have one length, and 64 bits hold it; otherwise the status says which is not so
pub record StoresSum (scalars deltas : List ℤ) (status : ℕ) (old new : ℤ) : Type 0 where
  pub sum : length scalars ≡ length deltas → StoresExact 64 (sum_of_products scalars deltas) status old new
  pub refused : length scalars ≢ length deltas → (status ≡ count_mismatch) × (new ≡ old)

-- the nearest font unit to a number of font units moved by a 48.16 delta, half up
abbrev pub moved_by : ℤ → ℤ → ℤ
moved_by base delta = nearest_unit (base *ℤ pos 65536 +ℤ delta)
