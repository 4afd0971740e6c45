-- Reports of a linter.
use Rattle.std.specs.Prelude.{◌<◌, ◌+◌, ◌*◌, ◌/◌, ◌≤ℤ◌, ℕ, ℤ, List, length, take, drop, Err}
use Rattle.std.specs.{List.AllWithin, List.HoldsAt}
use Rattle.font_types.specs.{declared.Tag.Tag, Tag.tag_bytes, Tag.IsGood, Tag.IsValidated, Bytes.signed_numeral}
use Rattle.callers.specs.declared.linter.BadTag.{BadTag}

-- the tags before that index are good, and the one there is not, for that reason
pub record IsFirstBad (tags : List Tag) (bad : BadTag) : Type 0 where
  pub within : bad.index < length tags
  pub before : AllWithin (λ tag. IsGood (tag_bytes tag)) tags 0 bad.index
  pub there : HoldsAt (λ tag. IsValidated (tag_bytes tag) (Err bad.error)) tags bad.index

-- the 16.16 number at an offset
abbrev pub number_at : List ℕ → ℕ → ℤ
number_at bytes at = signed_numeral 4 (take 4 (drop at bytes))

-- the values of the axis at that offset are in order (OpenType, fvar: minValue, defaultValue, maxValue)
unfoldable pub IsInOrder : List ℕ → ℕ → Type 0
IsInOrder axes at = (number_at axes (at + 4) ≤ℤ number_at axes (at + 8))
    × (number_at axes (at + 8) ≤ℤ number_at axes (at + 12))

-- the axes before that index are in order, and the one there is not
pub record IsFirstUnordered (axes : List ℕ) (index : ℕ) : Type 0 where
  pub within : index < length axes / 20
  pub before : (k : ℕ) → k < index → IsInOrder axes (k * 20)
  pub there : ¬ IsInOrder axes (index * 20)
