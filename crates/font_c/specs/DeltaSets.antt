-- Delta sets of item variation stores. (OpenType, item variation stores: a delta set has as many deltas of 16 bits as
-- the low 15 bits of `wordDeltaCount` say, followed by deltas of 8 bits; or of 32 and of 16 bits, if its bit 0x8000 is
-- set.) OpenType has no statuses.
use Rattle.std.specs.Prelude.{◌≡◌, ◌+◌, ◌-◌, ◌*◌, ◌^◌, ◌<◌, ◌≤◌, ℕ, zero, suc, ℤ, pos, ◌+ℤ◌, ◌*ℤ◌, List, length, nat_lt}
use Rattle.std.specs.Prelude.{if◌then◌else◌, slice_index_or, take, drop}
use Rattle.font_types.specs.Bytes.{signed_numeral}
use Rattle.font_c.specs.Status.{count_mismatch, too_many, StoresExact}

-- the delta at an index of a delta set whose first deltas, as many as `words`, have `wide` bytes, and the others
-- `narrow`
abbrev pub delta_at : ℕ → ℕ → ℕ → List ℕ → ℕ → ℤ
delta_at wide narrow words set index =
    if nat_lt index words then signed_numeral wide (take wide (drop (wide * index) set))
    else signed_numeral narrow (take narrow (drop (wide * words + narrow * (index - words)) set))

-- the exact sum of the first n products of scalars and deltas
unfoldable pub first_products : ℕ → ℕ → ℕ → List ℕ → List ℤ → ℕ → ℤ
first_products wide narrow words set scalars zero = pos 0
first_products wide narrow words set scalars (suc n) =
    first_products wide narrow words set scalars n
    +ℤ (slice_index_or scalars n (pos 0) *ℤ delta_at wide narrow words set n)

-- the exact sum of all products of scalars and deltas
abbrev pub set_sum : ℕ → ℕ → ℕ → List ℕ → List ℤ → ℤ
set_sum wide narrow words set scalars = first_products wide narrow words set scalars (length scalars)

-- the set has as many deltas as there are scalars
abbrev pub IsSet : ℕ → ℕ → ℕ → List ℕ → ℕ → Type 0
IsSet wide narrow words set count = (words ≤ count) × (length set ≡ wide * words + narrow * (count - words))

-- the exact sum is stored, if there are at most as many scalars as a font can have, and as many deltas, and if 64 bits
-- hold it, as they always do for deltas of 16 and 8 bits; otherwise the status says which is not so, in this order
pub record StoresSetSum (field : ℕ) (set : List ℕ) (scalars : List ℤ) (status : ℕ) (old new : ℤ) : Type 0 where
  pub many : 2 ^ 16 ≤ length scalars → (status ≡ too_many) × (new ≡ old)
  pub sum : field < 2 ^ 15 → length scalars < 2 ^ 16 → IsSet 2 1 field set (length scalars)
      → (status ≡ 0) × (new ≡ set_sum 2 1 field set scalars)
  pub other : field < 2 ^ 15 → length scalars < 2 ^ 16 → ¬ IsSet 2 1 field set (length scalars)
      → (status ≡ count_mismatch) × (new ≡ old)
  pub long : 2 ^ 15 ≤ field → length scalars < 2 ^ 16 → IsSet 4 2 (field - 2 ^ 15) set (length scalars)
      → StoresExact 64 (set_sum 4 2 (field - 2 ^ 15) set scalars) status old new
  pub long_other : 2 ^ 15 ≤ field → length scalars < 2 ^ 16 → ¬ IsSet 4 2 (field - 2 ^ 15) set (length scalars)
      → (status ≡ count_mismatch) × (new ≡ old)
