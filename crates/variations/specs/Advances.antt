-- Tables HVAR and item variation stores, from offset to offset.
use Rattle.std.specs.Prelude.{◌≡◌, ◌≢◌, ℕ, ◌+◌, ◌*◌, ◌<◌, ◌≤◌, ◌/◌, ◌%◌, ◌^◌, List, length, take, drop, nat_eq}
use Rattle.std.specs.Prelude.{if◌then◌else◌}
use Rattle.font_types.specs.Bytes.{numeral}
use Rattle.variations.specs.Variations.{HasEntry, entry_of, inner_bits}

-- the offset of four bytes at a place (OpenType, Data Types: Offset32, zero for null)
abbrev pub offset_at : List ℕ → ℕ → ℕ
offset_at table place = numeral (take 4 (drop place table))

-- it is in the table, is not null, and points into the table or to its end
pub record HasTarget (table : List ℕ) (place : ℕ) : Type 0 where
  pub offset : place + 4 ≤ length table
  pub some : offset_at table place ≢ 0
  pub within : offset_at table place ≤ length table

-- the bytes from where it points
abbrev pub target_of : List ℕ → ℕ → List ℕ
target_of table place = drop (offset_at table place) table

-- the store is of format 1, and has a list of regions
pub record HasRegionList (store : List ℕ) : Type 0 where
  pub format : numeral (take 2 store) ≡ 1
  pub list : HasTarget store 2

-- ---- HVAR (OpenType, HVAR: majorVersion at 0, itemVariationStoreOffset at 4, and a header of 20 bytes)

abbrev pub hvar_version : List ℕ → ℕ
hvar_version hvar = numeral (take 2 hvar)

-- a table of major version 1, with the whole header and a store
pub record IsHvar (hvar : List ℕ) : Type 0 where
  pub version : hvar_version hvar ≡ 1
  pub header : 20 ≤ length hvar
  pub store : HasTarget hvar 4
  pub list : HasRegionList (target_of hvar 4)

-- ---- the delta set of a glyph (OpenType, HVAR: itemVariationStoreOffset at 4, advanceWidthMappingOffset at 8; without
-- a map, the outer index is zero and the inner index is the glyph)

-- the table has the offset of a map, which is null, or of a map with an entry for the glyph
pub record HasGlyphSet (hvar : List ℕ) (glyph : ℕ) : Type 0 where
  pub offset : 12 ≤ length hvar
  pub map : offset_at hvar 8 ≢ 0 → HasTarget hvar 8
  pub entry : offset_at hvar 8 ≢ 0 → HasEntry (target_of hvar 8) glyph

abbrev pub outer_index : List ℕ → ℕ → ℕ
outer_index hvar glyph = if nat_eq (offset_at hvar 8) 0 then 0
    else entry_of (target_of hvar 8) glyph / 2 ^ inner_bits (target_of hvar 8)

abbrev pub inner_index : List ℕ → ℕ → ℕ
inner_index hvar glyph = if nat_eq (offset_at hvar 8) 0 then glyph
    else entry_of (target_of hvar 8) glyph % 2 ^ inner_bits (target_of hvar 8)

-- ---- the data of a set (OpenType, "Item Variation Store": format, variationRegionListOffset at 2,
-- itemVariationDataCount at 6, and the offsets of the data from 8 on)

abbrev pub data_count : List ℕ → ℕ
data_count store = numeral (take 2 (drop 6 store))

-- where the offset of a subtable is
abbrev pub data_place : ℕ → ℕ
data_place outer = 8 + 4 * outer

-- the store has its list of regions and all offsets of its header, that of the subtable points into it, and the inner
-- index fits in 16 bits
pub record HasData (store : List ℕ) (outer inner : ℕ) : Type 0 where
  pub regions : HasRegionList store
  pub header : data_place (data_count store) ≤ length store
  pub is_data : outer < data_count store
  pub subtable : HasTarget store (data_place outer)
  pub narrow : inner < 65536

abbrev pub regions_of : List ℕ → List ℕ
regions_of store = target_of store 2

abbrev pub subtable_of : List ℕ → ℕ → List ℕ
subtable_of store outer = target_of store (data_place outer)
