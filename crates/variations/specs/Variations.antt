-- Item variation stores (OpenType, font variations common table formats: "Item Variation Store").
use Rattle.std.specs.Prelude.{◌≡◌, ◌≢◌, ◌⊎◌, ℕ, zero, suc, ◌+◌, ◌*◌, ◌-◌, ◌%◌, ◌/◌, ◌<◌, ◌≤◌, min, ℤ, pos, ◌≤ℤ◌, ◌<ℤ◌}
use Rattle.std.specs.Prelude.{◌-ℤ◌, ◌+ℤ◌, ◌*ℤ◌, unsigned_abs, List, length, take, drop, slice_index_or, nat_le, nat_lt}
use Rattle.std.specs.Prelude.{nat_eq, if◌then◌else◌, Bool, ◌&&◌, ◌||◌, int_lt, int_le}
use Rattle.std.specs.Ordering.{int_eq}
use Rattle.font_types.specs.F2Dot14.{f2dot14_bits, f2dot14_of, F2Dot14}
use Rattle.font_types.specs.{Bytes.numeral, Bytes.signed_numeral, Operations.IsMulDiv, Operations.rounded_mul_div}
use Rattle.font_types.specs.{Fixed.fixed_bits, Fixed.Fixed, FWord.nearest_unit, Wrap.wrap}

-- ---- the scalar of an axis ("Algorithm for interpolation of instance values"): coordinates are raw values of 2.14,
-- and the scalar is one of 16.16

-- the axis is ignored: start, peak and end are out of order, or on both sides of zero, or the peak is zero
abbrev pub IsIgnored : ℤ → ℤ → ℤ → Type 0
IsIgnored start peak end = (peak <ℤ start) ⊎ ((end <ℤ peak) ⊎ (((start <ℤ pos 0) × (pos 0 <ℤ end)) ⊎ (peak ≡ pos 0)))

-- the coordinate is at the start or the end of the region, where the part of the way is 0, or beyond
abbrev pub IsOffRegion : ℤ → ℤ → ℤ → Type 0
IsOffRegion start end coordinate = (coordinate ≤ℤ start) ⊎ (end ≤ℤ coordinate)

-- the scalar after an axis: the one before if the axis is ignored, and at the peak; else 0 if the coordinate is out of
-- range; else the one before times the part of the way from the start up to the peak, or from the end down to it,
-- rounded once to 16.16 (OpenType sets no precision)
pub record IsScalarAfter (start peak end coordinate before scalar : ℤ) : Type 0 where
  pub ignored : IsIgnored start peak end → scalar ≡ before
  pub at_peak : coordinate ≡ peak → scalar ≡ before
  pub outside : ¬ IsIgnored start peak end → coordinate ≢ peak → IsOffRegion start end coordinate → scalar ≡ pos 0
  pub rising : ¬ IsIgnored start peak end → start <ℤ coordinate → coordinate <ℤ peak
      → IsMulDiv 32 before (coordinate -ℤ start) (peak -ℤ start) scalar
  pub falling : ¬ IsIgnored start peak end → peak <ℤ coordinate → coordinate <ℤ end
      → IsMulDiv 32 before (end -ℤ coordinate) (end -ℤ peak) scalar

-- the scalar of an axis: that after it, with 1 before
abbrev pub IsAxisScalar : ℤ → ℤ → ℤ → ℤ → ℤ → Type 0
IsAxisScalar start peak end coordinate scalar = IsScalarAfter start peak end coordinate (pos 65536) scalar

-- ---- the scalar of a region ("Variation Regions": axisCount, regionCount, and for each region and axis startCoord,
-- peakCoord and endCoord, two bytes each)

abbrev pub axis_count : List ℕ → ℕ
axis_count regions = numeral (take 2 regions)

abbrev pub region_count : List ℕ → ℕ
region_count regions = numeral (take 2 (drop 2 regions))

-- where the coordinates of a region are stored
abbrev pub region_offset : ℕ → ℕ → ℕ
region_offset axes region = 4 + 6 * (region * axes)

-- the region is in a list of at most 32767 (the high bit of regionCount is reserved), and the list does not end before
-- it does
pub record HasRegion (regions : List ℕ) (region : ℕ) : Type 0 where
  pub count : region_count regions < 0x8000
  pub within : region < region_count regions
  pub bytes : region_offset (axis_count regions) region + 6 * axis_count regions ≤ length regions

-- its bytes
abbrev pub region_bytes : List ℕ → ℕ → List ℕ
region_bytes regions region =
    take (6 * axis_count regions) (drop (region_offset (axis_count regions) region) regions)

-- the raw value of 2.14 that is stored at an offset
abbrev pub stored_bits : List ℕ → ℕ → ℤ
stored_bits bytes offset = signed_numeral 2 (take 2 (drop offset bytes))

-- the coordinate along an axis: zero, the default, if there is none
abbrev pub coordinate_bits : List F2Dot14 → ℕ → ℤ
coordinate_bits coordinates axis = f2dot14_bits (slice_index_or coordinates axis (f2dot14_of (pos 0)))

-- the scalar of a region after an axis
abbrev pub IsScalarAfterAxis : List ℕ → List F2Dot14 → ℕ → ℤ → ℤ → Type 0
IsScalarAfterAxis region coordinates axis before scalar = IsScalarAfter (stored_bits region (6 * axis))
    (stored_bits region (6 * axis + 2)) (stored_bits region (6 * axis + 4)) (coordinate_bits coordinates axis)
    before scalar

-- the product of the scalars along the first n axes, rounded once for each axis, in their order
unfoldable pub IsScalarOf : List ℕ → List F2Dot14 → ℕ → ℤ → Type 0
IsScalarOf region coordinates zero scalar = scalar ≡ pos 65536
IsScalarOf region coordinates (suc n) scalar = (before : ℤ) × IsScalarOf region coordinates n before
    × IsScalarAfterAxis region coordinates n before scalar

-- the product of the scalars along all axes
abbrev pub IsRegionScalar : List ℕ → ℕ → List F2Dot14 → ℤ → Type 0
IsRegionScalar regions region coordinates scalar =
    IsScalarOf (region_bytes regions region) coordinates (axis_count regions) scalar

-- ---- the same scalars as functions

-- whether the axis is ignored, as `IsIgnored` has it
abbrev pub is_ignored_axis : ℤ → ℤ → ℤ → Bool
is_ignored_axis start peak end =
    int_lt peak start || (int_lt end peak || ((int_lt start (pos 0) && int_lt (pos 0) end) || int_eq peak (pos 0)))

-- a scalar times a part of a way, rounded
abbrev pub share : ℤ → ℤ → ℤ → ℤ
share scalar part way = wrap 32 (rounded_mul_div scalar part way)

-- the scalar after an axis
unfoldable pub scalar_after : ℤ → ℤ → ℤ → ℤ → ℤ → ℤ
scalar_after start peak end coordinate before =
    if is_ignored_axis start peak end || int_eq coordinate peak then before
    else (if int_le coordinate start || int_le end coordinate then pos 0
    else (if int_lt coordinate peak then share before (coordinate -ℤ start) (peak -ℤ start)
    else share before (end -ℤ coordinate) (end -ℤ peak)))

-- the product of the scalars along the first n axes, rounded once for each axis
unfoldable pub scalar_of : List ℕ → List F2Dot14 → ℕ → ℤ
scalar_of region coordinates zero = pos 65536
scalar_of region coordinates (suc n) = scalar_after (stored_bits region (6 * n)) (stored_bits region (6 * n + 2))
    (stored_bits region (6 * n + 4)) (coordinate_bits coordinates n) (scalar_of region coordinates n)

-- the scalar of a region of a list
abbrev pub region_scalar : List ℕ → ℕ → List F2Dot14 → ℤ
region_scalar regions region coordinates =
    scalar_of (region_bytes regions region) coordinates (axis_count regions)

-- the scalars of all regions of a list, in order
pub record AreScalars (regions : List ℕ) (coordinates : List F2Dot14) (scalars : List Fixed) : Type 0 where
  pub each : (region : ℕ) (d : Fixed) → region < length scalars
      → fixed_bits (slice_index_or scalars region d) ≡ region_scalar regions region coordinates
  pub are_there : (region : ℕ) → region < length scalars → HasRegion regions region
  pub all : (region : ℕ) → HasRegion regions region → region < length scalars
  pub low : (region : ℕ) (d : Fixed) → region < length scalars → pos 0 ≤ℤ fixed_bits (slice_index_or scalars region d)
  pub high : (region : ℕ) (d : Fixed) → region < length scalars
      → fixed_bits (slice_index_or scalars region d) ≤ℤ pos 65536

-- ---- exact values: what the same algorithm gives in fractions, with no rounding

pub record Fraction : Type 0 where
  pub numerator : ℤ
  pub denominator : ℕ

abbrev pub whole : ℤ → Fraction
whole number = record { numerator = number; denominator = 1 }

-- the distance to the coordinate over the distance to the peak
abbrev pub part_of : ℤ → ℤ → Fraction
part_of part way = record { numerator = part; denominator = unsigned_abs way }

abbrev pub times : Fraction → Fraction → Fraction
times x y = record { numerator = x.numerator *ℤ y.numerator; denominator = x.denominator * y.denominator }

abbrev pub plus : Fraction → Fraction → Fraction
plus x y = record {
  numerator = (x.numerator *ℤ pos y.denominator) +ℤ (y.numerator *ℤ pos x.denominator);
  denominator = x.denominator * y.denominator;
}

-- a raw value of 16.16 differs from an exact value by at most so many halves of a unit of 2^-16:
-- |raw / 65536 - exact| <= halves / (2 * 65536), with both sides multiplied by 2 * 65536 * denominator
pub record IsOffBy (halves : ℕ) (raw : ℤ) (exact : Fraction) : Type 0 where
  pub some : 0 < exact.denominator
  pub close : 2 * unsigned_abs (raw *ℤ pos exact.denominator -ℤ exact.numerator *ℤ pos 65536)
      ≤ halves * exact.denominator

-- the scalar of an axis: 1 if the axis is ignored, and at the peak; else 0 if the coordinate is out of range; else the
-- part of the way from the start up to the peak, or from the end down to it
unfoldable pub exact_axis_scalar : ℤ → ℤ → ℤ → ℤ → Fraction
exact_axis_scalar start peak end coordinate =
    if is_ignored_axis start peak end || int_eq coordinate peak then whole (pos 1)
    else (if int_le coordinate start || int_le end coordinate then whole (pos 0)
    else (if int_lt coordinate peak then part_of (coordinate -ℤ start) (peak -ℤ start)
    else part_of (end -ℤ coordinate) (end -ℤ peak)))

-- the product of the scalars along the first n axes
unfoldable pub exact_scalar : List ℕ → List F2Dot14 → ℕ → Fraction
exact_scalar region coordinates zero = whole (pos 1)
exact_scalar region coordinates (suc n) = times (exact_scalar region coordinates n)
    (exact_axis_scalar (stored_bits region (6 * n)) (stored_bits region (6 * n + 2)) (stored_bits region (6 * n + 4))
    (coordinate_bits coordinates n))

-- a scalar of n axes differs from their exact product by at most half a unit for each axis
abbrev pub IsNearScalar : List ℕ → List F2Dot14 → ℕ → ℤ → Type 0
IsNearScalar region coordinates n scalar = IsOffBy n scalar (exact_scalar region coordinates n)

-- the scalar of a region of a list
abbrev pub exact_region_scalar : List ℕ → ℕ → List F2Dot14 → Fraction
exact_region_scalar regions region coordinates =
    exact_scalar (region_bytes regions region) coordinates (axis_count regions)

abbrev pub IsNearRegionScalar : List ℕ → ℕ → List F2Dot14 → ℤ → Type 0
IsNearRegionScalar regions region coordinates scalar =
    IsNearScalar (region_bytes regions region) coordinates (axis_count regions) scalar

-- ---- delta sets ("Item Variation Data": itemCount, wordDeltaCount, regionIndexCount, regionIndexes, and deltaSets)

abbrev pub item_count : List ℕ → ℕ
item_count subtable = numeral (take 2 subtable)

-- the count of wide columns, with the flag LONG_WORDS, 0x8000
abbrev pub word_delta_count : List ℕ → ℕ
word_delta_count subtable = numeral (take 2 (drop 2 subtable))

abbrev pub region_index_count : List ℕ → ℕ
region_index_count subtable = numeral (take 2 (drop 4 subtable))

-- the region of a column
abbrev pub region_index : List ℕ → ℕ → ℕ
region_index subtable column = numeral (take 2 (drop (6 + 2 * column) subtable))

-- the bytes of a narrow delta: two with LONG_WORDS, else one
abbrev pub narrow_width : ℕ → ℕ
narrow_width words = if nat_le 0x8000 words then 2 else 1

-- the bytes of a delta: the first columns, as many as WORD_DELTA_COUNT_MASK, 0x7FFF, leaves, are twice as wide
abbrev pub delta_width : ℕ → ℕ → ℕ
delta_width words column = if nat_lt column (words % 0x8000) then 2 * narrow_width words else narrow_width words

-- where a delta is stored: after the indices of the regions, the sets before its own, and the columns before it
abbrev pub delta_place : ℕ → ℕ → ℕ → ℕ → ℕ
delta_place words count set column = 6 + 2 * count
    + narrow_width words * (set * (count + words % 0x8000) + column + min column (words % 0x8000))

abbrev pub column_width : List ℕ → ℕ → ℕ
column_width subtable column = delta_width (word_delta_count subtable) column

abbrev pub delta_offset : List ℕ → ℕ → ℕ → ℕ
delta_offset subtable set column = delta_place (word_delta_count subtable) (region_index_count subtable) set column

-- where the delta of a column is in the row of a set
abbrev pub column_place : ℕ → ℕ → ℕ
column_place words column = narrow_width words * (column + min column (words % 0x8000))

-- the bytes from the first delta of a set on
abbrev pub row_bytes : List ℕ → ℕ → List ℕ
row_bytes subtable set = drop (delta_offset subtable set 0) subtable

-- the set is in the subtable, which has at most as many wide columns as columns, and does not end before the set begins
pub record HasRow (subtable : List ℕ) (set : ℕ) : Type 0 where
  pub header : 6 ≤ length subtable
  pub wide : word_delta_count subtable % 0x8000 ≤ region_index_count subtable
  pub is_set : set < item_count subtable
  pub bytes : delta_offset subtable set 0 ≤ length subtable

-- the set and the column are in the subtable, which has at most as many wide columns as columns, and it does not end
-- before the delta does
pub record HasDelta (subtable : List ℕ) (set column : ℕ) : Type 0 where
  pub wide : word_delta_count subtable % 0x8000 ≤ region_index_count subtable
  pub is_set : set < item_count subtable
  pub is_column : column < region_index_count subtable
  pub bytes : delta_offset subtable set column + column_width subtable column ≤ length subtable

-- the delta of a column in a set
abbrev pub delta_of : List ℕ → ℕ → ℕ → ℤ
delta_of subtable set column = signed_numeral (column_width subtable column)
    (take (column_width subtable column) (drop (delta_offset subtable set column) subtable))

-- ---- the sum of a set ("the interpolated delta": each delta times the scalar of its region)

-- a column's delta is there, and the region of it
pub record HasTerm (regions subtable : List ℕ) (set column : ℕ) : Type 0 where
  pub delta : HasDelta subtable set column
  pub region : HasRegion regions (region_index subtable column)

-- the scalar of a column's region, and its delta
pub record IsTerm (regions subtable : List ℕ) (coordinates : List F2Dot14) (set column : ℕ) (term : Fixed × ℤ)
    : Type 0 where
  pub scalar : IsRegionScalar regions (region_index subtable column) coordinates (fixed_bits term.0)
  pub delta : term.1 ≡ delta_of subtable set column

-- the exact product of both
pub record IsTermProduct (regions subtable : List ℕ) (coordinates : List F2Dot14) (set column : ℕ) (product : ℤ)
    : Type 0 where
  pub term : Fixed × ℤ
  pub is_term : IsTerm regions subtable coordinates set column term
  pub value : product ≡ (fixed_bits term.0 *ℤ term.1)

-- the exact sum of the products of the first n columns
unfoldable pub IsSumThrough : List ℕ → List ℕ → List F2Dot14 → ℕ → ℕ → ℤ → Type 0
IsSumThrough regions subtable coordinates set zero sum = sum ≡ pos 0
IsSumThrough regions subtable coordinates set (suc n) sum = (before product : ℤ)
    × IsSumThrough regions subtable coordinates set n before × IsTermProduct regions subtable coordinates set n product
    × (sum ≡ (before +ℤ product))

-- the exact sum of all columns
abbrev pub IsSetSum : List ℕ → List ℕ → List F2Dot14 → ℕ → ℤ → Type 0
IsSetSum regions subtable coordinates set sum =
    IsSumThrough regions subtable coordinates set (region_index_count subtable) sum

-- ---- the exact values of a set's sum and of an advance

-- the sum of the first n deltas, each times the exact scalar of its region
unfoldable pub exact_delta : List ℕ → List ℕ → List F2Dot14 → ℕ → ℕ → Fraction
exact_delta regions subtable coordinates set zero = whole (pos 0)
exact_delta regions subtable coordinates set (suc n) = plus (exact_delta regions subtable coordinates set n)
    (times (exact_region_scalar regions (region_index subtable n) coordinates) (whole (delta_of subtable set n)))

-- the sum of the magnitudes of the first n deltas
unfoldable pub sum_of_magnitudes : List ℕ → ℕ → ℕ → ℕ
sum_of_magnitudes subtable set zero = 0
sum_of_magnitudes subtable set (suc n) = sum_of_magnitudes subtable set n + unsigned_abs (delta_of subtable set n)

-- the bound of a set's sum, in halves of a unit: that of a scalar times the magnitude of each delta
abbrev pub sum_halves : List ℕ → List ℕ → ℕ → ℕ → ℕ
sum_halves regions subtable set n = axis_count regions * sum_of_magnitudes subtable set n

abbrev pub IsNearSetSum : List ℕ → List ℕ → List F2Dot14 → ℕ → ℤ → Type 0
IsNearSetSum regions subtable coordinates set sum =
    IsOffBy (sum_halves regions subtable set (region_index_count subtable)) sum
    (exact_delta regions subtable coordinates set (region_index_count subtable))

-- an advance plus the exact delta of a set
abbrev pub exact_advance : List ℕ → List ℕ → List F2Dot14 → ℕ → ℕ → Fraction
exact_advance regions subtable coordinates set advance =
    plus (whole (pos advance)) (exact_delta regions subtable coordinates set (region_index_count subtable))

-- a varied advance differs from the exact one by at most half a font unit and the bound of the set's sum:
-- |varied - exact| <= 1/2 + axes/2 * (sum of |delta|) / 65536
abbrev pub IsNearAdvance : List ℕ → List ℕ → List F2Dot14 → ℕ → ℕ → ℤ → Type 0
IsNearAdvance regions subtable coordinates set advance varied =
    IsOffBy (65536 + sum_halves regions subtable set (region_index_count subtable)) (varied *ℤ pos 65536)
    (exact_advance regions subtable coordinates set advance)

-- the set is in the subtable, and so is each of its columns, with a region
pub record HasSet (regions subtable : List ℕ) (set : ℕ) : Type 0 where
  pub header : 6 ≤ length subtable
  pub is_set : set < item_count subtable
  pub columns : (column : ℕ) → column < region_index_count subtable → HasTerm regions subtable set column

-- an advance plus a sum, rounded half up
abbrev pub moved : ℕ → ℤ → ℤ
moved advance sum = nearest_unit (pos advance *ℤ pos 65536 +ℤ sum)

-- it is an advance (UFWORD)
abbrev pub IsAdvance : ℤ → Type 0
IsAdvance number = (pos 0 ≤ℤ number) × (number <ℤ pos 65536)

-- the advance moved by the sum of a set
abbrev pub IsVaried : List ℕ → List ℕ → List F2Dot14 → ℕ → ℕ → ℤ → Type 0
IsVaried regions subtable coordinates set advance varied =
    (sum : ℤ) × IsSetSum regions subtable coordinates set sum × (varied ≡ moved advance sum)

-- the subtable does not have the set, or the advance that it moves is out of range
abbrev pub HasNoVaried : List ℕ → List ℕ → List F2Dot14 → ℕ → ℕ → Type 0
HasNoVaried regions subtable coordinates set advance = (¬ HasSet regions subtable set)
    ⊎ ((varied : ℤ) × IsVaried regions subtable coordinates set advance varied × (¬ IsAdvance varied))

-- ---- maps ("DeltaSetIndexMap": format, entryFormat, mapCount of two bytes in format 0 and four in format 1, mapData)

abbrev pub map_format : List ℕ → ℕ
map_format map = numeral (take 1 map)

abbrev pub entry_format : List ℕ → ℕ
entry_format map = numeral (take 1 (drop 1 map))

abbrev pub map_count : List ℕ → ℕ
map_count map = if nat_eq (map_format map) 0 then numeral (take 2 (drop 2 map)) else numeral (take 4 (drop 2 map))

abbrev pub map_start : List ℕ → ℕ
map_start map = if nat_eq (map_format map) 0 then 4 else 6

-- bits 4 and 5 of the entry format (MAP_ENTRY_SIZE_MASK) are one less than the bytes of an entry
abbrev pub entry_width : List ℕ → ℕ
entry_width map = entry_format map / 16 % 4 + 1

-- its low four bits (INNER_INDEX_BIT_COUNT_MASK) are one less than the bits of the inner index
abbrev pub inner_bits : List ℕ → ℕ
inner_bits map = entry_format map % 16 + 1

-- where the entry of an index is: the last entry is that of all indices from there on
abbrev pub entry_offset : List ℕ → ℕ → ℕ
entry_offset map index = map_start map + entry_width map * min index (map_count map - 1)

-- the map is of a known format and not empty, and does not end before the entry does
pub record HasEntry (map : List ℕ) (index : ℕ) : Type 0 where
  pub format : map_format map ≤ 1
  pub some : 0 < map_count map
  pub bytes : entry_offset map index + entry_width map ≤ length map

abbrev pub entry_of : List ℕ → ℕ → ℕ
entry_of map index = numeral (take (entry_width map) (drop (entry_offset map index) map))

-- both indices are 0xFFFF: the item has no variation data (OpenType, "Item Variation Store": the outer and inner index
-- 0xFFFF/0xFFFF)
abbrev pub IsNoVariation : ℕ → ℕ → Type 0
IsNoVariation outer inner = (outer ≡ 0xFFFF) × (inner ≡ 0xFFFF)
