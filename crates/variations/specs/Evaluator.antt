-- Coordinates of an instance: settings, and the tables `fvar` and `avar`.
use Rattle.std.specs.Prelude.{◌≡◌, ◌≢◌, ◌⊎◌, ℕ, ◌-◌, ◌<◌, ℤ, pos, neg_ℤ, ◌+ℤ◌, ◌-ℤ◌, ◌≤ℤ◌, ◌<ℤ◌, ◌==◌, List, length}
use Rattle.std.specs.Prelude.{take, drop, Result, Ok, Err, zero, suc, ◌+◌, ◌*◌, ◌/◌, ◌≤◌, ◌*ℤ◌, slice_index_or, []}
use Rattle.std.specs.Prelude.{Option, Some, None, IfSome, All}
use Rattle.std.specs.{Int.w32, List.position_or_len, List.before_first, List.after_first, List.AllWithin, List.HoldsAt}
use Rattle.font_types.specs.Operations.{IsMulDiv, IsNarrowed, IsQuotient, rounded_mul_div}
use Rattle.font_types.specs.Fixed.{fixed_bits, fixed_of, Fixed, ONE, NEG_ONE}
use Rattle.font_types.specs.{Bytes.numeral, Bytes.signed_numeral, Wrap.wrap, Wrap.FitsBits, NumberReading.ParsesFixedPoint}
use Rattle.font_types.specs.{F2Dot14.f2dot14_bits, F2Dot14.F2Dot14, Tag.IsChecked, Tag.IsAcceptable, Tag.tag_bytes}
use Rattle.font_types.specs.{NameId.name_number, declared.Tag.Tag}
use Rattle.variations.specs.declared.evaluator.SettingError.TheVariants.{NoValue, Axis, Value}
use Rattle.variations.specs.declared.evaluator.CoordinatesError.TheVariants.{Places, NoRecord, NoMap, NoRange, NoAxis}
use Rattle.variations.specs.declared.evaluator.CoordinatesError.{CoordinatesError}
use Rattle.variations.specs.declared.evaluator.VariationAxisRecord.{VariationAxisRecord}
use Rattle.variations.specs.{Variations.stored_bits, declared.evaluator.Setting.Setting}
use Rattle.variations.specs.{declared.evaluator.SettingError.SettingError, declared.evaluator.AxisValueMap.AxisValueMap}

-- ---- settings (CSS, font-variation-settings: a tag and a number)

-- where the first `=` is, or the length of a text without one
abbrev pub value_start : List ℕ → ℕ
value_start text = position_or_len (λ byte. byte == 0x3D) text

abbrev pub axis_part : List ℕ → List ℕ
axis_part text = before_first (λ byte. byte == 0x3D) text

abbrev pub value_part : List ℕ → List ℕ
value_part text = after_first (λ byte. byte == 0x3D) text

-- the text has a `=`, and these are the parts before and after the first one
abbrev pub AreParts : List ℕ → List ℕ → List ℕ → Type 0
AreParts text axis value = (value_start text < length text) × (axis ≡ axis_part text) × (value ≡ value_part text)

-- the tag and the number that the parts are read as
pub record IsSetting (text : List ℕ) (setting : Setting) : Type 0 where
  pub divided : value_start text < length text
  pub axis : IsChecked (axis_part text) (Ok setting.axis)
  pub value : ParsesFixedPoint w32 16 fixed_bits (value_part text) (Ok setting.value)

-- the setting, or the error of the first part that cannot be read
abbrev pub ParsesSetting : List ℕ → Result Setting SettingError → Type 0
ParsesSetting text (Ok setting) = IsSetting text setting
ParsesSetting text (Err NoValue) = value_start text ≡ length text
ParsesSetting text (Err (Axis fault)) = (value_start text < length text) × IsChecked (axis_part text) (Err fault)
ParsesSetting text (Err (Value fault)) = (value_start text < length text) × IsAcceptable (axis_part text)
    × ParsesFixedPoint w32 16 fixed_bits (value_part text) (Err fault)

-- ---- axes (OpenType, fvar: majorVersion at 0, axesArrayOffset at 4, axisCount at 8, axisSize at 10, a header of 16
-- bytes, and "VariationAxisRecord", of 20)

abbrev pub fvar_version : List ℕ → ℕ
fvar_version fvar = numeral (take 2 fvar)

abbrev pub fvar_axis_count : List ℕ → ℕ
fvar_axis_count fvar = numeral (take 2 (drop 8 fvar))

abbrev pub fvar_axis_size : List ℕ → ℕ
fvar_axis_size fvar = numeral (take 2 (drop 10 fvar))

-- a table of major version 1, with the whole header, and records that are long enough
pub record IsFvar (fvar : List ℕ) : Type 0 where
  pub version : fvar_version fvar ≡ 1
  pub header : 16 ≤ length fvar
  pub size : 20 ≤ fvar_axis_size fvar

-- where the record of an axis is
abbrev pub axis_offset : List ℕ → ℕ → ℕ
axis_offset fvar axis = numeral (take 2 (drop 4 fvar)) + fvar_axis_size fvar * axis

-- the table has the axis, and does not end before its record does
pub record HasAxis (fvar : List ℕ) (axis : ℕ) : Type 0 where
  pub within : axis < fvar_axis_count fvar
  pub bytes : axis_offset fvar axis + 20 ≤ length fvar

-- the bytes from its record on
abbrev pub axis_bytes : List ℕ → ℕ → List ℕ
axis_bytes fvar axis = drop (axis_offset fvar axis) fvar

-- its tag, and its least, default and greatest values, raw values of 16.16
abbrev pub axis_tag_bytes : List ℕ → ℕ → List ℕ
axis_tag_bytes fvar axis = take 4 (axis_bytes fvar axis)

abbrev pub axis_min : List ℕ → ℕ → ℤ
axis_min fvar axis = signed_numeral 4 (take 4 (drop 4 (axis_bytes fvar axis)))

abbrev pub axis_default : List ℕ → ℕ → ℤ
axis_default fvar axis = signed_numeral 4 (take 4 (drop 8 (axis_bytes fvar axis)))

abbrev pub axis_max : List ℕ → ℕ → ℤ
axis_max fvar axis = signed_numeral 4 (take 4 (drop 12 (axis_bytes fvar axis)))

-- the axis in this record (OpenType, "VariationAxisRecord")
pub record IsAxis (fvar : List ℕ) (index : ℕ) (axis : VariationAxisRecord) : Type 0 where
  pub axis_tag : tag_bytes axis.axis_tag ≡ axis_tag_bytes fvar index
  pub min_value : fixed_bits axis.min_value ≡ axis_min fvar index
  pub default_value : fixed_bits axis.default_value ≡ axis_default fvar index
  pub max_value : fixed_bits axis.max_value ≡ axis_max fvar index
  pub flags : axis.flags ≡ numeral (take 2 (drop 16 (axis_bytes fvar index)))
  pub axis_name_id : name_number axis.axis_name_id ≡ numeral (take 2 (drop 18 (axis_bytes fvar index)))

-- an axis that values can be normalized by: the default is within the range, and 16.16 holds the length of the range
-- (own: OpenType allows a longer range, but then a difference of two values may not be one of 16.16)
pub record HasRange (min default max : ℤ) : Type 0 where
  pub low : min ≤ℤ default
  pub high : default ≤ℤ max
  pub width : FitsBits 32 (max -ℤ min)

-- the value clamped to the axis, and its distance from the default over that of the end on its side, rounded (OpenType,
-- coordinate scales and normalization): 0 at the default, and on a side that has no length
pub record IsNormalized (min default max value coordinate : ℤ) : Type 0 where
  pub at_default : value ≡ default → coordinate ≡ pos 0
  pub above : default <ℤ value → value ≤ℤ max → IsQuotient 32 16 (value -ℤ default) (max -ℤ default) coordinate
  pub below : value <ℤ default → min ≤ℤ value
      → IsQuotient 32 16 (default -ℤ value) (default -ℤ min) (neg_ℤ coordinate)
  pub no_rise : max ≡ default → default ≤ℤ value → coordinate ≡ pos 0
  pub no_fall : min ≡ default → value ≤ℤ default → coordinate ≡ pos 0
  pub at_max : default <ℤ max → max ≤ℤ value → coordinate ≡ fixed_bits ONE
  pub at_min : min <ℤ default → value ≤ℤ min → coordinate ≡ fixed_bits NEG_ONE

-- ---- segment maps (OpenType, avar: linear between two mappings)

-- from the start to the coordinate, from the start to the end, and from the value at the start to that at the end
abbrev pub lerp_part : Fixed → AxisValueMap → ℤ
lerp_part coordinate start = fixed_bits coordinate -ℤ fixed_bits start.from_coordinate

abbrev pub lerp_whole : AxisValueMap → AxisValueMap → ℤ
lerp_whole start end = fixed_bits end.from_coordinate -ℤ fixed_bits start.from_coordinate

abbrev pub lerp_rise : AxisValueMap → AxisValueMap → ℤ
lerp_rise start end = fixed_bits end.to_coordinate -ℤ fixed_bits start.to_coordinate

-- the value at the coordinate on the line through both mappings: the start's coordinate and, of the rise, the share
-- that the part has of the whole, rounded once, half away from zero
abbrev pub on_line : Fixed → AxisValueMap → AxisValueMap → ℤ
on_line coordinate start end = fixed_bits start.to_coordinate
    +ℤ rounded_mul_div (lerp_rise start end) (lerp_part coordinate start) (lerp_whole start end)

-- nothing overflows: the differences fit in 32 bits, and so does the value
pub record FitsLerp (coordinate : Fixed) (start end : AxisValueMap) : Type 0 where
  pub part : FitsBits 32 (lerp_part coordinate start)
  pub whole : FitsBits 32 (lerp_whole start end)
  pub rise : FitsBits 32 (lerp_rise start end)
  pub value : FitsBits 32 (on_line coordinate start end)

-- the value on the line, if nothing overflows; else each difference, the share and the sum wrap to 32 bits
pub record IsLerp (coordinate : Fixed) (start end : AxisValueMap) (result : Fixed) : Type 0 where
  pub exact : FitsLerp coordinate start end → fixed_bits result ≡ on_line coordinate start end
  pub share : ℤ
  pub is_share : IsMulDiv 32 (wrap 32 (lerp_rise start end)) (wrap 32 (lerp_part coordinate start))
      (wrap 32 (lerp_whole start end)) share
  pub is_sum : fixed_bits result ≡ wrap 32 (fixed_bits start.to_coordinate +ℤ share)

-- how many mappings there are: of four bytes each
abbrev pub mapping_count : List ℕ → ℕ
mapping_count map = length map / 4

-- the mapping at k, two coordinates of 2.14, in 16.16
abbrev pub mapping_at : List ℕ → ℕ → AxisValueMap
mapping_at map k = record {
  from_coordinate = fixed_of (stored_bits map (4 * k) *ℤ pos 4);
  to_coordinate = fixed_of (stored_bits map (4 * k + 2) *ℤ pos 4);
}

-- the first n mappings are below the bits
abbrev pub AreBelow : List ℕ → ℕ → ℤ → Type 0
AreBelow map n bits = (k : ℕ) → k < n → fixed_bits (mapping_at map k).from_coordinate <ℤ bits

-- the mapping that ends the segment of the bits: the first at or above them
pub record IsSegmentEnd (bits : ℤ) (map : List ℕ) (end : ℕ) : Type 0 where
  pub within : end < mapping_count map
  pub before : AreBelow map end bits
  pub there : bits ≤ℤ fixed_bits (mapping_at map end).from_coordinate

-- the coordinate by that mapping: at it, what it is mapped to; else linear from the mapping before, or itself if there
-- is none
pub record IsMappedIn (coordinate : Fixed) (map : List ℕ) (end : ℕ) (result : Fixed) : Type 0 where
  pub at : coordinate ≡ (mapping_at map end).from_coordinate → result ≡ (mapping_at map end).to_coordinate
  pub between : coordinate ≢ (mapping_at map end).from_coordinate → 0 < end
      → IsLerp coordinate (mapping_at map (end - 1)) (mapping_at map end) result
  pub outside : coordinate ≢ (mapping_at map end).from_coordinate → end ≡ 0 → result ≡ coordinate

-- the coordinate by the segment that it is in, or itself above all mappings, as of an empty map
abbrev pub IsMapped : Fixed → List ℕ → Fixed → Type 0
IsMapped coordinate map result =
    (AreBelow map (mapping_count map) (fixed_bits coordinate) × (result ≡ coordinate))
    ⊎ ((end : ℕ) × IsSegmentEnd (fixed_bits coordinate) map end × IsMappedIn coordinate map end result)

-- ---- where the segment map of an axis is (OpenType, avar: majorVersion at 0, axisCount at 6, and from 8 on for each
-- axis positionMapCount and as many mappings)

abbrev pub avar_version : List ℕ → ℕ
avar_version avar = numeral (take 2 avar)

-- a table of major version 1, with the whole header
pub record IsAvar (avar : List ℕ) : Type 0 where
  pub version : avar_version avar ≡ 1
  pub header : 8 ≤ length avar

abbrev pub avar_axis_count : List ℕ → ℕ
avar_axis_count avar = numeral (take 2 (drop 6 avar))

-- how many mappings the map at an offset has
abbrev pub position_map_count : List ℕ → ℕ → ℕ
position_map_count avar offset = numeral (take 2 (drop offset avar))

-- where the map of an axis is: after those of the axes before it
unfoldable pub map_offset : List ℕ → ℕ → ℕ
map_offset avar zero = 8
map_offset avar (suc axis) = map_offset avar axis + 2 + 4 * position_map_count avar (map_offset avar axis)

abbrev pub map_length : List ℕ → ℕ → ℕ
map_length avar axis = 4 * position_map_count avar (map_offset avar axis)

-- the table has the axis, and does not end before the map of the axis does
pub record HasSegmentMap (avar : List ℕ) (axis : ℕ) : Type 0 where
  pub within : axis < avar_axis_count avar
  pub bytes : map_offset avar axis + 2 + map_length avar axis ≤ length avar

-- the bytes of its mappings
abbrev pub segment_map_bytes : List ℕ → ℕ → List ℕ
segment_map_bytes avar axis = take (map_length avar axis) (drop (map_offset avar axis + 2) avar)

-- ---- coordinates as they are stored (OpenType, coordinate scales and normalization: converted to 2.14 at the end)

-- the coordinate clamped to -1..1, and then rounded half up to 2.14
pub record IsStoredCoordinate (coordinate : Fixed) (stored : F2Dot14) : Type 0 where
  pub inside : fixed_bits NEG_ONE ≤ℤ fixed_bits coordinate → fixed_bits coordinate ≤ℤ fixed_bits ONE
      → IsNarrowed 16 (fixed_bits coordinate) 4 (f2dot14_bits stored)
  pub below : fixed_bits coordinate ≤ℤ fixed_bits NEG_ONE → f2dot14_bits stored ≡ neg_ℤ (pos 16384)
  pub above : fixed_bits ONE ≤ℤ fixed_bits coordinate → f2dot14_bits stored ≡ pos 16384

-- the coordinate mapped, and only then rounded
abbrev pub IsFinal : Fixed → List ℕ → F2Dot14 → Type 0
IsFinal coordinate map stored = (mapped : Fixed) × IsMapped coordinate map mapped × IsStoredCoordinate mapped stored

-- from -1 to 1, the range of normalized coordinates (OpenType, coordinate scales and normalization), in units of 2^-14
pub record IsWithinOne (stored : F2Dot14) : Type 0 where
  pub low : neg_ℤ (pos 16384) ≤ℤ f2dot14_bits stored
  pub high : f2dot14_bits stored ≤ℤ pos 16384

-- ---- the coordinates of an instance, one for each axis

-- the coordinate of a value on an axis: normalized, mapped and rounded
abbrev pub IsCoordinate : (min default max value : ℤ) → List ℕ → F2Dot14 → Type 0
IsCoordinate min default max value map stored =
    (normalized : Fixed) × IsNormalized min default max value (fixed_bits normalized) × IsFinal normalized map stored

-- of the settings from the k-th to before the n-th, none is of the axis
abbrev pub AreOfOthers : List Setting → List ℕ → ℕ → ℕ → Type 0
AreOfOthers settings tag k n =
    (j : ℕ) (d : Setting) → k ≤ j → j < n → tag_bytes (slice_index_or settings j d).axis ≢ tag

-- of the first n settings, the k-th is the last of the axis, and has the value
pub record IsLastOf (settings : List Setting) (tag : List ℕ) (n k : ℕ) (value : ℤ) : Type 0 where
  pub within : k < n
  pub is_axis : (d : Setting) → tag_bytes (slice_index_or settings k d).axis ≡ tag
  pub is_value : (d : Setting) → fixed_bits (slice_index_or settings k d).value ≡ value
  pub last : AreOfOthers settings tag (k + 1) n

-- the value of an axis by the first n settings: that of the last of the axis, or the default if there is none (CSS,
-- font-variation-settings: the last of one tag counts)
abbrev pub IsSetTo : List Setting → List ℕ → ℤ → ℕ → ℤ → Type 0
IsSetTo settings tag default n value = (AreOfOthers settings tag 0 n × (value ≡ default))
    ⊎ ((k : ℕ) × IsLastOf settings tag n k value)

-- the map of an axis, empty in a font without `avar`
abbrev pub map_of : Option (List ℕ) → ℕ → List ℕ
map_of None axis = []
map_of (Some avar) axis = segment_map_bytes avar axis

-- the map of the axis is there, or the font has no `avar`
abbrev pub HasMap : Option (List ℕ) → ℕ → Type 0
HasMap avar axis = IfSome avar (λ avar. HasSegmentMap avar axis)

-- a value on the axis has a coordinate: the axis and its map are there, and it has a range
pub record HasCoordinate (fvar : List ℕ) (avar : Option (List ℕ)) (axis : ℕ) : Type 0 where
  pub there : HasAxis fvar axis
  pub range : HasRange (axis_min fvar axis) (axis_default fvar axis) (axis_max fvar axis)
  pub map : HasMap avar axis

-- the coordinate of the value that the axis is set to
pub record IsCoordinateOf (fvar : List ℕ) (avar : Option (List ℕ)) (settings : List Setting) (axis : ℕ)
    (stored : F2Dot14) : Type 0 where
  pub value : ℤ
  pub is_value : IsSetTo settings (axis_tag_bytes fvar axis) (axis_default fvar axis) (length settings) value
  pub is_coordinate : IsCoordinate (axis_min fvar axis) (axis_default fvar axis) (axis_max fvar axis) value
      (map_of avar axis) stored

-- each axis has a coordinate
pub record HaveCoordinates (fvar : List ℕ) (avar : Option (List ℕ)) : Type 0 where
  pub each : (axis : ℕ) → axis < fvar_axis_count fvar → HasCoordinate fvar avar axis

-- the first n coordinates, in the order of the axes
abbrev pub AreCoordinates : List ℕ → Option (List ℕ) → List Setting → ℕ → List F2Dot14 → Type 0
AreCoordinates fvar avar settings n coordinates = (axis : ℕ) → axis < n → (d : F2Dot14)
    → IsCoordinateOf fvar avar settings axis (slice_index_or coordinates axis d)

-- ---- why there are no coordinates

-- the first axis without a coordinate
pub record IsFirstWithout (fvar : List ℕ) (avar : Option (List ℕ)) (axis : ℕ) : Type 0 where
  pub within : axis < fvar_axis_count fvar
  pub without : ¬ HasCoordinate fvar avar axis
  pub before : (k : ℕ) → k < axis → HasCoordinate fvar avar k

-- the error of an axis without a coordinate: `NoRecord` with its number, if its record is not there; else with its tag
-- `NoMap`, if its map is not there, and else `NoRange`
abbrev pub IsAxisError : List ℕ → Option (List ℕ) → ℕ → CoordinatesError → Type 0
IsAxisError fvar avar axis Places = ⊥
IsAxisError fvar avar axis (NoRecord index) = (index ≡ axis) × (¬ HasAxis fvar axis)
IsAxisError fvar avar axis (NoMap tag) = HasAxis fvar axis × (tag_bytes tag ≡ axis_tag_bytes fvar axis)
    × (¬ HasMap avar axis)
IsAxisError fvar avar axis (NoRange tag) = HasAxis fvar axis × (tag_bytes tag ≡ axis_tag_bytes fvar axis)
    × HasMap avar axis × (¬ HasRange (axis_min fvar axis) (axis_default fvar axis) (axis_max fvar axis))
IsAxisError fvar avar axis (NoAxis tag) = ⊥

-- `Places`, if the places are more or fewer than the axes; else the error of the first axis without a coordinate
abbrev pub IsAxesError : List ℕ → Option (List ℕ) → ℕ → CoordinatesError → Type 0
IsAxesError fvar avar places error = ((places ≢ fvar_axis_count fvar) × (error ≡ Places))
    ⊎ ((places ≡ fvar_axis_count fvar)
    × ((axis : ℕ) × IsFirstWithout fvar avar axis × IsAxisError fvar avar axis error))

-- an axis has this tag
pub record HasTag (fvar tag : List ℕ) : Type 0 where
  pub axis : ℕ
  pub there : HasAxis fvar axis
  pub is_tag : axis_tag_bytes fvar axis ≡ tag

-- the setting is of one of the axes
abbrev pub IsOfAxis : List ℕ → Setting → Type 0
IsOfAxis fvar setting = HasTag fvar (tag_bytes setting.axis)

-- each setting is of one of the axes
abbrev pub AreOfAxes : List ℕ → List Setting → Type 0
AreOfAxes fvar settings = All (IsOfAxis fvar) settings

-- the first setting of no axis has this tag
pub record IsFirstUnknown (fvar : List ℕ) (settings : List Setting) (tag : Tag) : Type 0 where
  pub place : ℕ
  pub within : place < length settings
  pub before : AllWithin (IsOfAxis fvar) settings 0 place
  pub there : HoldsAt (λ setting. setting.axis ≡ tag) settings place
  pub none : ¬ HasTag fvar (tag_bytes tag)

-- `NoAxis` with the tag of the first setting of no axis
abbrev pub IsSettingError : List ℕ → List Setting → CoordinatesError → Type 0
IsSettingError fvar settings error = (tag : Tag) × IsFirstUnknown fvar settings tag × (error ≡ NoAxis tag)

-- the error of the places or of the first axis without a coordinate; if there is none, that of the first setting of no
-- axis
abbrev pub IsCoordinatesError : List ℕ → Option (List ℕ) → List Setting → ℕ → CoordinatesError → Type 0
IsCoordinatesError fvar avar settings places error = IsAxesError fvar avar places error
    ⊎ ((places ≡ fvar_axis_count fvar) × HaveCoordinates fvar avar × IsSettingError fvar settings error)
