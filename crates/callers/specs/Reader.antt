-- The tables `VORG`, `hhea` and `fvar`.
-- (OpenType, VORG: "defaultVertOriginY" and "numVertOriginYMetrics" after two numbers of the version)
use Rattle.std.specs.Prelude.{◌≡◌, ◌⊎◌, ℕ, ◌<◌, ◌≤◌, ◌+◌, ◌-◌, ◌%◌, ◌^◌, List, ◌++◌, take, drop}
use Rattle.font_types.specs.{BigEndian.raw_value, Bytes.numeral, Bytes.bytes_of, FWord.fword_number}
use Rattle.font_types.specs.{Fixed.fixed_bits, Tag.tag_bytes}
use Rattle.callers.specs.declared.reader.{Origins.Origins, LineMetrics.LineMetrics, AxisRange.AxisRange}

-- the bytes of each field
pub record AreOrigins (bytes : List ℕ) (header : Origins) : Type 0 where
  pub default : raw_value header.default ≡ take 2 (drop 4 bytes)
  pub count : raw_value header.count ≡ take 2 (drop 6 bytes)

-- the bytes of the fields, in order (OpenType, hhea: ascender, descender and lineGap)
abbrev pub metrics_bytes : LineMetrics → List ℕ
metrics_bytes metrics = bytes_of 2 (fword_number metrics.ascender) ++ bytes_of 2 (fword_number metrics.descender)
    ++ bytes_of 2 (fword_number metrics.gap)

-- the bytes of the fields, in order (OpenType, fvar: axisTag, minValue, defaultValue and maxValue)
abbrev pub range_bytes : AxisRange → List ℕ
range_bytes axis = tag_bytes axis.tag ++ bytes_of 4 (fixed_bits axis.min) ++ bytes_of 4 (fixed_bits axis.default)
    ++ bytes_of 4 (fixed_bits axis.max)

-- the first and the last character of a group (OpenType, cmap: startCharCode and endCharCode)
abbrev pub first_character : List ℕ → ℕ
first_character group = numeral (take 4 group)

abbrev pub last_character : List ℕ → ℕ
last_character group = numeral (take 4 (drop 4 group))

-- the glyph of the first character of a group (OpenType, cmap: startGlyphID)
abbrev pub first_glyph : List ℕ → ℕ
first_glyph group = numeral (drop 8 group)

-- neither the first nor the last character is above that of a later group
pub record AreInOrder (group_at : ℕ → List ℕ) (n : ℕ) : Type 0 where
  pub first : (i j : ℕ) → i ≤ j → j < n → first_character (group_at i) ≤ first_character (group_at j)
  pub last : (i j : ℕ) → i ≤ j → j < n → last_character (group_at i) ≤ last_character (group_at j)

-- the character is before the first or after the last of a group
abbrev pub IsOutside : List ℕ → ℕ → Type 0
IsOutside group character = (character < first_character group) ⊎ (last_character group < character)

-- one of the groups has the character, and gives it this glyph (OpenType, cmap, format 12)
pub record IsMapped (group_at : ℕ → List ℕ) (n character glyph : ℕ) : Type 0 where
  pub index : ℕ
  pub within : index < n
  pub first : first_character (group_at index) ≤ character
  pub last : character ≤ last_character (group_at index)
  pub value : glyph ≡ (first_glyph (group_at index) + (character - first_character (group_at index))) % 2 ^ 32
