-- Glyph ids (OpenType: the glyphs of a font are numbered from 0; ids are stored as uint16 or uint24).
use Rattle.std.specs.{Prelude.ℕ, Prelude.List, Prelude.◌++◌, Prelude.codes, Fmt.decimal}
use Rattle.font_base.specs.{declared.uint24.Uint24.Uint24, Uint24.uint24_number}
use Rattle.font_ids.specs.{declared.glyph_id.GlyphId16.GlyphId16, declared.glyph_id.GlyphId24.GlyphId24}
use Rattle.font_ids.specs.{declared.glyph_id.GlyphId.GlyphId, declared.glyph_id.TryFromGlyphIdError.TryFromGlyphIdError}

-- the number of a 16-bit glyph id, and the glyph id with this number
abbrev pub glyph16_number : GlyphId16 → ℕ
glyph16_number id = id.0

abbrev pub glyph16_of : ℕ → GlyphId16
glyph16_of number = record { 0 = number }

-- the number of a 24-bit glyph id, and the glyph id with this number
abbrev pub glyph24_number : GlyphId24 → ℕ
glyph24_number id = uint24_number id.0

abbrev pub glyph24_of : Uint24 → GlyphId24
glyph24_of number = record { 0 = number }

-- the number of a 32-bit glyph id
abbrev pub glyph_number : GlyphId → ℕ
glyph_number id = id.0

-- the number that was too large
abbrev pub refused_number : TryFromGlyphIdError → ℕ
refused_number error = error.0

-- the text of a glyph id: `GID_` and its number
abbrev pub glyph_text : ℕ → List ℕ
glyph_text number = codes "GID_" ++ decimal number
