-- Advances with kerning.
use Rattle.std.specs.Prelude.{ℤ, ◌+ℤ◌, ℕ, List, slice_index_or}
use Rattle.font_types.specs.Fixed.{Fixed, fixed_bits, ZERO}

-- the width of the glyph at an index, and of the kerning after it (OpenType, kern: it is added to the advance)
abbrev pub kerned_at : List Fixed → List Fixed → ℕ → ℤ
kerned_at advances kerning index = fixed_bits (slice_index_or advances index ZERO)
    +ℤ fixed_bits (slice_index_or kerning index ZERO)
