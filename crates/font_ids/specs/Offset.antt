-- Offsets to tables (OpenType, data types: Offset16, Offset24 and Offset32 are offsets to a table, same as uint16,
-- uint24 and uint32, and zero is the NULL offset).
use Rattle.std.specs.Prelude.{ℕ}
use Rattle.font_base.specs.{declared.uint24.Uint24.Uint24, Uint24.uint24_number}
use Rattle.font_ids.specs.{declared.offset.Offset16.Offset16, declared.offset.Offset24.Offset24}
use Rattle.font_ids.specs.{declared.offset.Offset32.Offset32, declared.offset.Nullable.Nullable}

-- the number of an offset, and the offset with this number
abbrev pub offset16_number : Offset16 → ℕ
offset16_number offset = offset.0

abbrev pub offset16_of : ℕ → Offset16
offset16_of number = record { 0 = number }

abbrev pub offset24_number : Offset24 → ℕ
offset24_number offset = uint24_number offset.0

abbrev pub offset24_of : Uint24 → Offset24
offset24_of number = record { 0 = number }

abbrev pub offset32_number : Offset32 → ℕ
offset32_number offset = offset.0

abbrev pub offset32_of : ℕ → Offset32
offset32_of number = record { 0 = number }

-- the offset of a `Nullable`, and the `Nullable` of an offset
abbrev pub nullable_offset : {T : Type 0} → Nullable T → T
nullable_offset nullable = nullable.0

abbrev pub nullable_of : {T : Type 0} → T → Nullable T
nullable_of offset = record { 0 = offset }
