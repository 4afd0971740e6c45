-- Quantities in font design units.
use Rattle.std.specs.Prelude.{ℕ, ℤ}
use Rattle.font_decimal.specs.Near.{up}
use Rattle.font_ids.specs.{declared.fword.FWord.FWord, declared.fword.UfWord.UfWord}

-- the value of an `FWord` (OpenType, data types: FWORD, "int16 that describes a quantity in font design units"),
-- and the `FWord` with this value
abbrev pub fword_number : FWord → ℤ
fword_number word = word.0

abbrev pub fword_of : ℤ → FWord
fword_of number = record { 0 = number }

-- the same for `UfWord` (OpenType, data types: UFWORD, "uint16 that describes a quantity in font design units")
abbrev pub ufword_number : UfWord → ℕ
ufword_number word = word.0

abbrev pub ufword_of : ℕ → UfWord
ufword_of number = record { 0 = number }

-- a 16.16 raw value rounded half up to an integer
abbrev pub nearest_unit : ℤ → ℤ
nearest_unit steps = up steps 65536
