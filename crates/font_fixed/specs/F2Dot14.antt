-- @generated from crates/font_fixed/specs/Fixed.antt by tools/erase
-- 2.14 fixed-point numbers (OpenType, data types: F2DOT14, "16-bit signed fixed number with the
-- low 14 bits of fraction (2.14)").
use Rattle.std.specs.Prelude.{ℕ, ℤ, List, pos, neg_ℤ, ◌^◌}
use Rattle.font_decimal.specs.Shortest.{shortest_text}
use Rattle.font_fixed.specs.declared.fixed_i16.FixedI16.{FixedI16}

-- an `F2Dot14`
abbrev pub F2Dot14 : Type 0
F2Dot14 = FixedI16 14

-- the raw value of an `F2Dot14`, its value times 2^14
abbrev pub f2dot14_bits : F2Dot14 → ℤ
f2dot14_bits x = x.0

-- the `F2Dot14` with this raw value
abbrev pub f2dot14_of : ℤ → F2Dot14
f2dot14_of bits = record { 0 = bits }

-- the printed text of an `F2Dot14`: its shortest decimal
abbrev pub f2dot14_text : F2Dot14 → List ℕ
f2dot14_text x = shortest_text (f2dot14_bits x) 14

-- constants that clauses name after `ghost use` of this module: `F2Dot14.ONE`
abbrev pub ZERO : F2Dot14
ZERO = f2dot14_of (pos 0)

abbrev pub ONE : F2Dot14
ONE = f2dot14_of (pos (2 ^ 14))

abbrev pub NEG_ONE : F2Dot14
NEG_ONE = f2dot14_of (neg_ℤ (pos (2 ^ 14)))
