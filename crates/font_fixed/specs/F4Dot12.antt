-- @generated from crates/font_fixed/specs/Fixed.antt by tools/erase
-- 4.12 fixed-point numbers, as variable composites store angles.
use Rattle.std.specs.Prelude.{ℕ, ℤ, List, pos, neg_ℤ, ◌^◌}
use Rattle.font_decimal.specs.Shortest.{shortest_text}
use Rattle.font_fixed.specs.declared.fixed_i16.FixedI16.{FixedI16}

-- an `F4Dot12`
abbrev pub F4Dot12 : Type 0
F4Dot12 = FixedI16 12

-- the raw value of an `F4Dot12`, its value times 2^12
abbrev pub f4dot12_bits : F4Dot12 → ℤ
f4dot12_bits x = x.0

-- the `F4Dot12` with this raw value
abbrev pub f4dot12_of : ℤ → F4Dot12
f4dot12_of bits = record { 0 = bits }

-- the printed text of an `F4Dot12`: its shortest decimal
abbrev pub f4dot12_text : F4Dot12 → List ℕ
f4dot12_text x = shortest_text (f4dot12_bits x) 12

-- constants that clauses name after `ghost use` of this module: `F4Dot12.ONE`
abbrev pub ZERO : F4Dot12
ZERO = f4dot12_of (pos 0)

abbrev pub ONE : F4Dot12
ONE = f4dot12_of (pos (2 ^ 12))

abbrev pub NEG_ONE : F4Dot12
NEG_ONE = f4dot12_of (neg_ℤ (pos (2 ^ 12)))
