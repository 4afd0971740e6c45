-- @generated from crates/font_fixed/specs/Fixed.antt by tools/erase
-- 2.30 fixed-point numbers. No table of OpenType stores them.
use Rattle.std.specs.Prelude.{ℕ, ℤ, List, pos, neg_ℤ, ◌^◌}
use Rattle.font_decimal.specs.Shortest.{shortest_text}
use Rattle.font_fixed.specs.declared.fixed_i32.FixedI32.{FixedI32}

-- an `F2Dot30`
abbrev pub F2Dot30 : Type 0
F2Dot30 = FixedI32 30

-- the raw value of an `F2Dot30`, its value times 2^30
abbrev pub f2dot30_bits : F2Dot30 → ℤ
f2dot30_bits x = x.0

-- the `F2Dot30` with this raw value
abbrev pub f2dot30_of : ℤ → F2Dot30
f2dot30_of bits = record { 0 = bits }

-- the printed text of an `F2Dot30`: its shortest decimal
abbrev pub f2dot30_text : F2Dot30 → List ℕ
f2dot30_text x = shortest_text (f2dot30_bits x) 30

-- constants that clauses name after `ghost use` of this module: `F2Dot30.ONE`
abbrev pub ZERO : F2Dot30
ZERO = f2dot30_of (pos 0)

abbrev pub ONE : F2Dot30
ONE = f2dot30_of (pos (2 ^ 30))

abbrev pub NEG_ONE : F2Dot30
NEG_ONE = f2dot30_of (neg_ℤ (pos (2 ^ 30)))
