-- @generated from crates/font_fixed/specs/Fixed.antt by tools/erase
-- 26.6 fixed-point numbers: the unit of scaled outlines, and not stored in any table.
use Rattle.std.specs.Prelude.{ℕ, ℤ, List, pos, neg_ℤ, ◌^◌}
use Rattle.font_decimal.specs.Shortest.{shortest_text}
use Rattle.font_fixed.specs.declared.fixed_i32.FixedI32.{FixedI32}

-- an `F26Dot6`
abbrev pub F26Dot6 : Type 0
F26Dot6 = FixedI32 6

-- the raw value of an `F26Dot6`, its value times 2^6
abbrev pub f26dot6_bits : F26Dot6 → ℤ
f26dot6_bits x = x.0

-- the `F26Dot6` with this raw value
abbrev pub f26dot6_of : ℤ → F26Dot6
f26dot6_of bits = record { 0 = bits }

-- the printed text of an `F26Dot6`: its shortest decimal
abbrev pub f26dot6_text : F26Dot6 → List ℕ
f26dot6_text x = shortest_text (f26dot6_bits x) 6

-- constants that clauses name after `ghost use` of this module: `F26Dot6.ONE`
abbrev pub ZERO : F26Dot6
ZERO = f26dot6_of (pos 0)

abbrev pub ONE : F26Dot6
ONE = f26dot6_of (pos (2 ^ 6))

abbrev pub NEG_ONE : F26Dot6
NEG_ONE = f26dot6_of (neg_ℤ (pos (2 ^ 6)))
