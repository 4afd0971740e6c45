-- @generated from crates/font_fixed/specs/Fixed.antt by tools/erase
-- 48.16 fixed-point numbers: wide enough for sums of deltas, and not stored in any table.
use Rattle.std.specs.Prelude.{ℕ, ℤ, List, pos, neg_ℤ, ◌^◌}
use Rattle.font_decimal.specs.Shortest.{shortest_text}
use Rattle.font_fixed.specs.declared.fixed_i64.FixedI64.{FixedI64}

-- an `F48Dot16`
abbrev pub F48Dot16 : Type 0
F48Dot16 = FixedI64 16

-- the raw value of an `F48Dot16`, its value times 2^16
abbrev pub f48dot16_bits : F48Dot16 → ℤ
f48dot16_bits x = x.0

-- the `F48Dot16` with this raw value
abbrev pub f48dot16_of : ℤ → F48Dot16
f48dot16_of bits = record { 0 = bits }

-- the printed text of an `F48Dot16`: its shortest decimal
abbrev pub f48dot16_text : F48Dot16 → List ℕ
f48dot16_text x = shortest_text (f48dot16_bits x) 16

-- constants that clauses name after `ghost use` of this module: `F48Dot16.ONE`
abbrev pub ZERO : F48Dot16
ZERO = f48dot16_of (pos 0)

abbrev pub ONE : F48Dot16
ONE = f48dot16_of (pos (2 ^ 16))

abbrev pub NEG_ONE : F48Dot16
NEG_ONE = f48dot16_of (neg_ℤ (pos (2 ^ 16)))
