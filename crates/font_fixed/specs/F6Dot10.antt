-- @generated from crates/font_fixed/specs/Fixed.antt by tools/erase
-- 6.10 fixed-point numbers, as variable composites store scales.
use Rattle.std.specs.Prelude.{ℕ, ℤ, List, pos, neg_ℤ, ◌^◌}
use Rattle.font_decimal.specs.Shortest.{shortest_text}
use Rattle.font_fixed.specs.declared.fixed_i16.FixedI16.{FixedI16}

-- an `F6Dot10`
abbrev pub F6Dot10 : Type 0
F6Dot10 = FixedI16 10

-- the raw value of an `F6Dot10`, its value times 2^10
abbrev pub f6dot10_bits : F6Dot10 → ℤ
f6dot10_bits x = x.0

-- the `F6Dot10` with this raw value
abbrev pub f6dot10_of : ℤ → F6Dot10
f6dot10_of bits = record { 0 = bits }

-- the printed text of an `F6Dot10`: its shortest decimal
abbrev pub f6dot10_text : F6Dot10 → List ℕ
f6dot10_text x = shortest_text (f6dot10_bits x) 10

-- constants that clauses name after `ghost use` of this module: `F6Dot10.ONE`
abbrev pub ZERO : F6Dot10
ZERO = f6dot10_of (pos 0)

abbrev pub ONE : F6Dot10
ONE = f6dot10_of (pos (2 ^ 10))

abbrev pub NEG_ONE : F6Dot10
NEG_ONE = f6dot10_of (neg_ℤ (pos (2 ^ 10)))
