-- 16.16 fixed-point numbers (OpenType, data types: Fixed, "32-bit signed fixed-point number (16.16)").
use Rattle.std.specs.Prelude.{ℕ, ℤ, List, pos, neg_ℤ, ◌^◌}
use Rattle.font_decimal.specs.Shortest.{shortest_text}
use Rattle.font_fixed.specs.declared.fixed_i32.FixedI32.{FixedI32}

-- a `Fixed`
abbrev pub Fixed : Type 0
Fixed = FixedI32 16

-- the raw value of a `Fixed`, its value times 2^16
abbrev pub fixed_bits : Fixed → ℤ
fixed_bits x = x.0

-- the `Fixed` with this raw value
abbrev pub fixed_of : ℤ → Fixed
fixed_of bits = record { 0 = bits }

-- the printed text of a `Fixed`: its shortest decimal
abbrev pub fixed_text : Fixed → List ℕ
fixed_text x = shortest_text (fixed_bits x) 16

-- constants that clauses name after `ghost use` of this module: `Fixed.ONE`
abbrev pub ZERO : Fixed
ZERO = fixed_of (pos 0)

abbrev pub ONE : Fixed
ONE = fixed_of (pos (2 ^ 16))

abbrev pub NEG_ONE : Fixed
NEG_ONE = fixed_of (neg_ℤ (pos (2 ^ 16)))
