-- @generated from crates/font_fixed/specs/FixedI32.antt by tools/erase
-- 64-bit fixed-point numbers with F fraction bits.
use Rattle.std.specs.Prelude.{ℕ, ℤ, List}
use Rattle.font_decimal.specs.Shortest.{shortest_text}
use Rattle.font_fixed.specs.declared.fixed_i64.FixedI64.{FixedI64}

-- the raw value, the value times 2^F
abbrev pub bits_of : {F : ℕ} → FixedI64 F → ℤ
bits_of x = x.0

-- the number with this raw value
abbrev pub of_bits : {F : ℕ} → ℤ → FixedI64 F
of_bits bits = record { 0 = bits }

-- the printed text: the shortest decimal
abbrev pub text_of : {F : ℕ} → FixedI64 F → List ℕ
text_of {F} x = shortest_text (bits_of x) F
