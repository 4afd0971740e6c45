-- @generated from crates/font_fixed/specs/FixedI32.antt by tools/erase
-- 16-bit fixed-point numbers with F fraction bits.
use Rattle.std.specs.Prelude.{ℕ, ℤ, List}
use Rattle.font_decimal.specs.Shortest.{shortest_text}
use Rattle.font_fixed.specs.declared.fixed_i16.FixedI16.{FixedI16}

-- the raw value, the value times 2^F
abbrev pub bits_of : {F : ℕ} → FixedI16 F → ℤ
bits_of x = x.0

-- the number with this raw value
abbrev pub of_bits : {F : ℕ} → ℤ → FixedI16 F
of_bits bits = record { 0 = bits }

-- the printed text: the shortest decimal
abbrev pub text_of : {F : ℕ} → FixedI16 F → List ℕ
text_of {F} x = shortest_text (bits_of x) F
