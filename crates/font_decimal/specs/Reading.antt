-- Parsing a decimal as a multiple of 1 / 2^f.
use Rattle.std.specs.Prelude.{◌≡◌, ℕ, ◌*◌, ◌/◌, ◌^◌, ◌⊎◌, List, length, ℤ, pos, ◌*ℤ◌, ◌≤ℤ◌, ◌<ℤ◌, Result, Ok, Err}
use Rattle.std.specs.Str.Parse.{digits_value, AllDigits}
use Rattle.font_decimal.specs.Grammar.{Decimal, IsNoDecimal}
use Rattle.font_decimal.specs.declared.reader.DecimalFault.TheVariants.{Syntax, OutOfRange}
use Rattle.font_decimal.specs.{Near.Near, declared.reader.DecimalFault.DecimalFault}

-- the text is a decimal that rounds to b / 2^f, half away from zero
pub record Rounds (text : List ℕ) (f : ℕ) (b : ℤ) : Type 0 where
  pub numeral : ℤ
  pub places : ℕ
  pub decimal : Decimal text numeral places
  pub nearest : Near (numeral *ℤ pos (2 ^ f)) (10 ^ places) b

-- the text rounds to b, which is in range
pub record Reads (text : List ℕ) (f : ℕ) (min max b : ℤ) : Type 0 where
  pub rounds : Rounds text f b
  pub low : min ≤ℤ b
  pub high : b ≤ℤ max

-- the text rounds to a value that is out of range: the range is checked after rounding
pub record IsOutOfRange (text : List ℕ) (f : ℕ) (min max : ℤ) : Type 0 where
  pub nearest : ℤ
  pub rounds : Rounds text f nearest
  pub outside : (nearest <ℤ min) ⊎ (max <ℤ nearest)

-- the result of parsing: the raw value, or the error
abbrev pub Parses : List ℕ → ℕ → ℤ → ℤ → Result ℤ DecimalFault → Type 0
Parses text f min max (Ok b) = Reads text f min max b
Parses text f min max (Err Syntax) = IsNoDecimal text
Parses text f min max (Err OutOfRange) = IsOutOfRange text f min max

-- a fraction in units of 1 / 2^n, rounded down
pub record HasUnits (n : ℕ) (fraction : List ℕ) (units : ℕ) : Type 0 where
  pub digits : AllDigits 10 fraction
  pub floor : units ≡ digits_value 10 fraction * 2 ^ n / 10 ^ length fraction

-- the value of one decimal is less than or equal to that of the other
pub record IsAtMost (lesser greater : List ℕ) : Type 0 where
  pub n : ℤ
  pub j : ℕ
  pub first : Decimal lesser n j
  pub m : ℤ
  pub k : ℕ
  pub second : Decimal greater m k
  pub ordered : (n *ℤ pos (10 ^ k)) ≤ℤ (m *ℤ pos (10 ^ j))
