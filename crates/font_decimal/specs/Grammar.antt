-- Decimals: an optional `-`, one or more digits, and optionally a point followed by one or more digits. No plus sign,
-- exponent or space. OpenType has no such form.
use Rattle.std.specs.Prelude.{◌≡◌, ℕ, ◌↔◌, Bool, IsTrue, List, [], ◌∷◌, ◌++◌, length, slice_index, ℤ, pos, ◌<ℤ◌, ◌≢◌}
use Rattle.std.specs.Prelude.{◌%◌, ◌<◌, unsigned_abs}
use Rattle.std.specs.{Fmt.sign_text, Str.Parse.digits_value, Str.Parse.AllDigits, Str.Parse.IsNumeral}
use Rattle.font_decimal.specs.Near.{signed}

-- the fraction as written: nothing if it has no digits, otherwise a point and its digits
abbrev pub fraction_text : List ℕ → List ℕ
fraction_text [] = []
fraction_text (digit ∷ digits) = 46 ∷ (digit ∷ digits)

-- the text consists of these parts: a sign, the digits before the point, and those after it
pub record HasParts (text : List ℕ) (negative : Bool) (whole fraction : List ℕ) : Type 0 where
  pub written : text ≡ sign_text negative ++ (whole ++ fraction_text fraction)
  pub whole_digits : IsNumeral 10 whole
  pub fraction_digits : AllDigits 10 fraction

-- the text is a decimal with the value n / 10^k: n is the signed integer of all its digits, and k the number of digits
-- after the point
pub record Decimal (text : List ℕ) (n : ℤ) (k : ℕ) : Type 0 where
  pub negative : Bool
  pub whole : List ℕ
  pub fraction : List ℕ
  pub parts : HasParts text negative whole fraction
  pub numeral : n ≡ signed negative (digits_value 10 (whole ++ fraction))
  pub places : k ≡ length fraction

-- the text is not a decimal
abbrev pub IsNoDecimal : List ℕ → Type 0
IsNoDecimal text = (n : ℤ) (k : ℕ) → ¬ (Decimal text n k)

-- the decimal has no unnecessary leading zero, and a `-` if and only if it is negative
pub record Plain (text : List ℕ) (n : ℤ) (k : ℕ) : Type 0 where
  pub decimal : Decimal text n k
  pub no_needless_zero : slice_index decimal.whole 0 ≡ 48 → length decimal.whole ≡ 1
  pub minus : IsTrue decimal.negative ↔ (n <ℤ pos 0)

-- the decimal has no unnecessary zero, in front or at the end of its fraction, and a `-` if and only if it is negative
pub record Tidy (text : List ℕ) (n : ℤ) (k : ℕ) : Type 0 where
  pub plain : Plain text n k
  pub no_last_zero : 0 < k → unsigned_abs n % 10 ≢ 0
