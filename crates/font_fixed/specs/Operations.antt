-- The operations of fixed-point numbers, over their raw values. A w-bit number with f fraction bits is its raw value
-- over 2^f (OpenType, data types: Fixed is 16.16, F2DOT14 is 2.14).
use Rattle.std.specs.Prelude.{◌≡◌, ℕ, zero, suc, ◌-◌, ◌^◌, Bool, not, List, ℤ, pos, negsuc, neg_ℤ, ◌+ℤ◌, ◌-ℤ◌, ◌*ℤ◌}
use Rattle.std.specs.Prelude.{◌≤ℤ◌, ◌<ℤ◌, Result, if◌then◌else◌}
use Rattle.std.specs.Int.{is_negative, int_rem_euclid, saturate_to_bits}
use Rattle.font_base.specs.Wrap.{half_range, wrap, FitsBits}
use Rattle.font_decimal.specs.{Near.signed, Near.Near, Near.near, Near.Up, Near.up, Reading.Reads, Reading.IsOutOfRange}
use Rattle.font_decimal.specs.{Reading.Parses, declared.reader.DecimalFault.DecimalFault}

-- r is z wrapped to w bits: z itself, if it fits in them
abbrev pub WrapsTo : ℕ → ℤ → ℤ → Type 0
WrapsTo w z r = (r ≡ wrap w z) × (FitsBits w z → r ≡ z)

-- n / d rounded half away from zero and wrapped to w bits
abbrev pub wrapped_near : ℕ → ℤ → ℕ → ℤ
wrapped_near w n d = wrap w (near n d)

-- r is n / d rounded half away from zero and wrapped to w bits
pub record IsWrappedNear (w : ℕ) (n : ℤ) (d : ℕ) (r : ℤ) : Type 0 where
  pub rounded : ℤ
  pub nearest : Near n d rounded
  pub wrapped : r ≡ wrap w rounded
  pub is : r ≡ wrapped_near w n d

-- b / d rounded half up and wrapped to w bits
abbrev pub narrowed : ℕ → ℤ → ℕ → ℤ
narrowed w b d = wrap w (up b d)

-- r is b / d rounded half up and wrapped to w bits
pub record IsNarrowed (w : ℕ) (b : ℤ) (d : ℕ) (r : ℤ) : Type 0 where
  pub rounded : ℤ
  pub nearest : Up b d rounded
  pub wrapped : r ≡ wrap w rounded
  pub is : r ≡ narrowed w b d

-- the raw value of b / 2^f rounded half up to an integer, wrapped to w bits
abbrev pub nearest_whole : ℕ → ℕ → ℤ → ℤ
nearest_whole w f b = wrap w (up b (2 ^ f) *ℤ pos (2 ^ f))

-- r is the raw value of b / 2^f rounded half up to an integer, wrapped to w bits
pub record IsNearestWhole (w f : ℕ) (b r : ℤ) : Type 0 where
  pub whole : ℤ
  pub nearest : Up b (2 ^ f) whole
  pub wrapped : r ≡ wrap w (whole *ℤ pos (2 ^ f))
  pub is : r ≡ nearest_whole w f b

-- b is the raw value of an integer, with f fraction bits
pub record IsIntegral (f : ℕ) (b : ℤ) : Type 0 where
  pub number : ℤ
  pub is : b ≡ (number *ℤ pos (2 ^ f))

-- the raw values of the fractional part of b / 2^f, and of its floor
unfoldable pub fract_of : ℕ → ℤ → ℤ
fract_of f b = int_rem_euclid b (pos (2 ^ f))

abbrev pub floor_of : ℕ → ℤ → ℤ
floor_of f b = b -ℤ fract_of f b

-- r is the raw value of the floor of b / 2^f
pub record IsFloor (f : ℕ) (b r : ℤ) : Type 0 where
  pub whole : ℤ
  pub bits : r ≡ (whole *ℤ pos (2 ^ f))
  pub low : r ≤ℤ b
  pub high : b <ℤ (r +ℤ pos (2 ^ f))
  pub is : r ≡ floor_of f b

-- the raw value of the ceiling of b / 2^f
abbrev pub ceiling_of : ℕ → ℤ → ℤ
ceiling_of f b = neg_ℤ (floor_of f (neg_ℤ b))

-- r is the raw value of the ceiling of b / 2^f
pub record IsCeiling (f : ℕ) (b r : ℤ) : Type 0 where
  pub whole : ℤ
  pub bits : r ≡ (whole *ℤ pos (2 ^ f))
  pub low : b ≤ℤ r
  pub high : r <ℤ (b +ℤ pos (2 ^ f))
  pub is : r ≡ ceiling_of f b

-- r is the raw value of the ceiling of b / 2^f, wrapped to w bits
pub record IsWrappedCeiling (w f : ℕ) (b r : ℤ) : Type 0 where
  pub ceiling : ℤ
  pub is_ceiling : IsCeiling f b ceiling
  pub wrapped : r ≡ wrap w ceiling

-- r is the raw value of the fractional part of b / 2^f
pub record IsFract (f : ℕ) (b r : ℤ) : Type 0 where
  pub floor : ℤ
  pub is_floor : IsFloor f b floor
  pub rest : r ≡ (b -ℤ floor)
  pub is : r ≡ fract_of f b

-- the smallest and largest w-bit integers
abbrev pub least : ℕ → ℤ
least w = neg_ℤ (pos (half_range w))

abbrev pub greatest : ℕ → ℤ
greatest w = pos (half_range w - 1)

-- the text parses as the w-bit raw value b with f fraction bits
abbrev pub ReadsBits : ℕ → ℕ → List ℕ → ℤ → Type 0
ReadsBits w f text b = Reads text f (least w) (greatest w) b

-- the text is a decimal whose rounded raw value does not fit in w bits
abbrev pub IsTooFar : ℕ → ℕ → List ℕ → Type 0
IsTooFar w f text = IsOutOfRange text f (least w) (greatest w)

-- the result of parsing as a w-bit raw value with f fraction bits
abbrev pub ParsesBits : ℕ → ℕ → List ℕ → Result ℤ DecimalFault → Type 0
ParsesBits w f text result = Parses text f (least w) (greatest w) result

-- z saturated to w bits
abbrev pub clamp : ℕ → ℤ → ℤ
clamp w z = saturate_to_bits (w - 1) z

-- exactly one of two integers is negative
abbrev pub differ_in_sign : ℤ → ℤ → Bool
differ_in_sign x y = if is_negative x then not (is_negative y) else is_negative y

-- r is the product of the raw values x and y: x * y / 2^f, rounded half away from zero and wrapped
abbrev pub IsProduct : ℕ → ℕ → ℤ → ℤ → ℤ → Type 0
IsProduct w f x y r = IsWrappedNear w (x *ℤ y) (2 ^ f) r

-- r is x * a / c, rounded half away from zero and wrapped; if c is 0, the largest w-bit integer, negated if exactly one
-- of x and a is negative
abbrev pub IsMulDiv : ℕ → ℤ → ℤ → ℤ → ℤ → Type 0
IsMulDiv w x a (pos zero) r = r ≡ signed (differ_in_sign x a) (half_range w - 1)
IsMulDiv w x a (pos (suc c)) r = IsWrappedNear w (x *ℤ a) (suc c) r
IsMulDiv w x a (negsuc c) r = IsWrappedNear w (neg_ℤ (x *ℤ a)) (suc c) r

-- r is the quotient of the raw values x and y: x * 2^f / y, rounded half away from zero and wrapped; if y is 0, as in
-- `IsMulDiv`
abbrev pub IsQuotient : ℕ → ℕ → ℤ → ℤ → ℤ → Type 0
IsQuotient w f x y r = IsMulDiv w x (pos (2 ^ f)) y r

-- x * a / c of raw values, rounded once, half away from zero, for c other than 0
abbrev pub rounded_mul_div : ℤ → ℤ → ℤ → ℤ
rounded_mul_div x a (pos c) = near (x *ℤ a) c
rounded_mul_div x a (negsuc c) = near (neg_ℤ (x *ℤ a)) (suc c)
