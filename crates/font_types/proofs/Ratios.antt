-- Quotients of differences, and values on a line through two points: `(x - p) / (q - p)` and
-- `a + (b - a).mul_div(x - p, q - p)`, as one formula each, and their bounds.
use Rattle.std.proofs.Common.{◌≡◌, ◌≢◌, ◌∙◌, ap, arith, ℤ, pos, ◌+ℤ◌, ◌-ℤ◌, ◌*ℤ◌, ◌≤ℤ◌, ◌<ℤ◌, unsigned_abs, negsuc, refl}
use Rattle.std.proofs.Common.{w16, w32, SFits}
use Rattle.std.proofs.{lemmas.Int.ints, Math.IntN.*ℤ_comm, lemmas.Bool.Decides.nat_tests}
use Rattle.font_base.specs.Wrap.{wrap, FitsBits}
use Rattle.font_decimal.specs.Near.{near}
use Rattle.font_fixed.proofs.{Calls.fits_32, FixedCalls.part_is_not_negative, FixedCalls.part_is_at_most_one}
use Rattle.font_fixed.specs.Operations.{IsMulDiv, IsQuotient, rounded_mul_div}
use Rattle.font_types.proofs.Parts.{quotient_of_widened, fits_given, rising_share, falling_share}

-- ---- of differences that were widened from 2.14

widened_difference : (a b : ℤ) → SFits w16 a → SFits w16 b
    → wrap 32 ((a *ℤ pos 4) -ℤ (b *ℤ pos 4)) ≡ ((a -ℤ b) *ℤ pos 4)
widened_difference a b fits_a fits_b =
    fits_32 ((a *ℤ pos 4) -ℤ (b *ℤ pos 4)) (omega (arith, ints, fits_a, fits_b)) ∙ omega (arith, ints)

pub quotient_of_widened_differences : (a b c d r : ℤ)
    → IsQuotient 32 16 (wrap 32 ((a *ℤ pos 4) -ℤ (b *ℤ pos 4))) (wrap 32 ((c *ℤ pos 4) -ℤ (d *ℤ pos 4))) r
    → SFits w16 a → SFits w16 b → SFits w16 c → SFits w16 d → d <ℤ c → IsQuotient 32 16 (a -ℤ b) (c -ℤ d) r
quotient_of_widened_differences a b c d r given fits_a fits_b fits_c fits_d order =
    quotient_of_widened (a -ℤ b) (c -ℤ d) r (omega (arith, ints, order))
    (rw (widened_difference a b fits_a fits_b, widened_difference c d fits_c fits_d) at given)

-- ---- of a part of a whole, as one formula

mul_div_comm : (x a c r : ℤ) → c ≢ pos 0 → IsMulDiv 32 x a c r → IsMulDiv 32 a x c r
mul_div_comm x a c r other given = grind (arith, nat_tests)

part_over_whole : (x y r : ℤ) → IsQuotient 32 16 x y r → pos 0 ≤ℤ x → x ≤ℤ y → y ≢ pos 0
    → r ≡ near (x *ℤ pos 65536) (unsigned_abs y)
part_over_whole x y r given from to some =
    let flipped = mul_div_comm x (pos 65536) y r some given in
    (rising_share (pos 65536) x y r flipped (omega (arith, ints)) (omega (arith, ints)) from to some).0
    ∙ ap (λ n. near n (unsigned_abs y)) (*ℤ_comm (pos 65536) x)

part_fits : (a b : ℤ) → FitsBits 32 b → pos 0 ≤ℤ a → a ≤ℤ b → FitsBits 32 a
part_fits a b fits from to = record { low = omega (arith, ints, from); high = omega (arith, ints, to, fits.high) }

positive : (z : ℤ) → pos 0 <ℤ z → z ≢ pos 0
positive z some none = omega (arith, ints, some, none)

-- of a part of a whole, both as differences from one end
module _ (p x q r : ℤ) (fits : FitsBits 32 (q -ℤ p)) (from : p ≤ℤ x) (to : x ≤ℤ q) (some : p <ℤ q) where
  whole_is_positive : (q -ℤ p) ≢ pos 0
  whole_is_positive = positive (q -ℤ p) (omega (arith, ints, some))

  exact_whole : wrap 32 (q -ℤ p) ≡ (q -ℤ p)
  exact_whole = fits_given (q -ℤ p) fits

  exact_low : wrap 32 (x -ℤ p) ≡ (x -ℤ p)
  exact_low = fits_given (x -ℤ p)
      (part_fits (x -ℤ p) (q -ℤ p) fits (omega (arith, ints, from)) (omega (arith, ints, to)))

  exact_high : wrap 32 (q -ℤ x) ≡ (q -ℤ x)
  exact_high = fits_given (q -ℤ x)
      (part_fits (q -ℤ x) (q -ℤ p) fits (omega (arith, ints, to)) (omega (arith, ints, from)))

  module _ (given : IsQuotient 32 16 (wrap 32 (x -ℤ p)) (wrap 32 (q -ℤ p)) r) where
    pub rising_ratio_is : r ≡ near ((x -ℤ p) *ℤ pos 65536) (unsigned_abs (q -ℤ p))
    rising_ratio_is = part_over_whole (x -ℤ p) (q -ℤ p) r (rw (exact_low, exact_whole) at given)
        (omega (arith, ints, from)) (omega (arith, ints, to)) whole_is_positive

    pub rising_ratio_is_not_negative : pos 0 ≤ℤ r
    rising_ratio_is_not_negative = part_is_not_negative (x -ℤ p) (q -ℤ p) r (rw (exact_low, exact_whole) at given)
        (omega (arith, ints, from)) (omega (arith, ints, to)) whole_is_positive

    pub rising_ratio_is_at_most_one : r ≤ℤ pos 65536
    rising_ratio_is_at_most_one = part_is_at_most_one (x -ℤ p) (q -ℤ p) r (rw (exact_low, exact_whole) at given)
        (omega (arith, ints, from)) (omega (arith, ints, to)) whole_is_positive

  module _ (given : IsQuotient 32 16 (wrap 32 (q -ℤ x)) (wrap 32 (q -ℤ p)) r) where
    pub falling_ratio_is : r ≡ near ((q -ℤ x) *ℤ pos 65536) (unsigned_abs (q -ℤ p))
    falling_ratio_is = part_over_whole (q -ℤ x) (q -ℤ p) r (rw (exact_high, exact_whole) at given)
        (omega (arith, ints, to)) (omega (arith, ints, from)) whole_is_positive

    pub falling_ratio_is_not_negative : pos 0 ≤ℤ r
    falling_ratio_is_not_negative = part_is_not_negative (q -ℤ x) (q -ℤ p) r (rw (exact_high, exact_whole) at given)
        (omega (arith, ints, to)) (omega (arith, ints, from)) whole_is_positive

    pub falling_ratio_is_at_most_one : r ≤ℤ pos 65536
    falling_ratio_is_at_most_one = part_is_at_most_one (q -ℤ x) (q -ℤ p) r (rw (exact_high, exact_whole) at given)
        (omega (arith, ints, to)) (omega (arith, ints, from)) whole_is_positive

-- and of numbers that were widened from 2.14
module _ (p x q r : ℤ) (fits_p : SFits w16 p) (fits_q : SFits w16 q) (from : p ≤ℤ x) (to : x ≤ℤ q) (some : p <ℤ q) where
  wide_fits : FitsBits 32 ((q *ℤ pos 4) -ℤ (p *ℤ pos 4))
  wide_fits = record { low = omega (arith, ints, fits_p, fits_q); high = omega (arith, ints, fits_p, fits_q) }

  wide_from : (p *ℤ pos 4) ≤ℤ (x *ℤ pos 4)
  wide_from = omega (arith, ints, from)

  wide_to : (x *ℤ pos 4) ≤ℤ (q *ℤ pos 4)
  wide_to = omega (arith, ints, to)

  wide_some : (p *ℤ pos 4) <ℤ (q *ℤ pos 4)
  wide_some = omega (arith, ints, some)

  module _ (given : IsQuotient 32 16 (wrap 32 ((x *ℤ pos 4) -ℤ (p *ℤ pos 4)))
      (wrap 32 ((q *ℤ pos 4) -ℤ (p *ℤ pos 4))) r) where
    pub rising_wide_ratio_is_not_negative : pos 0 ≤ℤ r
    rising_wide_ratio_is_not_negative = rising_ratio_is_not_negative _ _ _ r wide_fits wide_from wide_to wide_some given

    pub rising_wide_ratio_is_at_most_one : r ≤ℤ pos 65536
    rising_wide_ratio_is_at_most_one = rising_ratio_is_at_most_one _ _ _ r wide_fits wide_from wide_to wide_some given

  module _ (given : IsQuotient 32 16 (wrap 32 ((q *ℤ pos 4) -ℤ (x *ℤ pos 4)))
      (wrap 32 ((q *ℤ pos 4) -ℤ (p *ℤ pos 4))) r) where
    pub falling_wide_ratio_is_not_negative : pos 0 ≤ℤ r
    falling_wide_ratio_is_not_negative =
        falling_ratio_is_not_negative _ _ _ r wide_fits wide_from wide_to wide_some given

    pub falling_wide_ratio_is_at_most_one : r ≤ℤ pos 65536
    falling_wide_ratio_is_at_most_one = falling_ratio_is_at_most_one _ _ _ r wide_fits wide_from wide_to wide_some given

-- ---- the same quotients by `rounded_mul_div`, as the contract of `checked_div` states them

pub as_mul_div : (x a y : ℤ) → pos 0 <ℤ y → near (x *ℤ a) (unsigned_abs y) ≡ rounded_mul_div x a y
as_mul_div x a (pos n) some = refl
as_mul_div x a (negsuc n) some = absurd (omega (arith, ints, some))

module _ (p x q r : ℤ) (fits : FitsBits 32 (q -ℤ p)) (from : p ≤ℤ x) (to : x ≤ℤ q) (some : p <ℤ q) where
  some_whole : pos 0 <ℤ (q -ℤ p)
  some_whole = omega (arith, ints, some)

  pub rising_quotient_is : IsQuotient 32 16 (wrap 32 (x -ℤ p)) (wrap 32 (q -ℤ p)) r
      → r ≡ rounded_mul_div (x -ℤ p) (pos 65536) (q -ℤ p)
  rising_quotient_is given =
      rising_ratio_is p x q r fits from to some given ∙ as_mul_div (x -ℤ p) (pos 65536) (q -ℤ p) some_whole

  pub falling_quotient_is : IsQuotient 32 16 (wrap 32 (q -ℤ x)) (wrap 32 (q -ℤ p)) r
      → r ≡ rounded_mul_div (q -ℤ x) (pos 65536) (q -ℤ p)
  falling_quotient_is given =
      falling_ratio_is p x q r fits from to some given ∙ as_mul_div (q -ℤ x) (pos 65536) (q -ℤ p) some_whole

-- and of numbers that were widened from 2.14
narrow_difference_fits : (a b : ℤ) → SFits w16 a → SFits w16 b → FitsBits 32 (a -ℤ b)
narrow_difference_fits a b fits_a fits_b =
    record { low = omega (arith, ints, fits_a, fits_b); high = omega (arith, ints, fits_a, fits_b) }

module _ (p x q r : ℤ) (fits_p : SFits w16 p) (fits_x : SFits w16 x) (fits_q : SFits w16 q) (from : p ≤ℤ x)
    (to : x ≤ℤ q) (some : p <ℤ q) where
  whole_difference : wrap 32 (q -ℤ p) ≡ (q -ℤ p)
  whole_difference = fits_given (q -ℤ p) (narrow_difference_fits q p fits_q fits_p)

  pub rising_wide_quotient_is : IsQuotient 32 16 (wrap 32 ((x *ℤ pos 4) -ℤ (p *ℤ pos 4)))
      (wrap 32 ((q *ℤ pos 4) -ℤ (p *ℤ pos 4))) r → r ≡ rounded_mul_div (x -ℤ p) (pos 65536) (q -ℤ p)
  rising_wide_quotient_is given =
      let part = fits_given (x -ℤ p) (narrow_difference_fits x p fits_x fits_p) in
      rising_quotient_is p x q r (narrow_difference_fits q p fits_q fits_p) from to some
      (rw (part, whole_difference) (quotient_of_widened_differences x p q p r given fits_x fits_p fits_q fits_p some))

  pub falling_wide_quotient_is : IsQuotient 32 16 (wrap 32 ((q *ℤ pos 4) -ℤ (x *ℤ pos 4)))
      (wrap 32 ((q *ℤ pos 4) -ℤ (p *ℤ pos 4))) r → r ≡ rounded_mul_div (q -ℤ x) (pos 65536) (q -ℤ p)
  falling_wide_quotient_is given =
      let part = fits_given (q -ℤ x) (narrow_difference_fits q x fits_q fits_x) in
      falling_quotient_is p x q r (narrow_difference_fits q p fits_q fits_p) from to some
      (rw (part, whole_difference) (quotient_of_widened_differences q x q p r given fits_q fits_x fits_q fits_p some))

-- the same quotients and their bounds, by the two orders that tests leave: x is before q, or behind p
module _ (p x q r : ℤ) (fits : FitsBits 32 (q -ℤ p)) (from : p ≤ℤ x) (to : x ≤ℤ q) (some : p <ℤ q) where
  rising_part : IsQuotient 32 16 (wrap 32 (x -ℤ p)) (wrap 32 (q -ℤ p)) r
      → (r ≡ rounded_mul_div (x -ℤ p) (pos 65536) (q -ℤ p)) × (pos 0 ≤ℤ r) × (r ≤ℤ pos 65536)
  rising_part given = (
    rising_quotient_is p x q r fits from to some given,
    rising_ratio_is_not_negative p x q r fits from to some given,
    rising_ratio_is_at_most_one p x q r fits from to some given,
  )

  falling_part : IsQuotient 32 16 (wrap 32 (q -ℤ x)) (wrap 32 (q -ℤ p)) r
      → (r ≡ rounded_mul_div (q -ℤ x) (pos 65536) (q -ℤ p)) × (pos 0 ≤ℤ r) × (r ≤ℤ pos 65536)
  falling_part given = (
    falling_quotient_is p x q r fits from to some given,
    falling_ratio_is_not_negative p x q r fits from to some given,
    falling_ratio_is_at_most_one p x q r fits from to some given,
  )

module _ (p x q r : ℤ) (fits : FitsBits 32 (q -ℤ p)) where
  pub rising_part_before : p ≤ℤ x → x <ℤ q → IsQuotient 32 16 (wrap 32 (x -ℤ p)) (wrap 32 (q -ℤ p)) r
      → (r ≡ rounded_mul_div (x -ℤ p) (pos 65536) (q -ℤ p)) × (pos 0 ≤ℤ r) × (r ≤ℤ pos 65536)
  rising_part_before from to given =
      rising_part p x q r fits from (omega (arith, ints, to)) (omega (arith, ints, from, to)) given

  pub rising_part_behind : p <ℤ x → x ≤ℤ q → IsQuotient 32 16 (wrap 32 (x -ℤ p)) (wrap 32 (q -ℤ p)) r
      → (r ≡ rounded_mul_div (x -ℤ p) (pos 65536) (q -ℤ p)) × (pos 0 ≤ℤ r) × (r ≤ℤ pos 65536)
  rising_part_behind from to given =
      rising_part p x q r fits (omega (arith, ints, from)) to (omega (arith, ints, from, to)) given

  pub falling_part_before : p ≤ℤ x → x <ℤ q → IsQuotient 32 16 (wrap 32 (q -ℤ x)) (wrap 32 (q -ℤ p)) r
      → (r ≡ rounded_mul_div (q -ℤ x) (pos 65536) (q -ℤ p)) × (pos 0 ≤ℤ r) × (r ≤ℤ pos 65536)
  falling_part_before from to given =
      falling_part p x q r fits from (omega (arith, ints, to)) (omega (arith, ints, from, to)) given

  pub falling_part_behind : p <ℤ x → x ≤ℤ q → IsQuotient 32 16 (wrap 32 (q -ℤ x)) (wrap 32 (q -ℤ p)) r
      → (r ≡ rounded_mul_div (q -ℤ x) (pos 65536) (q -ℤ p)) × (pos 0 ≤ℤ r) × (r ≤ℤ pos 65536)
  falling_part_behind from to given =
      falling_part p x q r fits (omega (arith, ints, from)) to (omega (arith, ints, from, to)) given

module _ (p x q r : ℤ) (fits_p : SFits w16 p) (fits_x : SFits w16 x) (fits_q : SFits w16 q) where
  pub rising_wide_part_before : p ≤ℤ x → x <ℤ q → IsQuotient 32 16 (wrap 32 ((x *ℤ pos 4) -ℤ (p *ℤ pos 4)))
      (wrap 32 ((q *ℤ pos 4) -ℤ (p *ℤ pos 4))) r → r ≡ rounded_mul_div (x -ℤ p) (pos 65536) (q -ℤ p)
  rising_wide_part_before from to given =
      rising_wide_quotient_is p x q r fits_p fits_x fits_q from (omega (arith, ints, to)) (omega (arith, ints, from, to))
      given

  pub falling_wide_part_behind : p <ℤ x → x ≤ℤ q → IsQuotient 32 16 (wrap 32 ((q *ℤ pos 4) -ℤ (x *ℤ pos 4)))
      (wrap 32 ((q *ℤ pos 4) -ℤ (p *ℤ pos 4))) r → r ≡ rounded_mul_div (q -ℤ x) (pos 65536) (q -ℤ p)
  falling_wide_part_behind from to given =
      falling_wide_quotient_is p x q r fits_p fits_x fits_q (omega (arith, ints, from)) to (omega (arith, ints, from, to))
      given

-- ---- a value on the line through two points

module _ (a b x p q r : ℤ) (given : IsMulDiv 32 (wrap 32 (b -ℤ a)) (wrap 32 (x -ℤ p)) (wrap 32 (q -ℤ p)) r)
    (fits_a : SFits w32 a) (fits_b : SFits w32 b) (rise_fits : FitsBits 32 (b -ℤ a)) (whole_fits : FitsBits 32 (q -ℤ p))
    (from : p ≤ℤ x) (to : x ≤ℤ q) (some : p <ℤ q) where
  exact_share : IsMulDiv 32 (b -ℤ a) (x -ℤ p) (q -ℤ p) r
  exact_share =
      let part = exact_low p x q r whole_fits from to some in
      let whole = exact_whole p x q r whole_fits from to some in
      rw (fits_given (b -ℤ a) rise_fits, part, whole) at given

  rise_is_small : SFits w32 (b -ℤ a)
  rise_is_small = omega (arith, ints, rise_fits.low, rise_fits.high)

  up : a ≤ℤ b → (r ≡ near ((b -ℤ a) *ℤ (x -ℤ p)) (unsigned_abs (q -ℤ p))) × (pos 0 ≤ℤ r) × (r ≤ℤ (b -ℤ a))
  up order = rising_share (b -ℤ a) (x -ℤ p) (q -ℤ p) r exact_share rise_is_small (omega (arith, ints, order))
      (omega (arith, ints, from)) (omega (arith, ints, to)) (whole_is_positive p x q r whole_fits from to some)

  down : b ≤ℤ a → (r ≡ near ((b -ℤ a) *ℤ (x -ℤ p)) (unsigned_abs (q -ℤ p))) × (r ≤ℤ pos 0) × ((b -ℤ a) ≤ℤ r)
  down order = falling_share (b -ℤ a) (x -ℤ p) (q -ℤ p) r exact_share rise_is_small (omega (arith, ints, order))
      (omega (arith, ints, from)) (omega (arith, ints, to)) (whole_is_positive p x q r whole_fits from to some)

  sum_up : a ≤ℤ b → wrap 32 (a +ℤ r) ≡ (a +ℤ r)
  sum_up order = fits_32 (a +ℤ r) (omega (arith, ints, fits_a, fits_b, (up order).1, (up order).2))

  sum_down : b ≤ℤ a → wrap 32 (a +ℤ r) ≡ (a +ℤ r)
  sum_down order = fits_32 (a +ℤ r) (omega (arith, ints, fits_a, fits_b, (down order).1, (down order).2))

  pub on_rising_line : a ≤ℤ b → wrap 32 (a +ℤ r) ≡ (a +ℤ near ((b -ℤ a) *ℤ (x -ℤ p)) (unsigned_abs (q -ℤ p)))
  on_rising_line order = sum_up order ∙ ap (λ n. a +ℤ n) (up order).0

  pub on_falling_line : b ≤ℤ a → wrap 32 (a +ℤ r) ≡ (a +ℤ near ((b -ℤ a) *ℤ (x -ℤ p)) (unsigned_abs (q -ℤ p)))
  on_falling_line order = sum_down order ∙ ap (λ n. a +ℤ n) (down order).0

  pub rising_line_from : a ≤ℤ b → a ≤ℤ wrap 32 (a +ℤ r)
  rising_line_from order = rw (sum_up order) (omega (arith, ints, (up order).1))

  pub rising_line_to : a ≤ℤ b → wrap 32 (a +ℤ r) ≤ℤ b
  rising_line_to order = rw (sum_up order) (omega (arith, ints, (up order).2))

  pub falling_line_from : b ≤ℤ a → wrap 32 (a +ℤ r) ≤ℤ a
  falling_line_from order = rw (sum_down order) (omega (arith, ints, (down order).1))

  pub falling_line_to : b ≤ℤ a → b ≤ℤ wrap 32 (a +ℤ r)
  falling_line_to order = rw (sum_down order) (omega (arith, ints, (down order).2))

pub ruleset ratio_calls = (
  quotient_of_widened_differences,
  rising_ratio_is,
  rising_ratio_is_not_negative,
  rising_ratio_is_at_most_one,
  falling_ratio_is,
  falling_ratio_is_not_negative,
  falling_ratio_is_at_most_one,
  rising_wide_ratio_is_not_negative,
  rising_wide_ratio_is_at_most_one,
  falling_wide_ratio_is_not_negative,
  falling_wide_ratio_is_at_most_one,
  rising_quotient_is,
  falling_quotient_is,
  rising_wide_quotient_is,
  falling_wide_quotient_is,
  on_rising_line,
  on_falling_line,
  rising_line_from,
  rising_line_to,
  falling_line_from,
  falling_line_to,
)

pub ruleset order_ratio_calls = (
  rising_part_before,
  rising_part_behind,
  falling_part_before,
  falling_part_behind,
  rising_wide_part_before,
  falling_wide_part_behind,
)
