-- Rules for callers of `Fixed`: products and quotients by 0, by 1 and by -1, sums with 0, differences, a number over
-- itself, a part of a whole, `mul_div`, and wrapping of a number that fits.
use Rattle.std.proofs.Common.{◌≡◌, ◌≢◌, ◌∙◌, ap, refl, arith, lit<, lit≤, ℤ, pos, negsuc, neg_ℤ, ◌+ℤ◌, ◌-ℤ◌, ◌*ℤ◌, ◌≤ℤ◌}
use Rattle.std.proofs.Common.{w32, SFits}
use Rattle.std.proofs.{lemmas.Int.ints, Math.IntN.*ℤ_comm}
use Rattle.font_base.proofs.Widths.{signed_fits}
use Rattle.font_base.specs.{Wrap.wrap, Wrap.FitsBits, Wrap.Laws.wrap-add_right, Wrap.Laws.wrap-wrap}
use Rattle.font_decimal.specs.Near.{near}
use Rattle.font_fixed.specs.Operations.{IsQuotient, IsMulDiv, floor_of, fract_of}
use Rattle.font_fixed.proofs.Calls.{near-times, near-times_left, near-times_zero, near-zero_times, fits_32, calls_32}
use Rattle.font_fixed.proofs.NumberLaws.{itself, mul_div_exact, mul_div_between, quotient_between}

pub mul_one : (x : ℤ) → near (x *ℤ pos 65536) 65536 ≡ x
mul_one x = near-times x 65536 (lit< tt)

pub one_by : (x : ℤ) → near (pos 65536 *ℤ x) 65536 ≡ x
one_by x = near-times_left x 65536 (lit< tt)

pub by_zero : (x : ℤ) → near (x *ℤ pos 0) 65536 ≡ pos 0
by_zero x = near-times_zero x 65536 (lit< tt)

pub zero_mul : (x : ℤ) → near (pos 0 *ℤ x) 65536 ≡ pos 0
zero_mul x = near-zero_times x 65536 (lit< tt)

pub mul_neg_one : (x : ℤ) → near (x *ℤ negsuc 65535) 65536 ≡ neg_ℤ x
mul_neg_one x = grind (arith, mul_one (neg_ℤ x))

pub neg_one_by : (x : ℤ) → near (negsuc 65535 *ℤ x) 65536 ≡ neg_ℤ x
neg_one_by x = ap (λ n. near n 65536) (*ℤ_comm (negsuc 65535) x) ∙ mul_neg_one x

pub wrap_twice : (x : ℤ) → wrap 32 (wrap 32 x) ≡ wrap 32 x
wrap_twice x = wrap-wrap 32 32 x (lit< tt) (lit≤ tt)

pub floor_plus_fract : (b : ℤ) → SFits w32 b → wrap 32 (floor_of 16 b +ℤ fract_of 16 b) ≡ b
floor_plus_fract b fits = grind (arith, ints, fits_32)

-- ---- differences

-- a difference that is added back: a + (b - a) is b
pub add_sub_cancel : (a b : ℤ) → SFits w32 b → wrap 32 (a +ℤ wrap 32 (b -ℤ a)) ≡ b
add_sub_cancel a b fits = grind (arith, ints, wrap-add_right, fits_32)

-- a number less itself is 0
pub sub_self : (a : ℤ) → wrap 32 (a -ℤ a) ≡ pos 0
sub_self a = grind (arith, fits_32)

-- different numbers have a difference that is not 0
pub difference_is_not_zero : (a b : ℤ) → SFits w32 a → SFits w32 b → a ≢ b → wrap 32 (b -ℤ a) ≢ pos 0
difference_is_not_zero a b fits_a fits_b other none = grind (arith, fits_32 a fits_a, add_sub_cancel a b fits_b)

-- ---- quotients

one_fits : FitsBits 32 (pos 65536)
one_fits = record { low = omega (arith, ints); high = omega (arith, ints) }

pub over_itself : (x r : ℤ) → IsQuotient 32 16 x x r → x ≢ pos 0 → r ≡ pos 65536
over_itself x r quotient other = itself 32 16 x r (lit< tt) one_fits quotient other

-- a part of a whole, over the whole
pub part_is_not_negative : (x y r : ℤ) → IsQuotient 32 16 x y r → pos 0 ≤ℤ x → x ≤ℤ y → y ≢ pos 0 → pos 0 ≤ℤ r
part_is_not_negative x y r quotient low high some =
    (quotient_between 32 16 x y r (lit< tt) one_fits quotient low high some).0

pub part_is_at_most_one : (x y r : ℤ) → IsQuotient 32 16 x y r → pos 0 ≤ℤ x → x ≤ℤ y → y ≢ pos 0 → r ≤ℤ pos 65536
part_is_at_most_one x y r quotient low high some =
    (quotient_between 32 16 x y r (lit< tt) one_fits quotient low high some).1

-- ---- `mul_div`

zero_in_range : FitsBits 32 (pos 0)
zero_in_range = signed_fits w32 (pos 0) (omega (arith, ints))

pub mul_div_zero : (x c r : ℤ) → IsMulDiv 32 x (pos 0) c r → c ≢ pos 0 → r ≡ pos 0
mul_div_zero x c r given some =
    mul_div_exact 32 (pos 0) x (pos 0) c r (lit< tt) zero_in_range (*ℤ_comm x (pos 0) ∙ omega (arith, ints)) given some

pub zero_mul_div : (a c r : ℤ) → IsMulDiv 32 (pos 0) a c r → c ≢ pos 0 → r ≡ pos 0
zero_mul_div a c r given some =
    mul_div_exact 32 (pos 0) (pos 0) a c r (lit< tt) zero_in_range (omega (arith, ints)) given some

pub mul_div_self : (x c r : ℤ) → IsMulDiv 32 x c c r → SFits w32 x → c ≢ pos 0 → r ≡ x
mul_div_self x c r given fits some = mul_div_exact 32 x x c c r (lit< tt) (signed_fits w32 x fits) refl given some

pub self_mul_div : (a c r : ℤ) → IsMulDiv 32 c a c r → SFits w32 a → c ≢ pos 0 → r ≡ a
self_mul_div a c r given fits some =
    mul_div_exact 32 a c a c r (lit< tt) (signed_fits w32 a fits) (*ℤ_comm c a) given some

pub mul_div_is_not_negative : (x a c r : ℤ) → IsMulDiv 32 x a c r → SFits w32 x → pos 0 ≤ℤ x → pos 0 ≤ℤ a → a ≤ℤ c
    → c ≢ pos 0 → pos 0 ≤ℤ r
mul_div_is_not_negative x a c r given fits low from to some = grind (arith, mul_div_between, signed_fits)

pub mul_div_is_at_most : (x a c r : ℤ) → IsMulDiv 32 x a c r → SFits w32 x → pos 0 ≤ℤ x → pos 0 ≤ℤ a → a ≤ℤ c
    → c ≢ pos 0 → r ≤ℤ x
mul_div_is_at_most x a c r given fits low from to some = grind (arith, mul_div_between, signed_fits)

pub ruleset fixed_calls = (
  calls_32,
  mul_one,
  one_by,
  by_zero,
  zero_mul,
  mul_neg_one,
  neg_one_by,
  wrap_twice,
  floor_plus_fract,
  add_sub_cancel,
  sub_self,
  over_itself,
  part_is_not_negative,
  part_is_at_most_one,
  difference_is_not_zero,
  mul_div_zero,
  zero_mul_div,
  mul_div_self,
  self_mul_div,
  mul_div_is_not_negative,
  mul_div_is_at_most,
)
