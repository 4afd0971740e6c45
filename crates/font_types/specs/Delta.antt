-- Sums of deltas: each term is the product of a scalar, a `Fixed`, and a delta in font units.
-- (OpenType, item variation stores: an interpolated delta is the sum of the scaled deltas of all regions)
-- A joined list has the sum of both, and the order of the terms does not matter (lemmas `total-append`,
-- `total-permuted`).
pub mod Laws
use Rattle.std.specs.Prelude.{ℕ, zero, suc, List, fold, Option, Some, None, option_map, if◌then◌else◌, ℤ, pos, ◌+ℤ◌}
use Rattle.std.specs.Prelude.{◌*ℤ◌, ◌-◌, negsuc}
use Rattle.font_base.specs.Wrap.{fits_bits, half_range}
use Rattle.font_decimal.specs.Near.{signed}
use Rattle.font_fixed.specs.{Fixed.Fixed, Fixed.fixed_bits, Operations.rounded_mul_div, Operations.differ_in_sign}

-- the exact sum of an integer for each element of a list
abbrev pub total : {T : Type 0} → (T → ℤ) → List T → ℤ
total number_of xs = fold (λ sum x. sum +ℤ number_of x) (pos 0) xs

-- the exact sum of an integer for each index below n, as of the products of two slices
unfoldable pub total_below : (ℕ → ℤ) → ℕ → ℤ
total_below number_at zero = pos 0
total_below number_at (suc n) = total_below number_at n +ℤ number_at n

-- the exact product of a term, as a 16.16 raw value
abbrev pub term_product : Fixed × ℤ → ℤ
term_product term = fixed_bits term.0 *ℤ term.1

-- the exact sum of the products, as a 16.16 raw value
abbrev pub exact_sum : List (Fixed × ℤ) → ℤ
exact_sum terms = total term_product terms

-- that sum if it fits in 64 bits
abbrev pub sum_in_range : List (Fixed × ℤ) → Option ℤ
sum_in_range terms = if fits_bits 64 (exact_sum terms) then Some (exact_sum terms) else None

-- a quantity in font units plus that sum, as a 16.16 raw value
abbrev pub varied : ℤ → List (Fixed × ℤ) → Option ℤ
varied base terms = option_map (λ sum. base *ℤ pos 65536 +ℤ sum) (sum_in_range terms)

-- the raw value of a number that is scaled by a / c and rounded; if c is 0, the greatest, negated if exactly one of the
-- number and a is negative
abbrev pub scaled : ℤ → ℤ → Fixed → ℤ
scaled a (pos zero) x = signed (differ_in_sign (fixed_bits x) a) (half_range 32 - 1)
scaled a (pos (suc c)) x = rounded_mul_div (fixed_bits x) a (pos (suc c))
scaled a (negsuc c) x = rounded_mul_div (fixed_bits x) a (negsuc c)
