-- Sums that wrap at each step: each is the exact sum, wrapped.
use Rattle.std.proofs.Common.{◌≡◌, ◌∙◌, sym, ap, ℕ, ◌+◌, ◌<◌, List, length, take, get_or, ℤ, pos, ◌+ℤ◌, lit<, arith}
use Rattle.std.proofs.Common.{◌≤◌, ◌++◌, ◌*ℤ◌, ◌%◌, ◌^◌, w16, w32, SFits, to_z, of_z, refl, lit≤, unsigned_abs, zero}
use Rattle.std.proofs.Common.{suc, negsuc, ◌-ℤ◌, ◌*◌, ◌<ℤ◌, ◌-◌, Bool, true, false}
use Rattle.std.proofs.lemmas.Int.{ints, wrapping_add_onto}
use Rattle.std.proofs.{Math.IntN.+ℤ_assoc, Math.Nat.mul-le-mul, lemmas.List.take_all, lemmas.List.Sums.fold_more}
use Rattle.std.specs.Int.{w128}
use Rattle.font_base.proofs.{Moved.bytes_moved, Widths.int_wrap-wrap}
use Rattle.font_base.specs.Wrap.{wrap, FitsBits, half_range}
use Rattle.font_base.specs.Wrap.Laws.{wrap-add_left, wrap-add_right, wrap-fits, wrap-wrap}
use Rattle.font_decimal.specs.Near.{signed}
use Rattle.font_fixed.proofs.{Calls.fits_16, Wrapped.wrapping_add-wrap, FixedCalls.fixed_calls, Quotients.mul_div_is}
use Rattle.font_fixed.specs.Operations.{IsMulDiv, rounded_mul_div}
use Rattle.font_fixed.specs.{Fixed.Fixed, Fixed.fixed_bits, F26Dot6.f26dot6_bits, F48Dot16.f48dot16_bits}
use Rattle.font_geom.specs.declared.point.Point.{Point}
use Rattle.font_ids.specs.FWord.{fword_number}
use Rattle.font_types.specs.Delta.{total, term_product, exact_sum, scaled}
use Rattle.font_types.specs.Delta.Laws.{total-append, total-near, total-times}

-- one term more, of a list of anything
pub running_total : {T : Type 0} (w : ℕ) (number_of : T → ℤ) (xs : List T) (i : ℕ) (d : T) → 0 < w → i < length xs
    → wrap w (wrap w (total number_of (take i xs)) +ℤ number_of (get_or xs i d)) ≡ wrap w
    (total number_of (take (i + 1) xs))
running_total w number_of xs i d some within = grind (arith, wrap-add_left, fold_more)

-- the same for each kind of number, because `search` does not find the general one
abbrev pub IsRunning : {T : Type 0} → ℕ → (T → ℤ) → Type 0
IsRunning {T} w number_of = (xs : List T) (i : ℕ) (d : T) → i < length xs
    → wrap w (wrap w (total number_of (take i xs)) +ℤ number_of (get_or xs i d)) ≡ wrap w
    (total number_of (take (i + 1) xs))

pub running_sum : IsRunning 32 fixed_bits
running_sum xs i d within = running_total 32 fixed_bits xs i d (lit< tt) within

pub running_delta_sum : IsRunning 64 term_product
running_delta_sum xs i d within = running_total 64 term_product xs i d (lit< tt) within

-- points, coordinate by coordinate
pub running_x : IsRunning 32 (λ (p : Point Fixed). fixed_bits p.x)
running_x xs i d within = running_total 32 (λ p. fixed_bits p.x) xs i d (lit< tt) within

pub running_y : IsRunning 32 (λ (p : Point Fixed). fixed_bits p.y)
running_y xs i d within = running_total 32 (λ p. fixed_bits p.y) xs i d (lit< tt) within

-- 48.16 and 26.6, and `Fixed` summed in 64 bits
pub running_48dot16 : IsRunning 64 f48dot16_bits
running_48dot16 xs i d within = running_total 64 f48dot16_bits xs i d (lit< tt) within

pub running_fixed_64 : IsRunning 64 fixed_bits
running_fixed_64 xs i d within = running_total 64 fixed_bits xs i d (lit< tt) within

pub running_26dot6 : IsRunning 32 f26dot6_bits
running_26dot6 xs i d within = running_total 32 f26dot6_bits xs i d (lit< tt) within

pub ruleset sum_calls = (
  running_sum,
  running_delta_sum,
  running_x,
  running_y,
  running_48dot16,
  running_fixed_64,
  running_26dot6,
)

-- ---- sums that start somewhere, and sums of sums

pub running_total_from : {T : Type 0} (w : ℕ) (number_of : T → ℤ) (start : ℤ) (xs : List T) (i : ℕ) (d : T) → 0 < w
    → i < length xs
    → wrap w (wrap w (start +ℤ total number_of (take i xs)) +ℤ number_of (get_or xs i d)) ≡ wrap w
    (start +ℤ total number_of (take (i + 1) xs))
running_total_from w number_of start xs i d some within = grind (arith, wrap-add_left, +ℤ_assoc, fold_more)

abbrev pub IsRunningFrom : {T : Type 0} → ℕ → (T → ℤ) → Type 0
IsRunningFrom {T} w number_of = (start : ℤ) (xs : List T) (i : ℕ) (d : T) → i < length xs
    → wrap w (wrap w (start +ℤ total number_of (take i xs)) +ℤ number_of (get_or xs i d)) ≡ wrap w
    (start +ℤ total number_of (take (i + 1) xs))

pub running_x_from : IsRunningFrom 32 (λ (p : Point Fixed). fixed_bits p.x)
running_x_from start xs i d within = running_total_from 32 (λ p. fixed_bits p.x) start xs i d (lit< tt) within

pub running_y_from : IsRunningFrom 32 (λ (p : Point Fixed). fixed_bits p.y)
running_y_from start xs i d within = running_total_from 32 (λ p. fixed_bits p.y) start xs i d (lit< tt) within

pub sum_of_sums_64 : (a b : ℤ) → wrap 64 (wrap 64 a +ℤ wrap 64 b) ≡ wrap 64 (a +ℤ b)
sum_of_sums_64 a b = wrap-add_left 64 a (wrap 64 b) (lit< tt) ∙ wrap-add_right 64 a b (lit< tt)

pub ruleset sum_calls_from = (sum_calls, running_x_from, running_y_from, sum_of_sums_64)

-- ---- 16-bit quantities in font design units

pub running_words : IsRunning 16 fword_number
running_words xs i d within = running_total 16 fword_number xs i d (lit< tt) within

pub none_16 : wrap 16 (pos 0) ≡ pos 0
none_16 = fits_16 (pos 0) (omega (arith, ints))

-- 16-bit integers, if the sum is a variable of the code
pub running_16 : IsRunning 16 (λ (n : ℤ). n)
running_16 xs i d within = running_total 16 (λ n. n) xs i d (lit< tt) within

pub sum_onto_16 : (m : ℕ) (y : ℤ) → m < 65536 → SFits w16 y
    → to_z w16 ((m + of_z w16 y) % 65536) ≡ wrap 16 (to_z w16 m +ℤ y)
sum_onto_16 m y below fits = wrapping_add_onto w16 m y below fits ∙ int_wrap-wrap w16 (to_z w16 m +ℤ y)

-- the same for 32 bits
pub none_32 : wrap 32 (pos 0) ≡ pos 0
none_32 = wrap-fits 32 (pos 0) (lit< tt) (record { low = omega (arith, ints); high = omega (arith, ints) })

pub running_32 : IsRunning 32 (λ (n : ℤ). n)
running_32 xs i d within = running_total 32 (λ n. n) xs i d (lit< tt) within

pub sum_onto_32 : (m : ℕ) (y : ℤ) → m < 4294967296 → SFits w32 y
    → to_z w32 ((m + of_z w32 y) % 4294967296) ≡ wrap 32 (to_z w32 m +ℤ y)
sum_onto_32 m y below fits = wrapping_add_onto w32 m y below fits ∙ int_wrap-wrap w32 (to_z w32 m +ℤ y)

-- ---- 128 bits, wrapped to 64

pub added_128 : (x y : ℤ) → SFits w128 x → SFits w128 y
    → to_z w128 ((of_z w128 x + of_z w128 y) % 2 ^ 128) ≡ wrap 128 (x +ℤ y)
added_128 x y f g = wrapping_add-wrap w128 128 (2 ^ 128) x y refl refl f g

pub fits_128 : (z : ℤ) → FitsBits 128 z → wrap 128 z ≡ z
fits_128 z fits = wrap-fits 128 z (lit< tt) fits

pub cut_to_64 : (z : ℤ) → wrap 64 (wrap 128 z) ≡ wrap 64 z
cut_to_64 z = wrap-wrap 64 128 z (lit< tt) (lit≤ tt)

-- a product of two 32-bit numbers
pub term_bound : (x y : ℤ) → SFits w32 x → SFits w32 y → unsigned_abs (x *ℤ y) ≤ 2 ^ 62
term_bound x y fits_x fits_y = grind (arith, mul-le-mul)

-- a sum that wraps at 128 bits, one term more, and at its end
pub sum_starts : pos 0 ≡ wrap 128 (pos 0)
sum_starts = sym (fits_128 (pos 0) (record { low = omega (arith, ints); high = omega (arith, ints) }))

pub sum_goes_on : (xs : List (Fixed × ℤ)) (i : ℕ) (d : Fixed × ℤ) (sum next : ℤ) → i < length xs
    → sum ≡ wrap 128 (exact_sum (take i xs)) → next ≡ wrap 128 (sum +ℤ term_product (get_or xs i d))
    → next ≡ wrap 128 (exact_sum (take (i + 1) xs))
sum_goes_on xs i d sum next within so_far is = grind (arith, running_total 128 term_product xs i d (lit< tt) within)

pub sum_ends : (xs : List (Fixed × ℤ)) (i : ℕ) (sum : ℤ) → length xs ≤ i → sum ≡ wrap 128 (exact_sum (take i xs))
    → wrap 64 sum ≡ wrap 64 (exact_sum xs)
sum_ends xs i sum all so_far = ap (wrap 64) so_far ∙ cut_to_64 _ ∙ ap (λ ys. wrap 64 (exact_sum ys)) (take_all i xs all)

-- the sums of two lists, and that of the joined list
joined : (w : ℕ) (xs ys : List (Fixed × ℤ)) → 0 < w
    → wrap w (wrap w (exact_sum xs) +ℤ wrap w (exact_sum ys)) ≡ wrap w (exact_sum (xs ++ ys))
joined w xs ys some = grind (arith, wrap-add_left, wrap-add_right, total-append term_product xs ys)

pub joined_64 : (xs ys : List (Fixed × ℤ))
    → wrap 64 (wrap 64 (exact_sum xs) +ℤ wrap 64 (exact_sum ys)) ≡ wrap 64 (exact_sum (xs ++ ys))
joined_64 xs ys = joined 64 xs ys (lit< tt)

pub joined_128 : (xs ys : List (Fixed × ℤ))
    → wrap 128 (wrap 128 (exact_sum xs) +ℤ wrap 128 (exact_sum ys)) ≡ wrap 128 (exact_sum (xs ++ ys))
joined_128 xs ys = joined 128 xs ys (lit< tt)

pub ruleset joined_sums = (joined_64, joined_128)

pub ruleset delta_rules = (
  added_128,
  fits_128,
  cut_to_64,
  term_bound,
  sum_starts,
  sum_goes_on,
  sum_ends,
)

pub ruleset delta_sum_calls = (fixed_calls, delta_rules)

pub ruleset sum_calls_16 = (wrapping_add-wrap, bytes_moved, running_words, none_16, running_16, sum_onto_16)

pub ruleset sum_calls_32 = (none_32, running_32, sum_onto_32)

-- ---- numbers that are scaled one by one

signed_fits_32 : (negative : Bool) → FitsBits 32 (signed negative (half_range 32 - 1))
signed_fits_32 false = record { low = omega (arith, ints); high = omega (arith, ints) }
signed_fits_32 true = record { low = omega (arith, ints); high = omega (arith, ints) }

scaled_once : (x : Fixed) (a c r : ℤ) → IsMulDiv 32 (fixed_bits x) a c r → r ≡ wrap 32 (scaled a c x)
scaled_once x a (pos zero) r given = given ∙ sym (wrap-fits 32 _ (lit< tt) (signed_fits_32 _))
scaled_once x a (pos (suc c)) r given = given.is
scaled_once x a (negsuc c) r given = given.is

pub one_more_scaled : (a c : ℤ) (xs : List Fixed) (i : ℕ) (d : Fixed) (sum one next : ℤ) → i < length xs
    → sum ≡ wrap 32 (total (scaled a c) (take i xs)) → IsMulDiv 32 (fixed_bits (get_or xs i d)) a c one
    → next ≡ wrap 32 (sum +ℤ one) → next ≡ wrap 32 (total (scaled a c) (take (i + 1) xs))
one_more_scaled a c xs i d sum one next within so_far by is =
    let kept = scaled_once (get_or xs i d) a c one by in
    let more = running_total 32 (scaled a c) xs i d (lit< tt) within in
    let split = wrap-add_right 32 (wrap 32 (total (scaled a c) (take i xs))) (scaled a c (get_or xs i d)) (lit< tt) in
    is ∙ rw (so_far, kept) (split ∙ more)

-- the sum of products with one factor
times_total : (a : ℤ) (xs : List Fixed) → total (λ x. fixed_bits x *ℤ a) xs ≡ (total fixed_bits xs *ℤ a)
times_total a xs = total-times fixed_bits a xs

pub scaled_close : (a c : ℤ) (xs : List Fixed) → pos 0 <ℤ c
    → 2 * unsigned_abs (total (scaled a c) xs -ℤ rounded_mul_div (total fixed_bits xs) a c) ≤ length xs + 1
scaled_close a (pos zero) xs some = absurd (omega (arith, ints, some))
scaled_close a (pos (suc c)) xs some =
    rw (sym (times_total a xs)) (total-near (λ x. fixed_bits x *ℤ a) (suc c) xs (omega arith))
scaled_close a (negsuc c) xs some = absurd (omega (arith, ints, some))

-- the same of the results of calls
pub scaled_sums_close : (a c : ℤ) (xs : List Fixed) (r sum s : ℤ) → pos 0 <ℤ c → r ≡ wrap 32 (total (scaled a c) xs)
    → sum ≡ wrap 32 (total fixed_bits xs) → IsMulDiv 32 sum a c s → FitsBits 32 (total (scaled a c) xs)
    → FitsBits 32 (total fixed_bits xs) → FitsBits 32 (rounded_mul_div (total fixed_bits xs) a c)
    → 2 * unsigned_abs (r -ℤ s) ≤ length xs + 1
scaled_sums_close a c xs r sum s some first second third fits_r fits_sum fits_s =
    let kept_r : r ≡ total (scaled a c) xs = first ∙ wrap-fits 32 (total (scaled a c) xs) (lit< tt) fits_r in
    let kept_sum : sum ≡ total fixed_bits xs = second ∙ wrap-fits 32 (total fixed_bits xs) (lit< tt) fits_sum in
    let once = mul_div_is sum a c s (λ none. omega (arith, ints, some, none)) third in
    let kept_s : s ≡ rounded_mul_div (total fixed_bits xs) a c =
    once ∙ ap (λ n. wrap 32 (rounded_mul_div n a c)) kept_sum
    ∙ wrap-fits 32 (rounded_mul_div (total fixed_bits xs) a c) (lit< tt) fits_s in
    rw (kept_r, kept_s) (scaled_close a c xs some)
