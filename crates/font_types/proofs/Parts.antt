-- Products of `Fixed` by a part of a whole, a number from 0 to 1, numbers between two others, and products by a widened
-- 2.14 factor.
use Rattle.std.proofs.Common.{◌≡◌, ◌≢◌, ◌∙◌, sym, ap, refl, lit<, arith, ℕ, zero, suc, ℤ, pos, negsuc, ◌*◌}
use Rattle.std.proofs.Common.{◌<◌, neg_ℤ, ◌+ℤ◌, ◌-ℤ◌, ◌*ℤ◌, ◌≤ℤ◌, ◌<ℤ◌, unsigned_abs, w16, w32, SFits}
use Rattle.std.proofs.lemmas.Grind.{common_steps}
use Rattle.std.proofs.{lemmas.Int.ints, Math.IntN.*ℤ_comm, Math.Nat.mul_assoc, lemmas.Bool.Decides.nat_tests}
use Rattle.font_base.specs.Wrap.Laws.{wrap-add_left, wrap-add_right, wrap-fits}
use Rattle.font_base.specs.{Integers.product-times, Wrap.wrap, Wrap.FitsBits}
use Rattle.font_decimal.specs.Near.{Near, near}
use Rattle.font_decimal.proofs.{Integers.times_monotone, Near.near_is, Near.near_gives, Near.near_monotone}
use Rattle.font_fixed.proofs.{Calls.fits_32, NumberLaws.near_exact}
use Rattle.font_fixed.specs.Operations.{IsMulDiv}

-- a product by a number from 0 to m lies between 0 and m times the other number
rises : (x y : ℤ) (m : ℕ) → pos 0 ≤ℤ x → pos 0 ≤ℤ y → y ≤ℤ pos m → (pos 0 ≤ℤ (x *ℤ y)) × ((x *ℤ y) ≤ℤ (x *ℤ pos m))
rises x y m from_x from to = grind (arith, common_steps)

falls : (x y : ℤ) (m : ℕ) → x ≤ℤ pos 0 → pos 0 ≤ℤ y → y ≤ℤ pos m → ((x *ℤ y) ≤ℤ pos 0) × ((x *ℤ pos m) ≤ℤ (x *ℤ y))
falls x y m to_x from to = grind (arith, common_steps)

-- rules: stated of the term of `*`, because a rule's conclusion has to show all its variables
module _ (x y : ℤ) (fits : SFits w32 x) (from : pos 0 ≤ℤ y) (to : y ≤ℤ pos 65536) where
  nearest : Near (x *ℤ y) 65536 (near (x *ℤ y) 65536)
  nearest = near_is (x *ℤ y) 65536 (lit< tt)

  not_negative : pos 0 ≤ℤ x → pos 0 ≤ℤ near (x *ℤ y) 65536
  not_negative from_x = grind (arith, near_monotone, near_exact, nearest, rises)

  at_most : pos 0 ≤ℤ x → near (x *ℤ y) 65536 ≤ℤ x
  at_most from_x = near_monotone (lit< tt) (lit< tt) nearest (near_exact x 65536 (lit< tt))
      (omega (arith, ints, (rises x y 65536 from_x from to).1))

  not_positive : x ≤ℤ pos 0 → near (x *ℤ y) 65536 ≤ℤ pos 0
  not_positive to_x = grind (arith, near_monotone, nearest, near_exact, falls)

  at_least : x ≤ℤ pos 0 → x ≤ℤ near (x *ℤ y) 65536
  at_least to_x = near_monotone (lit< tt) (lit< tt) (near_exact x 65536 (lit< tt)) nearest
      (omega (arith, ints, (falls x y 65536 to_x from to).1))

  kept_up : pos 0 ≤ℤ x → wrap 32 (near (x *ℤ y) 65536) ≡ near (x *ℤ y) 65536
  kept_up from_x = fits_32 (near (x *ℤ y) 65536) (omega (arith, ints, fits, not_negative from_x, at_most from_x))

  kept_down : x ≤ℤ pos 0 → wrap 32 (near (x *ℤ y) 65536) ≡ near (x *ℤ y) 65536
  kept_down to_x = fits_32 (near (x *ℤ y) 65536) (omega (arith, ints, fits, at_least to_x, not_positive to_x))

  -- the product of a number by a part lies between 0 and the number
  pub product_by_part_is_not_negative : pos 0 ≤ℤ x → pos 0 ≤ℤ wrap 32 (near (x *ℤ y) 65536)
  product_by_part_is_not_negative from_x = rw (kept_up from_x) (not_negative from_x)

  pub product_by_part_is_at_most : pos 0 ≤ℤ x → wrap 32 (near (x *ℤ y) 65536) ≤ℤ x
  product_by_part_is_at_most from_x = rw (kept_up from_x) (at_most from_x)

  pub product_by_part_is_not_positive : x ≤ℤ pos 0 → wrap 32 (near (x *ℤ y) 65536) ≤ℤ pos 0
  product_by_part_is_not_positive to_x = rw (kept_down to_x) (not_positive to_x)

  pub product_by_part_is_at_least : x ≤ℤ pos 0 → x ≤ℤ wrap 32 (near (x *ℤ y) 65536)
  product_by_part_is_at_least to_x = rw (kept_down to_x) (at_least to_x)

  -- and that of two parts between 0 and 1
  pub product_of_parts_is_at_most_one : pos 0 ≤ℤ x → x ≤ℤ pos 65536 → wrap 32 (near (x *ℤ y) 65536) ≤ℤ pos 65536
  product_of_parts_is_at_most_one from_x to_x = omega (arith, ints, product_by_part_is_at_most from_x, to_x)

-- the product of a number by a part does not overflow
pub product_by_part_is_exact : (x y : ℤ) → SFits w32 x → pos 0 ≤ℤ y → y ≤ℤ pos 65536
    → wrap 32 (near (x *ℤ y) 65536) ≡ near (x *ℤ y) 65536
product_by_part_is_exact (pos n) y fits from to = kept_up (pos n) y fits from to (omega (arith, ints))
product_by_part_is_exact (negsuc n) y fits from to = kept_down (negsuc n) y fits from to (omega (arith, ints))

pub part_by_product_is_exact : (x y : ℤ) → SFits w32 x → pos 0 ≤ℤ y → y ≤ℤ pos 65536
    → wrap 32 (near (y *ℤ x) 65536) ≡ near (y *ℤ x) 65536
part_by_product_is_exact x y fits from to = rw (*ℤ_comm y x) (product_by_part_is_exact x y fits from to)

-- the same with the part first
module _ (x y : ℤ) (fits : SFits w32 x) (from : pos 0 ≤ℤ y) (to : y ≤ℤ pos 65536) where
  pub part_by_product_is_not_negative : pos 0 ≤ℤ x → pos 0 ≤ℤ wrap 32 (near (y *ℤ x) 65536)
  part_by_product_is_not_negative from_x = rw (*ℤ_comm y x) (product_by_part_is_not_negative x y fits from to from_x)

  pub part_by_product_is_at_most : pos 0 ≤ℤ x → wrap 32 (near (y *ℤ x) 65536) ≤ℤ x
  part_by_product_is_at_most from_x = rw (*ℤ_comm y x) (product_by_part_is_at_most x y fits from to from_x)

  pub part_by_product_is_not_positive : x ≤ℤ pos 0 → wrap 32 (near (y *ℤ x) 65536) ≤ℤ pos 0
  part_by_product_is_not_positive to_x = rw (*ℤ_comm y x) (product_by_part_is_not_positive x y fits from to to_x)

  pub part_by_product_is_at_least : x ≤ℤ pos 0 → x ≤ℤ wrap 32 (near (y *ℤ x) 65536)
  part_by_product_is_at_least to_x = rw (*ℤ_comm y x) (product_by_part_is_at_least x y fits from to to_x)

-- a number from 0 to 1 that was widened from 2.14 is one in 16.16
pub widened_is_not_negative : (t : ℤ) → pos 0 ≤ℤ t → pos 0 ≤ℤ (t *ℤ pos 4)
widened_is_not_negative t from = omega (arith, ints, from)

pub widened_is_at_most_one : (t : ℤ) → t ≤ℤ pos 16384 → (t *ℤ pos 4) ≤ℤ pos 65536
widened_is_at_most_one t to = omega (arith, ints, to)

-- `mul_div` by a part and its whole, of a number that is not negative, and of one that is not positive
pub rising_share : (x a c r : ℤ) → IsMulDiv 32 x a c r → SFits w32 x → pos 0 ≤ℤ x → pos 0 ≤ℤ a → a ≤ℤ c → c ≢ pos 0
    → (r ≡ near (x *ℤ a) (unsigned_abs c)) × (pos 0 ≤ℤ r) × (r ≤ℤ x)
rising_share x a (pos zero) r given fits from_x from to some = absurd (some refl)
rising_share x a (negsuc d) r given fits from_x from to some = absurd (omega (arith, ints, from, to))
rising_share x a (pos (suc d)) r given fits from_x from to some =
    let up = rises x a (suc d) from_x from to in
    let share : ℤ = near (x *ℤ a) (suc d) in
    let nearest = near_is (x *ℤ a) (suc d) (omega arith) in
    let low : pos 0 ≤ℤ share = near_monotone (omega arith) (omega arith) (near_exact (pos 0) (suc d) (omega arith))
    nearest
    (omega (arith, ints, times_monotone (pos 0) (x *ℤ a) (suc d) up.0)) in
    let high : share ≤ℤ x = near_monotone (omega arith) (omega arith) nearest (near_exact x (suc d) (omega arith))
    (times_monotone (x *ℤ a) (x *ℤ pos (suc d)) (suc d) up.1) in
    let is : r ≡ share = given.is ∙ fits_32 share (omega (arith, ints, fits, low, high)) in
    (is, rw is low, rw is high)

pub falling_share : (x a c r : ℤ) → IsMulDiv 32 x a c r → SFits w32 x → x ≤ℤ pos 0 → pos 0 ≤ℤ a → a ≤ℤ c → c ≢ pos 0
    → (r ≡ near (x *ℤ a) (unsigned_abs c)) × (r ≤ℤ pos 0) × (x ≤ℤ r)
falling_share x a (pos zero) r given fits to_x from to some = absurd (some refl)
falling_share x a (negsuc d) r given fits to_x from to some = absurd (omega (arith, ints, from, to))
falling_share x a (pos (suc d)) r given fits to_x from to some =
    let down = falls x a (suc d) to_x from to in
    let share : ℤ = near (x *ℤ a) (suc d) in
    let nearest = near_is (x *ℤ a) (suc d) (omega arith) in
    let high : share ≤ℤ pos 0 = near_monotone (omega arith) (omega arith) nearest
    (near_exact (pos 0) (suc d) (omega arith))
    (omega (arith, ints, times_monotone (x *ℤ a) (pos 0) (suc d) down.0)) in
    let low : x ≤ℤ share = near_monotone (omega arith) (omega arith) (near_exact x (suc d) (omega arith)) nearest
    (times_monotone (x *ℤ pos (suc d)) (x *ℤ a) (suc d) down.1) in
    let is : r ≡ share = given.is ∙ fits_32 share (omega (arith, ints, fits, low, high)) in
    (is, rw is high, rw is low)

module _ (x a c r : ℤ) (given : IsMulDiv 32 x a c r) (fits : SFits w32 x) where
  pub mul_div_is_not_positive : x ≤ℤ pos 0 → pos 0 ≤ℤ a → a ≤ℤ c → c ≢ pos 0 → r ≤ℤ pos 0
  mul_div_is_not_positive to_x from to some = (falling_share x a c r given fits to_x from to some).1

  pub mul_div_is_at_least : x ≤ℤ pos 0 → pos 0 ≤ℤ a → a ≤ℤ c → c ≢ pos 0 → x ≤ℤ r
  mul_div_is_at_least to_x from to some = (falling_share x a c r given fits to_x from to some).2

pub ruleset part_calls = (
  mul_div_is_not_positive,
  mul_div_is_at_least,
  product_by_part_is_not_negative,
  product_by_part_is_at_most,
  product_by_part_is_not_positive,
  product_by_part_is_at_least,
  part_by_product_is_not_negative,
  part_by_product_is_at_most,
  part_by_product_is_not_positive,
  part_by_product_is_at_least,
  product_of_parts_is_at_most_one,
  product_by_part_is_exact,
  part_by_product_is_exact,
  widened_is_not_negative,
  widened_is_at_most_one,
)

-- ---- a product of an integer, as of font units, and a number: it is exact, and fits for 16 bits and a part

times_moved : (a y : ℤ) → ((a *ℤ pos 65536) *ℤ y) ≡ ((a *ℤ y) *ℤ pos 65536)
times_moved a y = product-times a (pos 65536) y ∙ ap (λ z. a *ℤ z) (*ℤ_comm (pos 65536) y)
    ∙ sym (product-times a y (pos 65536))

pub units_by_number : (a y : ℤ) → near ((a *ℤ pos 65536) *ℤ y) 65536 ≡ (a *ℤ y)
units_by_number a y = ap (λ n. near n 65536) (times_moved a y)
    ∙ sym (near_gives ((a *ℤ y) *ℤ pos 65536) 65536 (a *ℤ y) (lit< tt) (near_exact (a *ℤ y) 65536 (lit< tt)))

pub number_by_units : (a y : ℤ) → near (y *ℤ (a *ℤ pos 65536)) 65536 ≡ (a *ℤ y)
number_by_units a y = ap (λ n. near n 65536) (*ℤ_comm y (a *ℤ pos 65536)) ∙ units_by_number a y

units_by_part_within : (a y : ℤ) → SFits w16 a → pos 0 ≤ℤ y → y ≤ℤ pos 65536
    → (neg_ℤ (pos 2147483648) ≤ℤ (a *ℤ y)) × ((a *ℤ y) ≤ℤ pos 2147418112)
units_by_part_within a y fits from to = grind (arith, common_steps)

units_by_part_fit : (a y : ℤ) → SFits w16 a → pos 0 ≤ℤ y → y ≤ℤ pos 65536 → SFits w32 (a *ℤ y)
units_by_part_fit a y fits from to = grind (arith, ints)

module _ (a y : ℤ) (fits : SFits w16 a) (from : pos 0 ≤ℤ y) (to : y ≤ℤ pos 65536) where
  pub units_by_part_is_at_most : (m : ℤ) → pos 2147418112 ≤ℤ m → (a *ℤ y) ≤ℤ m
  units_by_part_is_at_most m room = omega (arith, ints, room, (units_by_part_within a y fits from to).1)

  pub units_by_part_is_at_least : (m : ℤ) → m ≤ℤ neg_ℤ (pos 2147483648) → m ≤ℤ (a *ℤ y)
  units_by_part_is_at_least m room = omega (arith, ints, room, (units_by_part_within a y fits from to).0)

  pub units_by_part_is_exact : wrap 32 (near ((a *ℤ pos 65536) *ℤ y) 65536) ≡ (a *ℤ y)
  units_by_part_is_exact = rw (units_by_number a y) (fits_32 (a *ℤ y) (units_by_part_fit a y fits from to))

  pub part_by_units_is_exact : wrap 32 (near (y *ℤ (a *ℤ pos 65536)) 65536) ≡ (a *ℤ y)
  part_by_units_is_exact = rw (*ℤ_comm y (a *ℤ pos 65536)) units_by_part_is_exact

pub ruleset unit_calls = (
  units_by_number,
  number_by_units,
  units_by_part_is_at_most,
  units_by_part_is_at_least,
  units_by_part_is_exact,
  part_by_units_is_exact,
)

-- ---- `a + (b - a) * t`, for a part t: it lies between a and b if their difference fits

module _ (a b r : ℤ) (fits_a : SFits w32 a) (fits_b : SFits w32 b) where
  sum_up : (pos 0 ≤ℤ r) × (r ≤ℤ (b -ℤ a)) → (a ≤ℤ wrap 32 (a +ℤ r)) × (wrap 32 (a +ℤ r) ≤ℤ b)
  sum_up share = grind (arith, fits_32)

  sum_down : (r ≤ℤ pos 0) × ((b -ℤ a) ≤ℤ r) → (b ≤ℤ wrap 32 (a +ℤ r)) × (wrap 32 (a +ℤ r) ≤ℤ a)
  sum_down share = grind (arith, nat_tests, fits_32)

module _ (a b t : ℤ) (fits_a : SFits w32 a) (fits_b : SFits w32 b) (fits : FitsBits 32 (b -ℤ a))
    (from : pos 0 ≤ℤ t) (to : t ≤ℤ pos 65536) where
  abbrev rise : ℤ
  rise = wrap 32 (near (wrap 32 (b -ℤ a) *ℤ t) 65536)

  exact : wrap 32 (b -ℤ a) ≡ (b -ℤ a)
  exact = wrap-fits 32 (b -ℤ a) (lit< tt) fits

  difference_fits : SFits w32 (b -ℤ a)
  difference_fits = omega (arith, ints, fits.low, fits.high)

  upward : a ≤ℤ b → (pos 0 ≤ℤ rise) × (rise ≤ℤ (b -ℤ a))
  upward order = grind (arith, exact, product_by_part_is_not_negative, difference_fits, product_by_part_is_at_most)

  downward : b ≤ℤ a → (rise ≤ℤ pos 0) × ((b -ℤ a) ≤ℤ rise)
  downward order = grind (arith, exact, product_by_part_is_not_positive, difference_fits, product_by_part_is_at_least)

  pub between_from_low : a ≤ℤ b → a ≤ℤ wrap 32 (a +ℤ wrap 32 (near (wrap 32 (b -ℤ a) *ℤ t) 65536))
  between_from_low order = (sum_up a b rise fits_a fits_b (upward order)).0

  pub between_to_high : a ≤ℤ b → wrap 32 (a +ℤ wrap 32 (near (wrap 32 (b -ℤ a) *ℤ t) 65536)) ≤ℤ b
  between_to_high order = (sum_up a b rise fits_a fits_b (upward order)).1

  pub between_to_low : b ≤ℤ a → b ≤ℤ wrap 32 (a +ℤ wrap 32 (near (wrap 32 (b -ℤ a) *ℤ t) 65536))
  between_to_low order = (sum_down a b rise fits_a fits_b (downward order)).0

  pub between_from_high : b ≤ℤ a → wrap 32 (a +ℤ wrap 32 (near (wrap 32 (b -ℤ a) *ℤ t) 65536)) ≤ℤ a
  between_from_high order = (sum_down a b rise fits_a fits_b (downward order)).1

  -- the same with the part first
  abbrev flipped : wrap 32 (near (t *ℤ wrap 32 (b -ℤ a)) 65536) ≡ rise
  flipped = ap (λ n. wrap 32 (near n 65536)) (*ℤ_comm t (wrap 32 (b -ℤ a)))

  pub part_between_from_low : a ≤ℤ b → a ≤ℤ wrap 32 (a +ℤ wrap 32 (near (t *ℤ wrap 32 (b -ℤ a)) 65536))
  part_between_from_low order = rw flipped (between_from_low order)

  pub part_between_to_high : a ≤ℤ b → wrap 32 (a +ℤ wrap 32 (near (t *ℤ wrap 32 (b -ℤ a)) 65536)) ≤ℤ b
  part_between_to_high order = rw flipped (between_to_high order)

  pub part_between_to_low : b ≤ℤ a → b ≤ℤ wrap 32 (a +ℤ wrap 32 (near (t *ℤ wrap 32 (b -ℤ a)) 65536))
  part_between_to_low order = rw flipped (between_to_low order)

  pub part_between_from_high : b ≤ℤ a → wrap 32 (a +ℤ wrap 32 (near (t *ℤ wrap 32 (b -ℤ a)) 65536)) ≤ℤ a
  part_between_from_high order = rw flipped (between_from_high order)

pub ruleset between_calls = (
  between_from_low,
  between_to_high,
  between_to_low,
  between_from_high,
  part_between_from_low,
  part_between_to_high,
  part_between_to_low,
  part_between_from_high,
)

-- ---- a 2.14 factor that was widened: the product is rounded as by the factor itself

near_fourth : (n : ℤ) → near (n *ℤ pos 4) 65536 ≡ near n 16384
near_fourth n =
    let h = near_is n 16384 (lit< tt) in
    sym (near_gives (n *ℤ pos 4) 65536 (near n 16384) (lit< tt) (record {
      close = omega (arith, ints, h.close);
      away = λ tie. omega (arith, ints, h.away (omega (arith, ints, tie)));
    }))

pub near_by_widened : (x t : ℤ) → near (x *ℤ (t *ℤ pos 4)) 65536 ≡ near (x *ℤ t) 16384
near_by_widened x t = ap (λ n. near n 65536) (sym (product-times x t (pos 4))) ∙ near_fourth (x *ℤ t)

pub near_of_widened : (x t : ℤ) → near ((t *ℤ pos 4) *ℤ x) 65536 ≡ near (t *ℤ x) 16384
near_of_widened x t = grind (arith, *ℤ_comm, near_by_widened)

-- ---- a quotient of two differences that were widened from 2.14: it is rounded as that of the differences themselves

pub near_quarters : (n : ℤ) (d : ℕ) → 0 < d → near (n *ℤ pos 4) (d * 4) ≡ near n d
near_quarters n d some =
    let h = near_is n d some in
    let four = product-times (near n d) (pos d) (pos 4) in
    let away = mul_assoc (unsigned_abs (near n d)) d 4 in
    sym (near_gives (n *ℤ pos 4) (d * 4) (near n d) (omega (arith, some)) (record {
      close = rw (← four) (omega (arith, ints, h.close));
      away = λ tie. omega (arith, ints, away, h.away (omega (arith, ints, four, tie)));
    }))

pub quotient_of_widened : (a b r : ℤ) → pos 0 <ℤ b → IsMulDiv 32 (a *ℤ pos 4) (pos 65536) (b *ℤ pos 4) r
    → IsMulDiv 32 a (pos 65536) b r
quotient_of_widened a (pos zero) r some given = absurd (omega (arith, ints, some))
quotient_of_widened a (negsuc d) r some given = absurd (omega (arith, ints, some))
quotient_of_widened a (pos (suc d)) r some given =
    grind (arith, near_quarters (a *ℤ pos 65536) (suc d) (omega arith), near_is (a *ℤ pos 65536) (suc d) (omega arith))

-- ---- a wrapped number as a part of a sum that wraps

pub wrapped_left_32 : (a b : ℤ) → wrap 32 (wrap 32 a +ℤ b) ≡ wrap 32 (a +ℤ b)
wrapped_left_32 a b = wrap-add_left 32 a b (lit< tt)

pub wrapped_right_32 : (a b : ℤ) → wrap 32 (a +ℤ wrap 32 b) ≡ wrap 32 (a +ℤ b)
wrapped_right_32 a b = wrap-add_right 32 a b (lit< tt)

pub wrapped_left_64 : (a b : ℤ) → wrap 64 (wrap 64 a +ℤ b) ≡ wrap 64 (a +ℤ b)
wrapped_left_64 a b = wrap-add_left 64 a b (lit< tt)

pub wrapped_right_64 : (a b : ℤ) → wrap 64 (a +ℤ wrap 64 b) ≡ wrap 64 (a +ℤ b)
wrapped_right_64 a b = wrap-add_right 64 a b (lit< tt)

-- a number that fits
pub fits_given : (z : ℤ) → FitsBits 32 z → wrap 32 z ≡ z
fits_given z fits = wrap-fits 32 z (lit< tt) fits

pub ruleset lerp_calls = (
  fits_given,
  near_by_widened,
  near_of_widened,
  quotient_of_widened,
  wrapped_left_32,
  wrapped_right_32,
)

pub ruleset wide_lerp_calls = (wrapped_left_64, wrapped_right_64)
