-- The value on the line through two points of widened 2.14 numbers, `a + (b - a).mul_div(x - p, q - p)`: one formula of
-- the numbers themselves, and its bounds after it is narrowed again.
use Rattle.std.proofs.Common.{◌≡◌, ◌≢◌, ◌∙◌, sym, ap, refl, arith, lit<, ℤ, pos, ◌*◌, ◌+ℤ◌, ◌-ℤ◌, ◌*ℤ◌, ◌≤ℤ◌, ◌<ℤ◌, unsigned_abs}
use Rattle.std.proofs.Common.{w16, w32, SFits}
use Rattle.std.proofs.{lemmas.Int.ints, lemmas.Int.by_lt_z, Math.IntN.*ℤ_comm}
use Rattle.font_base.specs.{Integers.product-times, Wrap.wrap}
use Rattle.font_decimal.specs.Near.{near, up}
use Rattle.font_decimal.proofs.Near.{up_is, up_gives}
use Rattle.font_fixed.specs.Operations.{IsMulDiv, rounded_mul_div}
use Rattle.font_fixed.proofs.{Calls.fits_16, Calls.fits_32, NarrowCalls.quarter_difference}
use Rattle.font_types.proofs.{Parts.near_quarters, Parts.rising_share, Parts.falling_share, Ratios.as_mul_div}

-- a widened share of a widened whole
quarters : (y : ℤ) → unsigned_abs (y *ℤ pos 4) ≡ unsigned_abs y * 4
quarters y = omega (arith, ints)

same_share : (n x y : ℤ) → pos 0 <ℤ y → near (n *ℤ (x *ℤ pos 4)) (unsigned_abs (y *ℤ pos 4)) ≡ rounded_mul_div n x y
same_share n x y some =
    rw (← product-times n x (pos 4), quarters y)
    (near_quarters (n *ℤ x) (unsigned_abs y) (omega (arith, ints, some)) ∙ as_mul_div n x y some)

-- between two 2.14 numbers, nothing wraps
narrowed_between : (a b y : ℤ) → SFits w16 a → SFits w16 b → (a *ℤ pos 4) ≤ℤ y → y ≤ℤ (b *ℤ pos 4)
    → (a ≤ℤ wrap 16 (up y 4)) × (wrap 16 (up y 4) ≤ℤ b)
narrowed_between a b y fits_a fits_b low high =
    let nearest = up_is y 4 (lit< tt) in
    let from : a ≤ℤ up y 4 = omega (arith, ints, nearest.low, nearest.high, low) in
    let to : up y 4 ≤ℤ b = omega (arith, ints, nearest.low, nearest.high, high) in
    let same : wrap 16 (up y 4) ≡ up y 4 = fits_16 (up y 4) (omega (arith, ints, fits_a, fits_b, from, to)) in
    (rw same from, rw same to)

module _ (a b p x q r : ℤ)
    (given : IsMulDiv 32 (wrap 32 ((b *ℤ pos 4) -ℤ (a *ℤ pos 4))) (wrap 32 ((x *ℤ pos 4) -ℤ (p *ℤ pos 4)))
    (wrap 32 ((q *ℤ pos 4) -ℤ (p *ℤ pos 4))) r)
    (fits_a : SFits w16 a) (fits_b : SFits w16 b) (fits_p : SFits w16 p) (fits_x : SFits w16 x) (fits_q : SFits w16 q)
    (from : p ≤ℤ x) (to : x ≤ℤ q) (some : p <ℤ q) where
  share : IsMulDiv 32 ((b -ℤ a) *ℤ pos 4) ((x -ℤ p) *ℤ pos 4) ((q -ℤ p) *ℤ pos 4) r
  share = rw (
    quarter_difference a b fits_a fits_b,
    quarter_difference p x fits_p fits_x,
    quarter_difference p q fits_p fits_q,
  ) at given

  rise_fits : SFits w32 ((b -ℤ a) *ℤ pos 4)
  rise_fits = omega (arith, ints, fits_a, fits_b)

  some_whole : ((q -ℤ p) *ℤ pos 4) ≢ pos 0
  some_whole none = omega (arith, ints, some, none)

  rising : a ≤ℤ b → (r ≡ near (((b -ℤ a) *ℤ pos 4) *ℤ ((x -ℤ p) *ℤ pos 4)) (unsigned_abs ((q -ℤ p) *ℤ pos 4)))
      × (pos 0 ≤ℤ r) × (r ≤ℤ ((b -ℤ a) *ℤ pos 4))
  rising order = rising_share ((b -ℤ a) *ℤ pos 4) ((x -ℤ p) *ℤ pos 4) ((q -ℤ p) *ℤ pos 4) r share rise_fits
      (omega (arith, ints, order)) (omega (arith, ints, from)) (omega (arith, ints, to)) some_whole

  falling : b ≤ℤ a → (r ≡ near (((b -ℤ a) *ℤ pos 4) *ℤ ((x -ℤ p) *ℤ pos 4)) (unsigned_abs ((q -ℤ p) *ℤ pos 4)))
      × (r ≤ℤ pos 0) × (((b -ℤ a) *ℤ pos 4) ≤ℤ r)
  falling order = falling_share ((b -ℤ a) *ℤ pos 4) ((x -ℤ p) *ℤ pos 4) ((q -ℤ p) *ℤ pos 4) r share rise_fits
      (omega (arith, ints, order)) (omega (arith, ints, from)) (omega (arith, ints, to)) some_whole

  falls : b <ℤ a → b ≤ℤ a
  falls less = omega (arith, ints, less)

  part_is : r ≡ rounded_mul_div ((b -ℤ a) *ℤ pos 4) (x -ℤ p) (q -ℤ p)
  part_is = by_lt_z b a (λ less. (falling (falls less)).0) (λ more. (rising more).0)
      ∙ same_share ((b -ℤ a) *ℤ pos 4) (x -ℤ p) (q -ℤ p) (omega (arith, ints, some))

  sum_is : wrap 32 ((a *ℤ pos 4) +ℤ r) ≡ ((a *ℤ pos 4) +ℤ r)
  sum_is = by_lt_z b a
      (λ less. fits_32 ((a *ℤ pos 4) +ℤ r)
      (omega (arith, ints, fits_a, fits_b, (falling (falls less)).1, (falling (falls less)).2)))
      (λ more. fits_32 ((a *ℤ pos 4) +ℤ r) (omega (arith, ints, fits_a, fits_b, (rising more).1, (rising more).2)))

  pub wide_line_is : wrap 32 ((a *ℤ pos 4) +ℤ r)
      ≡ ((a *ℤ pos 4) +ℤ rounded_mul_div ((b -ℤ a) *ℤ pos 4) (x -ℤ p) (q -ℤ p))
  wide_line_is = sum_is ∙ ap (λ n. (a *ℤ pos 4) +ℤ n) part_is

  between : a ≤ℤ b → (a ≤ℤ wrap 16 (up (wrap 32 ((a *ℤ pos 4) +ℤ r)) 4))
      × (wrap 16 (up (wrap 32 ((a *ℤ pos 4) +ℤ r)) 4) ≤ℤ b)
  between order = rw sum_is (narrowed_between a b ((a *ℤ pos 4) +ℤ r) fits_a fits_b
      (omega (arith, ints, (rising order).1)) (omega (arith, ints, (rising order).2)))

  pub wide_line_from : a ≤ℤ b → a ≤ℤ wrap 16 (up (wrap 32 ((a *ℤ pos 4) +ℤ r)) 4)
  wide_line_from order = (between order).0

  pub wide_line_to : a ≤ℤ b → wrap 16 (up (wrap 32 ((a *ℤ pos 4) +ℤ r)) 4) ≤ℤ b
  wide_line_to order = (between order).1

-- ---- a sum of a whole number and of a product of a 2.14 number, which is widened: it is rounded as in 2.14. The goal
-- has the term of the first part.

up_fourth : (n : ℤ) → up (n *ℤ pos 4) 65536 ≡ up n 16384
up_fourth n =
    let nearest = up_is n 16384 (lit< tt) in
    sym (up_gives (n *ℤ pos 4) 65536 (up n 16384) (lit< tt) (record {
      low = omega (arith, ints, nearest.low);
      high = omega (arith, ints, nearest.high);
    }))

pub up_widened : (a t n : ℤ) → (up ((a *ℤ pos 16384) +ℤ (t *ℤ n)) 16384 ≡ up ((a *ℤ pos 16384) +ℤ (t *ℤ n)) 16384)
    × (up ((a *ℤ pos 65536) +ℤ ((t *ℤ pos 4) *ℤ n)) 65536 ≡ up ((a *ℤ pos 16384) +ℤ (t *ℤ n)) 16384)
up_widened a t n =
    let four : ((t *ℤ pos 4) *ℤ n) ≡ ((t *ℤ n) *ℤ pos 4) =
    product-times t (pos 4) n ∙ ap (λ m. t *ℤ m) (*ℤ_comm (pos 4) n) ∙ sym (product-times t n (pos 4)) in
    let same : ((a *ℤ pos 65536) +ℤ ((t *ℤ pos 4) *ℤ n)) ≡ (((a *ℤ pos 16384) +ℤ (t *ℤ n)) *ℤ pos 4) =
    omega (arith, ints, four) in
    (refl, ap (λ m. up m 65536) same ∙ up_fourth ((a *ℤ pos 16384) +ℤ (t *ℤ n)))

pub ruleset line_calls = (wide_line_is, wide_line_from, wide_line_to, up_widened)
