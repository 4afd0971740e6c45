-- How far rounded scalars, their products and their sums are off the exact ones.
use Rattle.std.proofs.Common.{◌≡◌, ◌∙◌, refl, ap, lit<, ℕ, suc, ◌+◌, ◌*◌, ◌≤◌, ◌<◌, Bool, true, false, ℤ, pos, negsuc}
use Rattle.std.proofs.Common.{◌+ℤ◌, ◌-ℤ◌, ◌*ℤ◌, ◌≤ℤ◌, ◌<ℤ◌, unsigned_abs, int_lt, int_le, arith, mul-le-mul_right}
use Rattle.std.proofs.Common.{⊎_elim, inl, inr, if◌then◌else◌, ◌||◌}
use Rattle.std.proofs.lemmas.Int.{ints, by_lt_z}
use Rattle.std.proofs.lemmas.Bool.Decides.{not_from_Decides, nat_tests}
use Rattle.std.specs.Ordering.{int_eq}
use borrow.Author.Differences.{up as above, down as below, sum_is_lem, product_is}
use Rattle.font_types.specs.{Operations.IsMulDiv, Operations.IsWrappedNear, Wrap.FitsBits, Near.Near, Near.up}
use Rattle.font_types.proofs.Callers.{near_monotone, wrap-fits}
use Rattle.variations.specs.Variations.{Fraction, whole, part_of, times, plus, IsOffBy, IsScalarAfter, is_ignored_axis}
use Rattle.variations.specs.Variations.{exact_axis_scalar}
use Rattle.variations.proofs.Scalars.{less, at_one, off}

-- a raw value from 0 to 65536, off a fraction from 0 to 1
pub record IsPartOff (halves : ℕ) (raw : ℤ) (exact : Fraction) : Type 0 where
  pub bits : ℕ
  pub is_bits : raw ≡ pos bits
  pub to : bits ≤ 65536
  pub part : ℕ
  pub is_part : exact.numerator ≡ pos part
  pub part_to : part ≤ exact.denominator
  pub some : 0 < exact.denominator
  pub close : 2 * unsigned_abs (pos bits *ℤ pos exact.denominator -ℤ pos part *ℤ pos 65536)
      ≤ halves * exact.denominator

pub off_by : (k : ℕ) (raw : ℤ) (x : Fraction) → IsPartOff k raw x → IsOffBy k raw x
off_by k raw x off = record { some = off.some; close = rw (off.is_bits, off.is_part) off.close }

-- ---- one more axis

product_some : (d e : ℕ) → 0 < d → 0 < e → 0 < d * e
product_some d e d_some e_some = grind arith

product_to : (a b c d : ℕ) → a ≤ b → c ≤ d → a * c ≤ b * d
product_to a b c d first second = omega (arith, mul-le-mul_right c first, mul-le-mul_right b second)

-- what a bound on a distance says of each side
sides : (a b c : ℕ) → 2 * unsigned_abs (pos a -ℤ pos b) ≤ c → (2 * a ≤ 2 * b + c) × (2 * b ≤ 2 * a + c)
sides a b c close = (omega (arith, ints, close), omega (arith, ints, close))

pub one_off : IsPartOff 0 (pos 65536) (whole (pos 1))
one_off = record {
  bits = 65536;
  is_bits = refl;
  to = omega arith;
  part = 1;
  is_part = refl;
  part_to = omega arith;
  some = omega arith;
  close = omega (arith, ints);
}

-- a scalar s is off n / q by k halves, and r is s * a / d, rounded
module _ (k s a r n q d : ℕ) (to : a ≤ d) (rounded : 2 * unsigned_abs (pos r *ℤ pos d -ℤ pos s *ℤ pos a) ≤ d)
    (so_far : 2 * unsigned_abs (pos s *ℤ pos q -ℤ pos n *ℤ pos 65536) ≤ k * q) where
  share_error : 2 * unsigned_abs (pos r *ℤ pos (q * d) -ℤ pos (n * a) *ℤ pos 65536) ≤ (k + 1) * (q * d)
  share_error =
      let last = sides (r * d) (s * a) d rounded in
      let before = sides (s * q) (n * 65536) (k * q) so_far in
      omega (
        arith,
        ints,
        mul-le-mul_right q last.0,
        mul-le-mul_right q last.1,
        mul-le-mul_right a before.0,
        mul-le-mul_right a before.1,
        mul-le-mul_right (k * q) to,
      )

-- a scalar times a part of a way, rounded
module _ (s a d : ℕ) (raw : ℤ) (s_to : s ≤ 65536) (to : a ≤ suc d)
    (given : IsWrappedNear 32 (pos s *ℤ pos a) (suc d) raw) where
  d_some : 0 < suc d
  d_some = omega arith

  exact_at : (q : ℤ) → Near (q *ℤ pos (suc d)) (suc d) q
  exact_at q = omega (arith, ints)

  share_from : pos 0 ≤ℤ given.rounded
  share_from = near_monotone d_some d_some (exact_at (pos 0)) given.nearest (omega (arith, ints))

  widest : s * a * suc d ≤ 65536 * suc d * suc d
  widest = mul-le-mul_right (suc d) (product_to s 65536 a (suc d) s_to to)

  share_to : given.rounded ≤ℤ pos 65536
  share_to = near_monotone d_some d_some given.nearest (exact_at (pos 65536)) (omega (arith, ints, widest))

  share_fits : FitsBits 32 given.rounded
  share_fits = record { low = omega (arith, ints, share_from); high = omega (arith, ints, share_to) }

  share_is : raw ≡ given.rounded
  share_is = given.wrapped ∙ wrap-fits 32 given.rounded (lit< tt) share_fits

-- one more axis, along which the exact scalar is another fraction
module _ (k : ℕ) (before : ℤ) (x : Fraction) (so_far : IsPartOff k before x) where
  kept : IsPartOff (k + 1) before (times x (whole (pos 1)))
  kept = grind arith

  none : IsPartOff (k + 1) (pos 0) (times x (whole (pos 0)))
  none = grind arith

  share_at : (a d : ℕ) (raw r : ℤ) → raw ≡ r → a ≤ suc d → pos 0 ≤ℤ r → r ≤ℤ pos 65536
      → 2 * unsigned_abs (r *ℤ pos (suc d) -ℤ pos so_far.bits *ℤ pos a) ≤ suc d
      → IsPartOff (k + 1) raw (times x (part_of (pos a) (pos (suc d))))
  share_at a d raw (pos r) is to low high rounded = record {
    bits = r;
    is_bits = is;
    to = omega (arith, ints, high);
    part = so_far.part * a;
    is_part = ap (λ n. n *ℤ pos a) so_far.is_part;
    part_to = product_to so_far.part x.denominator a (suc d) so_far.part_to to;
    some = product_some x.denominator (suc d) so_far.some (omega arith);
    close = share_error k so_far.bits a r so_far.part x.denominator (suc d) to rounded so_far.close;
  }
  share_at a d raw (negsuc r) is to low high rounded = absurd (omega (arith, ints, low))

  share_off : (a d : ℕ) (raw : ℤ) → a ≤ suc d → IsWrappedNear 32 (pos so_far.bits *ℤ pos a) (suc d) raw
      → IsPartOff (k + 1) raw (times x (part_of (pos a) (pos (suc d))))
  share_off a d raw to given = share_at a d raw given.rounded (share_is so_far.bits a d raw so_far.to to given) to
      (share_from so_far.bits a d raw so_far.to to given) (share_to so_far.bits a d raw so_far.to to given)
      given.nearest.close

  part_off : (part way raw : ℤ) → pos 0 ≤ℤ part → part ≤ℤ way → pos 0 <ℤ way → IsMulDiv 32 before part way raw
      → IsPartOff (k + 1) raw (times x (part_of part way))
  part_off part way raw from to some given = grind (arith, share_off)

  module _ (start peak end coordinate raw : ℤ) (given : IsScalarAfter start peak end coordinate before raw) where
    by : (one outside rising : Bool) → (is_ignored_axis start peak end || int_eq coordinate peak) ≡ one
        → (int_le coordinate start || int_le end coordinate) ≡ outside → int_lt coordinate peak ≡ rising
        → IsPartOff (k + 1) raw (times x (if one then whole (pos 1) else (if outside then whole (pos 0)
        else (if rising then part_of (coordinate -ℤ start) (peak -ℤ start)
        else part_of (end -ℤ coordinate) (end -ℤ peak)))))
    by true outside rising one _ _ =
        rw (⊎_elim given.ignored given.at_peak ((at_one start peak end coordinate).0 one)) kept
    by false true rising one outside _ =
        let away = not_from_Decides _ (at_one start peak end coordinate) one in
        rw (given.outside (λ i. away (inl i)) (λ e. away (inr e)) ((off start peak end coordinate).0 outside)) none
    by false false true one outside up_to =
        let away = not_from_Decides _ (at_one start peak end coordinate) one in
        let inside = not_from_Decides _ (off start peak end coordinate) outside in
        let before : coordinate <ℤ peak = (less coordinate peak).0 up_to in
        let after : start <ℤ coordinate = by_lt_z start coordinate (λ h. h) (λ h. absurd (inside (inl h))) in
        part_off (coordinate -ℤ start) (peak -ℤ start) raw (omega (arith, ints, after)) (omega (arith, ints, before))
        (omega (arith, ints, after, before)) (given.rising (λ i. away (inl i)) after before)
    by false false false one outside up_to = grind (arith, nat_tests, ints, off start peak end coordinate, part_off)

    pub next_axis_off : IsPartOff (k + 1) raw (times x (exact_axis_scalar start peak end coordinate))
    unfolding exact_axis_scalar
    next_axis_off = by _ _ _ refl refl refl

-- ---- sums

signed_sides : (d b : ℕ) (v n : ℤ) → 2 * unsigned_abs (v *ℤ pos d -ℤ n *ℤ pos 65536) ≤ b
    → (2 * (above v * d + below n * 65536) ≤ 2 * (below v * d + above n * 65536) + b)
    × (2 * (below v * d + above n * 65536) ≤ 2 * (above v * d + below n * 65536) + b)
signed_sides d b v n close = (omega (arith, ints, close), omega (arith, ints, close))

sum_error : (k m d e : ℕ) (v w n o : ℤ) → 2 * unsigned_abs (v *ℤ pos d -ℤ n *ℤ pos 65536) ≤ k * d
    → 2 * unsigned_abs (w *ℤ pos e -ℤ o *ℤ pos 65536) ≤ m * e
    → 2 * unsigned_abs ((v +ℤ w) *ℤ pos (d * e) -ℤ (n *ℤ pos e +ℤ o *ℤ pos d) *ℤ pos 65536) ≤ (k + m) * (d * e)
sum_error k m d e v w n o first_close second_close =
    let first = signed_sides d (k * d) v n first_close in
    let second = signed_sides e (m * e) w o second_close in
    omega (
      arith,
      ints,
      ap (λ z. z * (d * e)) (sum_is_lem v w),
      mul-le-mul_right e first.0,
      mul-le-mul_right e first.1,
      mul-le-mul_right d second.0,
      mul-le-mul_right d second.1,
    )

pub plus_off : (k m : ℕ) (v w : ℤ) (x y : Fraction) → IsOffBy k v x → IsOffBy m w y
    → IsOffBy (k + m) (v +ℤ w) (plus x y)
plus_off k m v w x y first second = grind (arith, sum_error)

scaled_error : (k s p e : ℕ) (delta : ℤ) → 2 * unsigned_abs (pos s *ℤ pos e -ℤ pos p *ℤ pos 65536) ≤ k * e
    → 2 * unsigned_abs ((pos s *ℤ delta) *ℤ pos e -ℤ (pos p *ℤ delta) *ℤ pos 65536) ≤ k * unsigned_abs delta * e
scaled_error k s p e (pos delta) close =
    let scalar = sides (s * e) (p * 65536) (k * e) close in
    omega (arith, ints, mul-le-mul_right delta scalar.0, mul-le-mul_right delta scalar.1)
scaled_error k s p e (negsuc delta) close =
    let scalar = sides (s * e) (p * 65536) (k * e) close in
    omega (
      arith,
      ints,
      mul-le-mul_right (suc delta) scalar.0,
      mul-le-mul_right (suc delta) scalar.1,
      ap (λ z. z * e) (product_is (pos s) (negsuc delta)).0,
      ap (λ z. z * e) (product_is (pos s) (negsuc delta)).1,
    )

pub scaled_off : (k : ℕ) (s delta : ℤ) (x : Fraction) → IsPartOff k s x
    → IsOffBy (k * unsigned_abs delta) (s *ℤ delta) (times x (whole delta))
scaled_off k s delta x off = grind (arith, scaled_error)

pub whole_off : (n : ℤ) → IsOffBy 0 (n *ℤ pos 65536) (whole n)
whole_off n = record { some = lit< tt; close = omega (arith, ints) }

-- ---- rounding to a whole number

half_up_error : (z : ℤ) → 2 * unsigned_abs (up z 65536 *ℤ pos 65536 -ℤ z) ≤ 65536
unfolding up
half_up_error z = grind arith

module _ (k d : ℕ) (z n w : ℤ) (rounded : 2 * unsigned_abs (w -ℤ z) ≤ 65536)
    (off : 2 * unsigned_abs (z *ℤ pos d -ℤ n *ℤ pos 65536) ≤ k * d) where
  w_high : 2 * (above w + below z) ≤ 2 * (below w + above z) + 65536
  w_high = omega (arith, ints, rounded)

  w_low : 2 * (below w + above z) ≤ 2 * (above w + below z) + 65536
  w_low = omega (arith, ints, rounded)

  rounded_error : 2 * unsigned_abs (w *ℤ pos d -ℤ n *ℤ pos 65536) ≤ (65536 + k) * d
  rounded_error = omega (arith, ints, off, mul-le-mul_right d w_high, mul-le-mul_right d w_low)

pub rounded_off : (k : ℕ) (z : ℤ) (x : Fraction) → IsOffBy k z x → IsOffBy (65536 + k) (up z 65536 *ℤ pos 65536) x
rounded_off k z x off = grind (arith, rounded_error, half_up_error)
