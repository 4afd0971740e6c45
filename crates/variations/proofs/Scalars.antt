-- The scalar of a region has one value, which the functions give.
use Rattle.std.proofs.Common.{◌≡◌, ◌≢◌, ◌∙◌, refl, sym, ap, lit<, ℕ, zero, suc, ◌*◌, ◌<◌, ◌≤◌, ◌⊎◌, Bool, true, false, ℤ, pos, negsuc, ◌-ℤ◌, ◌*ℤ◌}
use Rattle.std.proofs.Common.{◌≤ℤ◌, ◌<ℤ◌, int_lt, int_le, arith, Decides, List, length, get_or, ⊎_elim, inl, inr}
use Rattle.std.proofs.Common.{if◌then◌else◌, ◌||◌}
use Rattle.std.proofs.lemmas.Int.{ints, by_lt_z}
use Rattle.std.proofs.Math.Nat.{le-suc_iff}
use Rattle.std.proofs.lemmas.Bool.Decides.{Decides-or, Decides-int_eq, not_from_Decides}
use Rattle.std.specs.Ordering.{int_eq}
use Rattle.font_types.specs.{Operations.IsMulDiv, Near.near, Near.near_magnitude, Wrap.wrap, Wrap.FitsBits}
use Rattle.font_types.specs.{F2Dot14.F2Dot14, Fixed.Fixed, Fixed.fixed_bits}
use Rattle.font_types.proofs.Callers.{near_is, wrap-fits, Laws.mul_div_exact}
use Rattle.variations.specs.Variations.{IsIgnored, IsOffRegion, IsScalarAfter, is_ignored_axis, share, scalar_after}
use Rattle.variations.specs.Variations.{IsScalarOf, scalar_of, AreScalars, IsRegionScalar, region_bytes, axis_count}
use Rattle.variations.specs.Variations.{HasRegion}

-- ---- a share

share_is : (x a c r : ℤ) → pos 0 <ℤ c → IsMulDiv 32 x a c r → r ≡ share x a c
share_is x a (pos zero) r some given = absurd (omega (arith, ints, some))
share_is x a (pos (suc c)) r some given = given.is
share_is x a (negsuc c) r some given = absurd (omega (arith, ints, some))

share_gives : (x a c : ℤ) → pos 0 <ℤ c → IsMulDiv 32 x a c (share x a c)
share_gives x a (pos zero) some = absurd (omega (arith, ints, some))
share_gives x a (pos (suc c)) some = record {
  rounded = near (x *ℤ a) (suc c);
  nearest = near_is (x *ℤ a) (suc c) (omega arith);
  wrapped = refl;
  is = refl;
}
share_gives x a (negsuc c) some = absurd (omega (arith, ints, some))

near_product : (s p d : ℕ) → near (pos s *ℤ pos p) d ≡ pos (near_magnitude (s * p) d)
unfolding near
near_product s p d = refl

-- the share by magnitudes
pub share_of : (x : ℤ) (s p d q : ℕ) → x ≡ pos s → 0 < d → q ≡ near_magnitude (s * p) d → q ≤ 65536
    → IsMulDiv 32 x (pos p) (pos d) (pos q)
share_of x s p zero q from some is small = absurd (omega (arith, some))
share_of x s p (suc d) q from some is small =
    let value : pos q ≡ near (pos s *ℤ pos p) (suc d) = ap pos is ∙ sym (near_product s p (suc d)) in
    let fits : FitsBits 32 (pos q) = record { low = omega (arith, ints); high = omega (arith, ints, small) } in
    let kept : wrap 32 (pos q) ≡ pos q = wrap-fits 32 (pos q) (lit< tt) fits in
    rw from (record {
      rounded = near (pos s *ℤ pos p) (suc d);
      nearest = near_is (pos s *ℤ pos p) (suc d) some;
      wrapped = sym kept ∙ ap (wrap 32) value;
      is = sym kept ∙ ap (wrap 32) value;
    })

zero_fits : FitsBits 32 (pos 0)
zero_fits = record { low = omega (arith, ints); high = omega (arith, ints) }

share_of_zero : (a c : ℤ) → pos 0 <ℤ c → IsMulDiv 32 (pos 0) a c (pos 0)
share_of_zero a c some =
    let given = share_gives (pos 0) a c some in
    let is : share (pos 0) a c ≡ pos 0 = mul_div_exact 32 (pos 0) (pos 0) a c _ (lit< tt) zero_fits
    (omega (arith, ints)) given (λ none. omega (arith, ints, some, none)) in
    rw is at given

-- ---- one axis

pub less : (a b : ℤ) → Decides (int_lt a b) (a <ℤ b)
less a b = (λ e. grind (arith, ints), λ h. grind (arith, ints))

at_most : (a b : ℤ) → Decides (int_le a b) (a ≤ℤ b)
at_most a b = (λ e. grind (arith, ints), λ h. grind (arith, ints))

module _ (start peak end coordinate : ℤ) where
  ignored : Decides (is_ignored_axis start peak end) (IsIgnored start peak end)
  ignored = grind arith

  pub at_one : Decides (is_ignored_axis start peak end || int_eq coordinate peak)
      (IsIgnored start peak end ⊎ (coordinate ≡ peak))
  at_one = Decides-or _ _ ignored (Decides-int_eq coordinate peak)

  pub off : Decides (int_le coordinate start || int_le end coordinate) (IsOffRegion start end coordinate)
  off = Decides-or _ _ (at_most coordinate start) (at_most end coordinate)

  -- a peak that is not ignored is between start and end
  peak_low : ¬ IsIgnored start peak end → start ≤ℤ peak
  peak_low kept = by_lt_z peak start (λ h. absurd (kept (inl h))) (λ h. h)

  peak_high : ¬ IsIgnored start peak end → peak ≤ℤ end
  peak_high kept = by_lt_z end peak (λ h. absurd (kept (inr (inl h)))) (λ h. h)

  -- the coordinate is inside of the region, and after the peak if it is not before it
  inside_low : ¬ IsOffRegion start end coordinate → start <ℤ coordinate
  inside_low inside = by_lt_z start coordinate (λ h. h) (λ h. absurd (inside (inl h)))

  inside_high : ¬ IsOffRegion start end coordinate → coordinate <ℤ end
  inside_high inside = by_lt_z coordinate end (λ h. h) (λ h. absurd (inside (inr h)))

  after_peak : coordinate ≢ peak → ¬ (coordinate <ℤ peak) → peak <ℤ coordinate
  after_peak other kept = by_lt_z peak coordinate (λ h. h)
      (λ h. absurd (other (omega (arith, ints, h, by_lt_z coordinate peak (λ l. absurd (kept l)) (λ l. l)))))

  abbrev value : Bool → Bool → Bool → ℤ → ℤ
  value one outside rising before = if one then before else (if outside then pos 0
      else (if rising then share before (coordinate -ℤ start) (peak -ℤ start)
      else share before (end -ℤ coordinate) (end -ℤ peak)))

  is_value : (before raw : ℤ) → IsScalarAfter start peak end coordinate before raw → (one outside rising : Bool)
      → (is_ignored_axis start peak end || int_eq coordinate peak) ≡ one
      → (int_le coordinate start || int_le end coordinate) ≡ outside → int_lt coordinate peak ≡ rising
      → raw ≡ value one outside rising before
  is_value scalar raw given true outside rising one _ _ = ⊎_elim given.ignored given.at_peak (at_one.0 one)
  is_value scalar raw given false true rising one outside _ =
      let away = not_from_Decides _ at_one one in
      given.outside (λ i. away (inl i)) (λ e. away (inr e)) (off.0 outside)
  is_value scalar raw given false false true one outside up_to =
      let away = not_from_Decides _ at_one one in
      let after = inside_low (not_from_Decides _ off outside) in
      let before : coordinate <ℤ peak = (less coordinate peak).0 up_to in
      share_is scalar (coordinate -ℤ start) (peak -ℤ start) raw (omega (arith, ints, after, before))
      (given.rising (λ i. away (inl i)) after before)
  is_value scalar raw given false false false one outside up_to =
      let away = not_from_Decides _ at_one one in
      let before = inside_high (not_from_Decides _ off outside) in
      let after = after_peak (λ e. away (inr e)) (not_from_Decides _ (less coordinate peak) up_to) in
      share_is scalar (end -ℤ coordinate) (end -ℤ peak) raw (omega (arith, ints, after, before))
      (given.falling (λ i. away (inl i)) after before)

  gives_value : (scalar : ℤ) (one outside rising : Bool)
      → (is_ignored_axis start peak end || int_eq coordinate peak) ≡ one
      → (int_le coordinate start || int_le end coordinate) ≡ outside → int_lt coordinate peak ≡ rising
      → IsScalarAfter start peak end coordinate scalar (value one outside rising scalar)
  gives_value scalar true outside rising one _ _ =
      let here = at_one.0 one in
      record {
        ignored = λ i. refl;
        at_peak = λ e. refl;
        outside = λ kept other away. absurd (⊎_elim kept other here);
        rising = λ kept after before. absurd (⊎_elim kept (λ e. omega (arith, ints, e, before)) here);
        falling = λ kept after before. absurd (⊎_elim kept (λ e. omega (arith, ints, e, after)) here);
      }
  gives_value scalar false true rising one outside _ =
      let away = not_from_Decides _ at_one one in
      let here = off.0 outside in
      record {
        ignored = λ i. absurd (away (inl i));
        at_peak = λ e. absurd (away (inr e));
        outside = λ kept other away. refl;
        rising = λ kept after before. absurd (⊎_elim (λ h. omega (arith, ints, h, after))
            (λ h. omega (arith, ints, h, before, peak_high kept)) here);
        falling = λ kept after before. absurd (⊎_elim (λ h. omega (arith, ints, h, after, peak_low kept))
            (λ h. omega (arith, ints, h, before)) here);
      }
  gives_value scalar false false true one outside up_to =
      let away = not_from_Decides _ at_one one in
      let inside = not_from_Decides _ off outside in
      let first : coordinate <ℤ peak = (less coordinate peak).0 up_to in
      record {
        ignored = λ i. absurd (away (inl i));
        at_peak = λ e. absurd (away (inr e));
        outside = λ kept other off. absurd (inside off);
        rising = λ kept after before. share_gives scalar (coordinate -ℤ start) (peak -ℤ start)
            (omega (arith, ints, after, before));
        falling = λ kept after before. absurd (omega (arith, ints, after, first));
      }
  gives_value scalar false false false one outside up_to =
      let away = not_from_Decides _ at_one one in
      let inside = not_from_Decides _ off outside in
      let no_less = not_from_Decides _ (less coordinate peak) up_to in
      record {
        ignored = λ i. absurd (away (inl i));
        at_peak = λ e. absurd (away (inr e));
        outside = λ kept other off. absurd (inside off);
        rising = λ kept after before. absurd (no_less before);
        falling = λ kept after before. share_gives scalar (end -ℤ coordinate) (end -ℤ peak)
            (omega (arith, ints, after, before));
      }

scalar_after_is : (start peak end coordinate before raw : ℤ) → IsScalarAfter start peak end coordinate before raw
    → raw ≡ scalar_after start peak end coordinate before
unfolding scalar_after
scalar_after_is start peak end coordinate before raw given =
    is_value start peak end coordinate before raw given _ _ _ refl refl refl

scalar_after_gives : (start peak end coordinate before : ℤ)
    → IsScalarAfter start peak end coordinate before (scalar_after start peak end coordinate before)
unfolding scalar_after
scalar_after_gives start peak end coordinate before = gives_value start peak end coordinate before _ _ _ refl refl refl

-- ---- all axes

pub scalar_is : (region : List ℕ) (coordinates : List F2Dot14) (n : ℕ) (scalar : ℤ)
    → IsScalarOf region coordinates n scalar → scalar ≡ scalar_of region coordinates n
unfolding IsScalarOf scalar_of
scalar_is region coordinates zero scalar is = is
scalar_is region coordinates (suc n) scalar (before, so_far, next) =
    rw (← scalar_is region coordinates n before so_far) (scalar_after_is _ _ _ _ before scalar next)

-- once it is 0, it stays 0
zero_after : (start peak end coordinate : ℤ) → IsScalarAfter start peak end coordinate (pos 0) (pos 0)
zero_after start peak end coordinate = record {
  ignored = λ i. refl;
  at_peak = λ e. refl;
  outside = λ kept other away. refl;
  rising = λ kept after before. share_of_zero (coordinate -ℤ start) (peak -ℤ start)
      (omega (arith, ints, after, before));
  falling = λ kept after before. share_of_zero (end -ℤ coordinate) (end -ℤ peak)
      (omega (arith, ints, after, before));
}

pub zero_stays : (region : List ℕ) (coordinates : List F2Dot14) (n m : ℕ) → n ≤ m
    → IsScalarOf region coordinates n (pos 0) → IsScalarOf region coordinates m (pos 0)
unfolding IsScalarOf
zero_stays region coordinates n zero low is = let none : n ≡ zero = omega (arith, low) in rw none at is
zero_stays region coordinates n (suc m) low is = ⊎_elim
    (λ before. (pos 0, zero_stays region coordinates n m before is, zero_after _ _ _ _))
    (λ same. rw same at is) (le-suc_iff.0 low)

scalar_gives : (region : List ℕ) (coordinates : List F2Dot14) (n : ℕ)
    → IsScalarOf region coordinates n (scalar_of region coordinates n)
unfolding IsScalarOf scalar_of
scalar_gives region coordinates zero = refl
scalar_gives region coordinates (suc n) =
    (scalar_of region coordinates n, scalar_gives region coordinates n, scalar_after_gives _ _ _ _ _)

pub scalar_at : (regions : List ℕ) (coordinates : List F2Dot14) (scalars : List Fixed) (region : ℕ) (d : Fixed)
    → AreScalars regions coordinates scalars → region < length scalars
    → IsRegionScalar regions region coordinates (fixed_bits (get_or scalars region d))
scalar_at regions coordinates scalars region d are within = rw (are.each region d within)
    (scalar_gives (region_bytes regions region) coordinates (axis_count regions))

-- the other facts of scalars, as lemmas for `search`
pub scalar_low : (regions : List ℕ) (coordinates : List F2Dot14) (scalars : List Fixed) (region : ℕ) (d : Fixed)
    → AreScalars regions coordinates scalars → region < length scalars
    → pos 0 ≤ℤ fixed_bits (get_or scalars region d)
scalar_low regions coordinates scalars region d are within = are.low region d within

pub scalar_high : (regions : List ℕ) (coordinates : List F2Dot14) (scalars : List Fixed) (region : ℕ) (d : Fixed)
    → AreScalars regions coordinates scalars → region < length scalars
    → fixed_bits (get_or scalars region d) ≤ℤ pos 65536
scalar_high regions coordinates scalars region d are within = are.high region d within

pub scalar_there : (regions : List ℕ) (coordinates : List F2Dot14) (scalars : List Fixed) (region : ℕ)
    → AreScalars regions coordinates scalars → region < length scalars → HasRegion regions region
scalar_there regions coordinates scalars region are within = are.are_there region within

pub scalar_within : (regions : List ℕ) (coordinates : List F2Dot14) (scalars : List Fixed) (region : ℕ)
    → AreScalars regions coordinates scalars → HasRegion regions region → region < length scalars
scalar_within regions coordinates scalars region are has = are.all region has

pub ruleset stored_rules = (scalar_at, scalar_low, scalar_high, scalar_there, scalar_within)
