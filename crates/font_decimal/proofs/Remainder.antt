-- The remainder of a value m / 2^f after its first p places.
use Rattle.std.proofs.Common.{◌≡◌, ℕ, ◌+◌, ◌-◌, ◌*◌, ◌/◌, ◌%◌, ◌^◌, ◌<◌, ◌≤◌, false, inl, inr, arith, add-one, min}
use Rattle.std.proofs.Common.{lt-ltb, le-ltb, pow_pos, pow-suc, div-add-mod', mul-le-mul_right, div-mul-le_self}
use Rattle.std.proofs.{lemmas.Bool.cases_lt, lemmas.Nat.div_below, lemmas.Nat.div-mul-add}
use Rattle.std.specs.Int.{abs_diff}
use Rattle.font_decimal.specs.Shortest.{nearest_numeral, reads_back}
use Rattle.font_decimal.proofs.Near.{near_magnitude_unique, next_product}
use Rattle.font_decimal.proofs.Fewest.{IsFewest, within_half, rounded_at}

-- m / 2^f cut off after p places is the numeral q, and of the last place rest / 2^(f+1) is left
pub record HasRest (m f p q rest : ℕ) : Type 0 where
  pub value : 2 * (m * 10 ^ p) ≡ 2 * (q * 2 ^ f) + rest
  pub below : rest < 2 * 2 ^ f

-- the nearest numeral is the truncated one if less than half of the last place is left
pub rounded_down : {m f p q rest : ℕ} → HasRest m f p q rest → rest < 2 ^ f → nearest_numeral m f p ≡ q
rounded_down {m = m} {f = f} {p = p} h low = near_magnitude_unique (pow_pos f) (rounded_at m f p) (omega arith)

-- one more if half of the last place or more is left
pub rounded_up : {m f p q rest : ℕ} → HasRest m f p q rest → 2 ^ f ≤ rest → nearest_numeral m f p ≡ q + 1
rounded_up {m = m} {f = f} {p = p} h high = near_magnitude_unique (pow_pos f) (rounded_at m f p) (omega arith)

-- the distance of the nearest numeral from the value, in the same parts of the last place
distance : {m f p q rest : ℕ} → HasRest m f p q rest → 2 * abs_diff (nearest_numeral m f p * 2 ^ f) (m * 10 ^ p)
    ≡ min rest (2 * 2 ^ f - rest)
distance {f = f} {rest = rest} h = grind (arith, cases_lt rest (2 ^ f), rounded_down h, rounded_up h)

-- half a step is 10^p such parts: the first places within it are the fewest
pub stopped : {m f p q rest : ℕ} → HasRest m f p q rest → min rest (2 * 2 ^ f - rest) < 10 ^ p → p ≤ f
    → ((j : ℕ) → j < p → reads_back m f j ≡ false) → IsFewest m f p
unfolding reads_back
stopped h close few fails =
    record { few = few; reads = lt-ltb _ _ (omega (arith, distance h)); before = fails }

-- and beyond it the nearest decimal does not parse back
pub fails_here : {m f p q rest : ℕ} → HasRest m f p q rest → 10 ^ p ≤ min rest (2 * 2 ^ f - rest)
    → reads_back m f p ≡ false
unfolding reads_back
fails_here h far = le-ltb _ _ (omega (arith, distance h))

-- the whole part and the remainder after it
pub first_numeral : (m f : ℕ) → HasRest m f 0 (m / 2 ^ f) (2 * (m % 2 ^ f))
first_numeral m f = record {
  value = omega (arith, div-add-mod' m (2 ^ f));
  below = omega (arith, pow_pos f);
}

-- the numeral with one digit more
pub next_numeral : {m f p q rest unit : ℕ} → HasRest m f p q rest → unit ≡ 2 * 2 ^ f
    → HasRest m f (p + 1) (10 * q + 10 * rest / unit) (10 * rest % unit)
next_numeral {f = f} {p = p} {rest = rest} h is =
    let power : 10 ^ (p + 1) ≡ 10 ^ p * 10 = rw add-one (pow-suc 10 p) in
    record {
      value = rw (power, is) (omega (arith, h.value, div-add-mod' (10 * rest) (2 * 2 ^ f)));
      below = rw is (omega (arith, pow_pos f));
    }

pub next_digit : (rest unit : ℕ) → rest < unit → 10 * rest / unit < 10
next_digit rest unit less = div_below (10 * rest) unit 10 (omega arith) (omega arith)

-- a numeral past the whole part above the value is half a step away or more
below_whole : (m w t ten n : ℕ) → m < (w + 1) * t → 2 * abs_diff ((w * ten + n) * t) (m * ten) < ten → n < ten
below_whole m w t ten n below close = grind (arith, mul-le-mul_right ten below, mul-le-mul_right {m = ten} {n = n} t)

-- if the nearest decimal parses back, raising its last digit does not carry into the integer
pub whole_kept : {m f p : ℕ} → IsFewest m f p → nearest_numeral m f p / 10 ^ p ≡ m / 2 ^ f
whole_kept {m = m} {f = f} {p = p} fewest =
    let w = m / 2 ^ f in
    let n = nearest_numeral m f p - w * 10 ^ p in
    let low : w * 10 ^ p * 2 ^ f ≤ m * 10 ^ p =
    omega (arith, mul-le-mul_right (10 ^ p) (div-mul-le_self m (2 ^ f))) in
    let above : w * 10 ^ p ≤ nearest_numeral m f p = elim (cases_lt (nearest_numeral m f p) (w * 10 ^ p)) [
      | inl less ↦ absurd (omega (arith, rounded_at m f p, low, next_product _ _ (2 ^ f) less, pow_pos f))
      | inr more ↦ more
    ] in
    let split : nearest_numeral m f p ≡ w * 10 ^ p + n = omega arith in
    let below = below_whole m w (2 ^ f) (10 ^ p) n (omega (arith, pow_pos f)) (rw split at (within_half fewest)) in
    rw split (div-mul-add w (10 ^ p) n below)
