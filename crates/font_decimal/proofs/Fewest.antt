-- The fewest places at which a value m / 2^f has a decimal that parses back.
use Rattle.std.proofs.Common.{◌≡◌, ◌≢◌, ℕ, zero, suc, ◌+◌, ◌-◌, ◌*◌, ◌/◌, ◌%◌, ◌^◌, ◌<◌, ◌≤◌, inl, inr, true, false, ℤ}
use Rattle.std.proofs.Common.{pos, refl, sym, ap, ◌∙◌, arith, below_more, ◌*ℤ◌, unsigned_abs, pow-suc, lt-ltb, ltb-true}
use Rattle.std.proofs.Common.{ltb-false, pow_pos, pow-add}
use Rattle.std.proofs.{lemmas.Bool.Decides.nat_tests, Math.Nat.mul-sub, Math.Nat.eq_of_mul-eq-mul_left}
use Rattle.std.proofs.{lemmas.Bool.cases_lt, lemmas.Bool.cases_order, lemmas.Bool.cond_both, lemmas.Nat.mul-pow}
use Rattle.std.specs.Int.{abs_diff}
use Rattle.font_decimal.specs.Near.{Near}
use Rattle.font_decimal.specs.Shortest.{nearest_numeral, reads_back, places_from, fewest_places}
use Rattle.font_decimal.proofs.Near.{IsNearMagnitude, rounded_is, next_product}

-- no other multiple is nearer than the rounded one
nearest_distance : {n d q : ℕ} (m : ℕ) → IsNearMagnitude n d q → abs_diff (q * d) n ≤ abs_diff (m * d) n
nearest_distance {d = d} {q = q} m r = grind (arith, cases_order m q, next_product m q d, next_product q m d)

pub abs_diff_times : (k a b : ℕ) → abs_diff (k * a) (k * b) ≡ k * abs_diff a b
abs_diff_times k a b = rw (sym (mul-sub k a b), sym (mul-sub k b a)) (omega arith)

five_odd : (j : ℕ) → (h : ℕ) × (5 ^ j ≡ 2 * h + 1)
five_odd zero = (0, refl)
five_odd (suc j) = let before = five_odd j in (5 * before.0 + 2, omega (arith, before.1, pow-suc 5 j))

-- no decimal of at most f places lies just half way between two multiples of 1 / 2^f: in units of 2^j its distance
-- would make an even number equal to 5^j
no_tie : (m f j n : ℕ) → j ≤ f → 2 * abs_diff (n * 2 ^ f) (m * 10 ^ j) ≢ 10 ^ j
no_tie m f j n h tie =
    let power : 2 ^ f ≡ 2 ^ j * 2 ^ (f - j) = ap (λ i. 2 ^ i) (let e : f ≡ j + (f - j) = omega arith in e) ∙ pow-add 2 j
    (f - j) in
    let ten : 10 ^ j ≡ 2 ^ j * 5 ^ j = mul-pow 2 5 j in
    let d = abs_diff (n * 2 ^ (f - j)) (m * 5 ^ j) in
    let units : 2 ^ j * (2 * d) ≡ 2 ^ j * 5 ^ j =
    omega (arith, rw (power, ten) at tie, abs_diff_times (2 ^ j) (n * 2 ^ (f - j)) (m * 5 ^ j)) in
    omega (arith, (five_odd j).1, eq_of_mul-eq-mul_left _ (pow_pos j) _ _ units)

pub rounded_at : (m f p : ℕ) → IsNearMagnitude (m * 10 ^ p) (2 ^ f) (nearest_numeral m f p)
rounded_at m f p = rounded_is (m * 10 ^ p) (2 ^ f) (pow_pos f)

-- if any decimal of p places is within half a step, the nearest one parses back
pub nearest_reads_back : (m f p n : ℕ) → p ≤ f → 2 * abs_diff (n * 2 ^ f) (m * 10 ^ p) ≤ 10 ^ p
    → reads_back m f p ≡ true
unfolding reads_back
nearest_reads_back m f p n h close =
    lt-ltb _ _ (omega (arith, nearest_distance n (rounded_at m f p), no_tie m f p (nearest_numeral m f p) h))

-- with f places a value has an exact decimal
pub exact_reads_back : (m f : ℕ) → reads_back m f f ≡ true
exact_reads_back m f =
    let ten : 10 ^ f ≡ 2 ^ f * 5 ^ f = mul-pow 2 5 f in
    nearest_reads_back m f f (m * 5 ^ f) (omega arith) (rw ten (omega arith))

-- p places parse back, and no fewer do
pub record IsFewest (m f p : ℕ) : Type 0 where
  pub few : p ≤ f
  pub reads : reads_back m f p ≡ true
  pub before : (j : ℕ) → j < p → reads_back m f j ≡ false

-- so its nearest decimal is less than half a step away
pub within_half : {m f p : ℕ} → IsFewest m f p → 2 * abs_diff (nearest_numeral m f p * 2 ^ f) (m * 10 ^ p) < 10 ^ p
unfolding reads_back
within_half fewest = ltb-true _ _ fewest.reads

fewest_from : (m f left p : ℕ) → p + left ≡ f → ((j : ℕ) → j < p → reads_back m f j ≡ false)
    → IsFewest m f (places_from m f left p)
fewest_from m f zero p e before =
    let same : p ≡ f = omega arith in
    record { few = omega arith; reads = rw same (exact_reads_back m f); before = before }
fewest_from m f (suc left) p e before = cond_both (reads_back m f p) _ _ (λ q. IsFewest m f q)
    (λ reads. record { few = omega arith; reads = reads; before = before })
    (λ fails. fewest_from m f left (p + 1) (omega arith) (below_more _ p before fails))

pub fewest_is : (m f : ℕ) → IsFewest m f (fewest_places m f)
unfolding fewest_places
fewest_is m f = fewest_from m f f 0 (omega arith) (λ j h. absurd (omega arith))

not_above : {m f p q : ℕ} → IsFewest m f p → IsFewest m f q → p ≤ q
not_above {p = p} {q = q} x y = elim (cases_lt q p) [ inl less ↦ cc (y.reads, x.before q less) | inr more ↦ more ]

-- and these are the places of the definition
pub places_are : {m f p : ℕ} → IsFewest m f p → p ≡ fewest_places m f
places_are {m = m} {f = f} fewest = omega (arith, not_above fewest (fewest_is m f), not_above (fewest_is m f) fewest)

-- if all places so far fail, there is one more to try
pub place_left : (m f p : ℕ) → p ≤ f → reads_back m f p ≡ false → p < f
place_left m f p h fails = grind (arith, nat_tests, exact_reads_back)

-- and a unit of the last place that fails is at most a step
fails_wide : (m f p : ℕ) → reads_back m f p ≡ false → 10 ^ p ≤ 2 ^ f
unfolding reads_back
fails_wide m f p e = omega (arith, ltb-false _ _ e, rounded_at m f p)

unit_below : (m f p : ℕ) → ((j : ℕ) → j < p → reads_back m f j ≡ false) → 10 ^ p ≤ 10 * 2 ^ f
unit_below m f zero fails = omega (arith, pow_pos f)
unit_below m f (suc p) fails = omega (arith, fails_wide m f p (fails p (omega arith)), pow-suc 10 p)

-- a unit of the last place is at most ten steps
pub unit_is_below : (m f : ℕ) → 10 ^ fewest_places m f ≤ 10 * 2 ^ f
unit_is_below m f = unit_below m f _ (fewest_is m f).before

tenth : (d t m ten tenfold : ℕ) → d % 10 ≡ 0 → tenfold ≡ ten * 10 → 2 * abs_diff (d * t) (m * tenfold) < tenfold
    → 2 * abs_diff (d / 10 * t) (m * ten) ≤ ten
tenth d t m ten tenfold e power close =
    let tens : d ≡ 10 * (d / 10) = omega arith in
    omega (arith, ap (λ n. n * t) tens, ap (λ n. m * n) power)

-- a numeral that ends in 0 would parse back with one place fewer
pub zero_drops : {m f p : ℕ} → IsFewest m f (suc p) → nearest_numeral m f (suc p) % 10 ≢ 0
zero_drops {m = m} {f = f} {p = p} fewest e =
    let closer = tenth _ _ _ _ _ e (pow-suc 10 p) (within_half fewest) in
    cc (nearest_reads_back m f p _ (omega (arith, fewest.few)) closer, fewest.before p (omega arith))

-- a decimal of any sign that rounds to a value of any sign
pub magnitudes_close : (f j : ℕ) (n b : ℤ) → Near (n *ℤ pos (2 ^ f)) (10 ^ j) b → 2 * abs_diff (unsigned_abs n * 2 ^ f)
    (unsigned_abs b * 10 ^ j) ≤ 10 ^ j
magnitudes_close f j n b near = grind (arith, nat_tests)

-- no number with fewer places rounds to the value
pub none_fewer : {f p : ℕ} {b : ℤ} (j : ℕ) (n : ℤ) → IsFewest (unsigned_abs b) f p → j < p
    → Near (n *ℤ pos (2 ^ f)) (10 ^ j) b → ⊥
none_fewer {f = f} {b = b} j n fewest h near = cc (
  nearest_reads_back (unsigned_abs b) f j (unsigned_abs n)
      (omega (arith, fewest.few)) (magnitudes_close f j n b near),
  fewest.before j h,
)
