-- Each fraction n / d with 0 < d has one nearest integer, by either rule for ties.
use Rattle.std.proofs.Common.{◌≡◌, ℕ, suc, ◌+◌, ◌*◌, ◌/◌, ◌<◌, ◌≤◌, Bool, true, false, ℤ, pos, negsuc, sym, arith}
use Rattle.std.proofs.Common.{neg_ℤ, ◌+ℤ◌, ◌*ℤ◌, ◌≤ℤ◌, unsigned_abs, mul-le-mul_right, mul-lt-mul_of_pos_right, suc-mul}
use Rattle.std.proofs.{lemmas.Bool.Decides.nat_tests, lemmas.Int.ints, lemmas.Int.by_lt_z}
use Rattle.std.specs.Int.{is_negative}
use Rattle.font_decimal.specs.Near.{signed, Near, near, near_magnitude, Up, up}
use Rattle.font_decimal.proofs.Integers.{neg-times, times-next, times_monotone}

-- q is n / d and a half, rounded down
pub record IsNearMagnitude (n d q : ℕ) : Type 0 where
  pub low : 2 * (q * d) ≤ 2 * n + d
  pub high : 2 * n + d < 2 * (q * d) + 2 * d

-- the products of two different integers differ by at least the factor
pub next_product : (q r d : ℕ) → q < r → q * d + d ≤ r * d
next_product q r d h = grind arith

rounded_monotone : {n d q m e r : ℕ} → 0 < d → IsNearMagnitude n d q → IsNearMagnitude m e r → n * e ≤ m * d → q ≤ r
rounded_monotone {d = d} {q = q} {e = e} {r = r} h x y order =
    grind (arith, next_product r q (d * e), mul-le-mul_right e x.low, mul-lt-mul_of_pos_right y.high h)

pub near_magnitude_unique : {n d q r : ℕ} → 0 < d → IsNearMagnitude n d q → IsNearMagnitude n d r → q ≡ r
near_magnitude_unique h x y = grind (arith, nat_tests)

pub rounded_is : (n d : ℕ) → 0 < d → IsNearMagnitude n d (near_magnitude n d)
rounded_is n d h = omega arith

-- a sign stays outside of a product
pub signed_times : (s : Bool) (n d : ℕ) → signed s n *ℤ pos d ≡ signed s (n * d)
signed_times s n d = grind (arith, nat_tests)

pub sign_and_magnitude : (n : ℤ) → n ≡ signed (is_negative n) (unsigned_abs n)
sign_and_magnitude n = grind (arith, nat_tests)

-- a magnitude that is rounded, with its sign
pub near_from : (s : Bool) (n d q : ℕ) → 0 < d → IsNearMagnitude n d q → Near (signed s n) d (signed s q)
near_from s n d q h r = grind (arith, nat_tests)

-- q has the sign s, and its magnitude is that of n / d, rounded
pub record HasMagnitude (s : Bool) (n d : ℕ) (q : ℤ) : Type 0 where
  pub magnitude : ℕ
  pub is : q ≡ signed s magnitude
  pub rounded : IsNearMagnitude n d magnitude

pub near_to : (s : Bool) (n d : ℕ) (q : ℤ) → 0 < d → Near (signed s n) d q → HasMagnitude s n d q
near_to s n d q h r = grind (arith, nat_tests)

-- of two fractions the greater one is never rounded to the lesser number
pub near_monotone : {n m : ℤ} {d e : ℕ} {q r : ℤ} → 0 < d → 0 < e → Near n d q → Near m e r
    → (n *ℤ pos e) ≤ℤ (m *ℤ pos d) → q ≤ℤ r
near_monotone {n = pos n} {m = pos m} h k x y order =
    let first = near_to false n _ _ h x in
    let second = near_to false m _ _ k y in
    omega (arith, ints, rounded_monotone h first.rounded second.rounded (omega (arith, ints)))
near_monotone {n = pos n} {m = negsuc m} {d = d} h k x y order = absurd (omega (arith, ints, suc-mul m d))
near_monotone {n = negsuc n} {m = pos m} h k x y order =
    let first = near_to true (suc n) _ _ h x in
    let second = near_to false m _ _ k y in
    omega (arith, ints)
near_monotone {n = negsuc n} {m = negsuc m} h k x y order =
    let first = near_to true (suc n) _ _ h x in
    let second = near_to true (suc m) _ _ k y in
    omega (arith, ints, rounded_monotone k second.rounded first.rounded (omega (arith, ints)))

-- each fraction has just one nearest integer
pub near_unique : (n : ℤ) (d : ℕ) (q r : ℤ) → 0 < d → Near n d q → Near n d r → q ≡ r
near_unique n d q r h x y =
    omega (arith, ints, near_monotone h h x y (omega (arith, ints)), near_monotone h h y x (omega (arith, ints)))

-- and `near` is that number
pub near_is : (n : ℤ) (d : ℕ) → 0 < d → Near n d (near n d)
unfolding near
near_is (pos n) d h = near_from false n d _ h (rounded_is n d h)
near_is (negsuc n) d h = near_from true (suc n) d _ h (rounded_is (suc n) d h)

pub near_gives : (n : ℤ) (d : ℕ) (q : ℤ) → 0 < d → Near n d q → q ≡ near n d
near_gives n d q h x = near_unique n d q (near n d) h x (near_is n d h)

-- the same for the rule that rounds ties up
pub up_monotone : {n m : ℤ} {d : ℕ} {q r : ℤ} → Up n d q → Up m d r → n ≤ℤ m → q ≤ℤ r
up_monotone {d = d} {q = q} {r = r} x y order = by_lt_z r q
    (λ more. absurd (omega (arith, ints, times_monotone (r +ℤ pos 1) q d (omega (arith, ints)))))
    (λ less. less)

pub up_is : (n : ℤ) (d : ℕ) → 0 < d → Up n d (up n d)
unfolding up
up_is (pos n) d h = omega (arith, ints)
up_is (negsuc n) d h =
    let c = (2 * n + 1 + d) / (2 * d) in
    record {
      low = rw (neg-times (pos c) d) (omega (arith, ints));
      high = rw (times-next (neg_ℤ (pos c)) d, neg-times (pos c) d) (omega (arith, ints));
    }

pub up_gives : (n : ℤ) (d : ℕ) (q : ℤ) → 0 < d → Up n d q → q ≡ up n d
up_gives n d q h x =
    let same : n ≤ℤ n = omega (arith, ints) in
    omega (arith, ints, up_monotone x (up_is n d h) same, up_monotone (up_is n d h) x same)

-- an integer rounds to itself
pub up_whole : (z : ℤ) (d : ℕ) → 0 < d → Up (z *ℤ pos d) d z
up_whole z d h = record { low = omega (arith, ints); high = rw (times-next z d) (omega (arith, ints)) }

pub up-times : (z : ℤ) (d : ℕ) → 0 < d → up (z *ℤ pos d) d ≡ z
up-times z d h = sym (up_gives (z *ℤ pos d) d z h (up_whole z d h))
