-- Wrapping is unique, and commutes with sums, negation and wrapping to fewer bits.
use Rattle.std.proofs.Common.{◌≡◌, ◌∙◌, sym, ap, refl, ℕ, zero, suc, ◌+◌, ◌-◌, ◌*◌, ◌/◌, ◌%◌, ◌^◌, ◌<◌, ◌≤◌, ℤ, pos}
use Rattle.std.proofs.Common.{negsuc, ◌+ℤ◌, ◌*ℤ◌, ◌≤ℤ◌, ◌<ℤ◌, IsTrue, arith, pow_pos, pow-add, div-add-mod'}
use Rattle.std.proofs.{lemmas.Int.by_lt_z, Math.Nat.mul-le-mul_right, Math.Nat.add-mul, Math.Nat.mod-lt}
use Rattle.std.specs.Int.{int_rem_euclid}
use borrow.Author.Differences.{ints, up, down}
use Rattle.font_base.specs.Integers.{sum-times, product-times}
use Rattle.font_base.specs.Wrap.{half_range, FitsBits, fits_bits, IsWrapped, wrap}

-- w bits have twice as many values as w - 1 bits
pub two_halves : (w : ℕ) → 0 < w → 2 ^ w ≡ half_range w + half_range w
two_halves zero positive = absurd (omega arith)
two_halves (suc w) positive = grind arith

-- an integer is its remainder plus a multiple of the divisor
pub record Remainder (z : ℤ) (d : ℕ) : Type 0 where
  pub rest : ℕ
  pub turns : ℤ
  pub below : rest < d
  pub is : int_rem_euclid z (pos d) ≡ pos rest
  pub parts : z ≡ (pos rest +ℤ (turns *ℤ pos d))

pub remainder : (z : ℤ) (d : ℕ) → 0 < d → Remainder z d
remainder (pos a) d positive = record {
  rest = a % d;
  turns = pos (a / d);
  below = mod-lt a positive;
  is = refl;
  parts = omega (arith, ints, div-add-mod' a d);
}
remainder (negsuc a) d positive = record {
  rest = d - 1 - a % d;
  turns = negsuc (a / d);
  below = omega (arith, mod-lt a positive);
  is = refl;
  parts = omega (arith, ints, div-add-mod' a d, mod-lt a positive);
}

pub wrap_is : (w : ℕ) (z : ℤ) → 0 < w → IsWrapped w z (wrap w z)
unfolding wrap
wrap_is w z positive =
    let whole = two_halves w positive in
    let some : 0 < 2 ^ w = pow_pos w in
    let parts = remainder (z +ℤ pos (half_range w)) (2 ^ w) some in
    let below = parts.below in
    record {
      fits = record { low = rw parts.is (omega (arith, ints)); high = rw parts.is (omega (arith, ints, whole, below)) };
      turns = parts.turns;
      differs = rw parts.is (omega (arith, ints, parts.parts));
    }

-- of two integers that differ by a multiple of d, the greater is at least d above the other
turn_above : (d : ℕ) (t u r s : ℤ) → t <ℤ u → (r +ℤ (t *ℤ pos d)) ≡ (s +ℤ (u *ℤ pos d)) → (s +ℤ pos d) ≤ℤ r
turn_above d t u r s less same =
    let fewer : up t + down u + 1 ≤ up u + down t = omega (arith, ints, less) in
    let scaled : (up t + down u + 1) * d ≤ (up u + down t) * d = mul-le-mul_right d fewer in
    omega (arith, ints, same, scaled, add-mul (up t + down u) 1 d, add-mul (up t) (down u) d, add-mul (up u) (down t) d)

-- two integers less than d apart that differ by a multiple of d are equal
pub same_rest : (d : ℕ) (m n t u : ℤ) → m <ℤ (n +ℤ pos d) → n <ℤ (m +ℤ pos d)
    → (m +ℤ (t *ℤ pos d)) ≡ (n +ℤ (u *ℤ pos d)) → m ≡ n
same_rest d m n t u near far same =
    by_lt_z t u
    (λ less. let above = turn_above d t u m n less same in absurd (omega (arith, ints, above, near)))
    (λ more. by_lt_z u t
    (λ less. let above = turn_above d u t n m less (sym same) in absurd (omega (arith, ints, above, far)))
    (λ fewer. let equal : t ≡ u = omega (arith, ints, more, fewer) in
    omega (arith, ints, same, ap (λ k. k *ℤ pos d) equal)))

-- two different w-bit integers do not differ by a multiple of 2^w
pub wrap_unique : (w : ℕ) (z r s : ℤ) → 0 < w → IsWrapped w z r → IsWrapped w z s → r ≡ s
wrap_unique w z r s positive p q =
    let whole = two_halves w positive in
    same_rest (2 ^ w) r s p.turns q.turns (omega (arith, ints, whole)) (omega (arith, ints, whole))
    (sym p.differs ∙ q.differs)

-- `IsWrapped` implies `wrap`
pub wrap_gives : (w : ℕ) (z r : ℤ) → 0 < w → IsWrapped w z r → r ≡ wrap w z
wrap_gives w z r positive given = wrap_unique w z r (wrap w z) positive given (wrap_is w z positive)

-- an integer that fits is unchanged
pub wrap-fits : (w : ℕ) (z : ℤ) → 0 < w → FitsBits w z → wrap w z ≡ z
wrap-fits w z positive fits =
    sym (wrap_gives w z z positive (record { fits = fits; turns = pos 0; differs = omega (arith, ints) }))

-- integers that differ by a multiple of 2^w wrap to the same integer
pub wrap_same : (w : ℕ) (y z : ℤ) (turns : ℤ) → 0 < w → y ≡ (z +ℤ (turns *ℤ pos (2 ^ w))) → wrap w y ≡ wrap w z
wrap_same w y z turns positive apart =
    let given = wrap_is w z positive in
    sym (wrap_gives w y (wrap w z) positive (record {
      fits = given.fits;
      turns = given.turns +ℤ turns;
      differs = omega (arith, ints, apart, given.differs, sum-times given.turns turns (pos (2 ^ w)));
    }))

-- ---- operands may be wrapped first

pub wrap-add_left : (w : ℕ) (a b : ℤ) → 0 < w → wrap w (wrap w a +ℤ b) ≡ wrap w (a +ℤ b)
wrap-add_left w a b some =
    let given = wrap_is w a some in
    sym (wrap_same w (a +ℤ b) (wrap w a +ℤ b) given.turns some (omega (arith, ints, given.differs)))

pub wrap-add_right : (w : ℕ) (a b : ℤ) → 0 < w → wrap w (a +ℤ wrap w b) ≡ wrap w (a +ℤ b)
wrap-add_right w a b some =
    let given = wrap_is w b some in
    sym (wrap_same w (a +ℤ b) (a +ℤ wrap w b) given.turns some (omega (arith, ints, given.differs)))

-- wrapping to v bits and then to fewer is wrapping to fewer
pub wrap-wrap : (u v : ℕ) (z : ℤ) → 0 < u → u ≤ v → wrap u (wrap v z) ≡ wrap u z
wrap-wrap u v z some less =
    let given = wrap_is v z (omega (arith, some, less)) in
    let split : v ≡ v - u + u = omega (arith, less) in
    let power : 2 ^ v ≡ 2 ^ (v - u) * 2 ^ u = ap (λ n. 2 ^ n) split ∙ pow-add 2 (v - u) u in
    sym (wrap_same u z (wrap v z) (given.turns *ℤ pos (2 ^ (v - u))) some
    (given.differs ∙ ap (λ y. wrap v z +ℤ y) (ap (λ n. given.turns *ℤ pos n) power
    ∙ sym (product-times given.turns (pos (2 ^ (v - u))) (pos (2 ^ u))))))

-- ---- the decidable form

pub fits_bits-true : (w : ℕ) (z : ℤ) → IsTrue (fits_bits w z) → FitsBits w z
fits_bits-true w z test = grind arith

pub FitsBits-fits_bits : (w : ℕ) (z : ℤ) → FitsBits w z → IsTrue (fits_bits w z)
FitsBits-fits_bits w z fits = grind arith
