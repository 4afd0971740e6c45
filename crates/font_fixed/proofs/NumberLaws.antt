-- The laws of products and quotients, from the contracts of the calls.
use Rattle.std.proofs.Common.{◌≡◌, ◌≢◌, ◌∙◌, sym, ap, ℕ, ◌*◌, ◌^◌, ◌<◌, ◌≤◌, ℤ, pos, ◌*ℤ◌, ◌≤ℤ◌, arith, pow_pos}
use Rattle.std.proofs.Math.IntN.{*ℤ_comm, *ℤ-negsuc, neg_ℤ-neg_ℤ}
use Rattle.std.proofs.{lemmas.Bool.Decides.nat_tests, lemmas.Int.ints}
use Rattle.font_base.specs.{Wrap.wrap, Wrap.FitsBits, Wrap.Laws.wrap-fits}
use Rattle.font_decimal.specs.Near.{Near}
use Rattle.font_decimal.proofs.Near.{IsNearMagnitude, near_to, near_gives}
use Rattle.font_fixed.specs.Operations.{IsWrappedNear, IsProduct, IsQuotient, IsMulDiv}
use Rattle.font_fixed.specs.NumberLaws.{ProductLaws, ProductInOneStep, QuotientLaws, QuotientInOneStep}

-- an integer needs no rounding
pub near_exact : (q : ℤ) (d : ℕ) → 0 < d → Near (q *ℤ pos d) d q
near_exact q d some = omega (arith, ints)

pub rounded_exact : (w : ℕ) (q : ℤ) (d : ℕ) (r : ℤ) → 0 < w → 0 < d → FitsBits w q → IsWrappedNear w (q *ℤ pos d) d r
    → r ≡ q
rounded_exact w q d r wide some fits a =
    a.is ∙ ap (wrap w) (sym (near_gives (q *ℤ pos d) d q some (near_exact q d some))) ∙ wrap-fits w q wide fits

-- a positive divisor
mul_div_rounded : (w : ℕ) (x a : ℤ) (d : ℕ) (r : ℤ) → 0 < d → IsMulDiv w x a (pos d) r → IsWrappedNear w (x *ℤ a) d r
mul_div_rounded w x a d r some p = grind (arith, nat_tests)

pub product_laws_hold : (w f : ℕ) (x y product flipped by_one : ℤ) → 0 < w → FitsBits w x → IsProduct w f x y product
    → IsProduct w f y x flipped
    → IsProduct w f x (pos (2 ^ f)) by_one → ProductLaws w f x y product flipped by_one
product_laws_hold w f x y product flipped by_one wide fits p q r =
    grind (arith, rounded_exact w x (2 ^ f) by_one wide (pow_pos f) fits r)

pub product_in_one_step : (w f : ℕ) (x y product in_one_step : ℤ) → IsProduct w f x y product
    → IsMulDiv w x y (pos (2 ^ f)) in_one_step → ProductInOneStep w f x y product in_one_step
product_in_one_step w f x y product in_one_step p s = grind (arith, nat_tests)

-- if x * a is q times the divisor, the result is q
pub mul_div_exact : (w : ℕ) (q x a c r : ℤ) → 0 < w → FitsBits w q → (x *ℤ a) ≡ (q *ℤ c) → IsMulDiv w x a c r
    → c ≢ pos 0 → r ≡ q
mul_div_exact w q x a c r wide fits same given other = grind (arith, nat_tests, rounded_exact, *ℤ-negsuc, neg_ℤ-neg_ℤ)

mul_div_comm : (w : ℕ) (x a c r : ℤ) → c ≢ pos 0 → IsMulDiv w x a c r → IsMulDiv w a x c r
mul_div_comm w x a c r other given = grind (arith, nat_tests)

-- a number over itself is 1
pub itself : (w f : ℕ) (x r : ℤ) → 0 < w → FitsBits w (pos (2 ^ f)) → IsQuotient w f x x r → x ≢ pos 0 → r ≡ pos (2 ^ f)
itself w f x r wide fits p other = grind (arith, mul_div_exact, *ℤ_comm)

-- x * a / d is at most x, for a from 0 to d
share_at_most : (x a d m : ℕ) → a ≤ d → IsNearMagnitude (x * a) d m → m ≤ x
share_at_most x a d m within rounded = grind (arith, nat_tests)

-- and not negative: for a from 0 to c, x * a / c lies between 0 and x
pub mul_div_between : (w : ℕ) (x a c r : ℤ) → 0 < w → FitsBits w x → IsMulDiv w x a c r → pos 0 ≤ℤ x → pos 0 ≤ℤ a
    → a ≤ℤ c → c ≢ pos 0
    → (pos 0 ≤ℤ r) × (r ≤ℤ x)
mul_div_between w x a c r wide fits given low from to other = grind (arith, ints, near_to, share_at_most, wrap-fits)

-- and a part of a whole, over the whole, between 0 and 1
pub quotient_between : (w f : ℕ) (x y r : ℤ) → 0 < w → FitsBits w (pos (2 ^ f)) → IsQuotient w f x y r → pos 0 ≤ℤ x
    → x ≤ℤ y → y ≢ pos 0
    → (pos 0 ≤ℤ r) × (r ≤ℤ pos (2 ^ f))
quotient_between w f x y r wide fits given low high other = grind (arith, ints, mul_div_between, mul_div_comm)

pub quotient_laws_hold : (w f : ℕ) (x y quotient by_one by_itself : ℤ) → 0 < w → FitsBits w x → FitsBits w (pos (2 ^ f))
    → IsQuotient w f x y quotient
    → IsQuotient w f x (pos (2 ^ f)) by_one → IsQuotient w f x x by_itself
    → QuotientLaws w f x y quotient by_one by_itself
quotient_laws_hold w f x y quotient by_one by_itself wide fits one p r s =
    grind (arith, nat_tests, rounded_exact, pow_pos, mul_div_rounded, itself)

pub quotient_in_one_step : (w f : ℕ) (x y quotient in_one_step : ℤ) → IsQuotient w f x y quotient
    → IsMulDiv w x (pos (2 ^ f)) y in_one_step → QuotientInOneStep w f x y quotient in_one_step
quotient_in_one_step w f x y quotient in_one_step p q = grind (arith, nat_tests)
