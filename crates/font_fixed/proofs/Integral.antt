-- Raw values of integers: constants, sums and differences, and what wraps.
use Rattle.std.proofs.Common.{◌≡◌, ◌∙◌, sym, ap, ℕ, ◌+◌, ◌-◌, ◌*◌, ◌/◌, ◌%◌, ◌^◌, ◌<◌, ℤ, pos, neg_ℤ, ◌+ℤ◌, ◌-ℤ◌, ◌*ℤ◌}
use Rattle.std.proofs.Common.{arith, div-add-mod', pow-add, Bool, cond}
use Rattle.std.proofs.lemmas.Int.{ints}
use Rattle.font_base.specs.{Integers.sum-times, Integers.product-times, Wrap.wrap, Wrap.Laws.wrap_is}
use Rattle.font_decimal.proofs.Integers.{neg-times}
use Rattle.font_fixed.specs.{declared.fixed_i32.FixedI32.FixedI32, FixedI32.bits_of, Operations.IsIntegral}

module _ (f : ℕ) where
  pub constant_is_integral : (n : ℕ) → n % 2 ^ f ≡ 0 → IsIntegral f (pos n)
  constant_is_integral n divides = record {
    number = pos (n / 2 ^ f);
    is = omega (arith, ints, div-add-mod' n (2 ^ f), divides);
  }

  pub sum_is_integral : (a b : ℤ) → IsIntegral f a → IsIntegral f b → IsIntegral f (a +ℤ b)
  sum_is_integral a b is_a is_b = record {
    number = is_a.number +ℤ is_b.number;
    is = omega (arith, ints, is_a.is, is_b.is, sum-times is_a.number is_b.number (pos (2 ^ f)));
  }

  pub negated_is_integral : (a : ℤ) → IsIntegral f a → IsIntegral f (neg_ℤ a)
  negated_is_integral a is_a = grind (arith, neg-times is_a.number (2 ^ f))

  pub difference_is_integral : (a b : ℤ) → IsIntegral f a → IsIntegral f b → IsIntegral f (a -ℤ b)
  difference_is_integral a b is_a is_b = sum_is_integral a (neg_ℤ b) is_a (negated_is_integral b is_b)

  turns_are_integral : (w : ℕ) (turns : ℤ) → f < w → IsIntegral f (turns *ℤ pos (2 ^ w))
  turns_are_integral w turns few =
      let split : w ≡ (w - f) + f = omega (arith, few) in
      let power : 2 ^ w ≡ 2 ^ (w - f) * 2 ^ f = ap (λ n. 2 ^ n) split ∙ pow-add 2 (w - f) f in
      record {
        number = turns *ℤ pos (2 ^ (w - f));
        is = rw power (sym (product-times turns (pos (2 ^ (w - f))) (pos (2 ^ f))));
      }

  pub wrapped_is_integral : (w : ℕ) (a : ℤ) → f < w → IsIntegral f a → IsIntegral f (wrap w a)
  wrapped_is_integral w a few is_a =
      let whole = wrap_is w a (omega (arith, few)) in
      let unwound : wrap w a ≡ (a -ℤ (whole.turns *ℤ pos (2 ^ w))) = omega (arith, ints, whole.differs) in
      rw unwound (difference_is_integral a _ is_a (turns_are_integral w whole.turns few))

  -- rules: of a sum and a difference that a hypothesis has
  pub wrapped_sum_is_integral : (w : ℕ) (a b r : ℤ) → r ≡ wrap w (a +ℤ b) → f < w → IsIntegral f a → IsIntegral f b
      → IsIntegral f r
  wrapped_sum_is_integral w a b r is few is_a is_b = grind (arith, wrapped_is_integral, sum_is_integral)

  pub wrapped_difference_is_integral : (w : ℕ) (a b r : ℤ) → r ≡ wrap w (a -ℤ b) → f < w → IsIntegral f a
      → IsIntegral f b → IsIntegral f r
  wrapped_difference_is_integral w a b r is few is_a is_b = grind (arith, wrapped_is_integral, difference_is_integral)

  -- a half and another, added to an integer
  pub half_more_is_integral : (w h : ℕ) (a b r : ℤ) → r ≡ wrap w (a +ℤ b) → f < w → b ≡ pos h → (h + h) % 2 ^ f ≡ 0
      → IsIntegral f a → IsIntegral f (r +ℤ pos h)
  half_more_is_integral w h a b r is few half divides is_a =
      let given = wrap_is w (a +ℤ b) (omega (arith, few)) in
      let whole = sum_is_integral a (pos (h + h)) is_a (constant_is_integral (h + h) divides) in
      let all = difference_is_integral _ _ whole (turns_are_integral w given.turns few) in
      record { number = all.number; is = omega (arith, ints, all.is, is, half, given.differs) }

  -- the greater of two numbers, or the lesser
  pub chosen_is_integral : {F : ℕ} (first : Bool) (a b r : FixedI32 F) → r ≡ cond first a b → IsIntegral f (bits_of a)
      → IsIntegral f (bits_of b) → IsIntegral f (bits_of r)
  chosen_is_integral v0 a b r is is_a is_b = grind arith

pub ruleset integral_calls = (constant_is_integral, wrapped_sum_is_integral, wrapped_difference_is_integral)

pub ruleset integral_rules = (integral_calls, chosen_is_integral, half_more_is_integral)
