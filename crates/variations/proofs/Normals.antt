-- A normalized coordinate: that of the clamped value.
use Rattle.std.proofs.Common.{◌≡◌, ◌∙◌, sym, ℤ, pos, neg_ℤ, ◌-ℤ◌, ◌≤ℤ◌, ◌<ℤ◌, arith}
use Rattle.std.proofs.lemmas.Int.{ints}
use Rattle.font_types.specs.{Operations.IsQuotient, Fixed.fixed_bits, Fixed.ONE, Fixed.NEG_ONE}
use Rattle.variations.specs.Evaluator.{IsNormalized}

module _ (min default max value clamped result : ℤ) (low : min ≤ℤ default) (high : default ≤ℤ max)
    (inside : min ≤ℤ value → value ≤ℤ max → clamped ≡ value) (under_min : value ≤ℤ min → clamped ≡ min)
    (over_max : max ≤ℤ value → clamped ≡ max) (at_default : clamped ≡ default → result ≡ pos 0)
    (above : default <ℤ clamped → IsQuotient 32 16 (clamped -ℤ default) (max -ℤ default) result)
    (below : clamped <ℤ default → IsQuotient 32 16 (default -ℤ clamped) (default -ℤ min) (neg_ℤ result))
    (at_max : default <ℤ max → max ≡ clamped → result ≡ fixed_bits ONE)
    (at_min : min <ℤ default → clamped ≡ min → result ≡ fixed_bits NEG_ONE) where
  pub is_normalized : IsNormalized min default max value result
  is_normalized = record {
    at_default = λ is. at_default (inside (omega (arith, ints, low, is)) (omega (arith, ints, high, is)) ∙ is);
    above = λ over under.
        let same = inside (omega (arith, ints, low, over)) under in
        rw same at (above (rw same over));
    below = λ under over.
        let same = inside over (omega (arith, ints, high, under)) in
        rw same at (below (rw same under));
    no_rise = λ is over. at_default (over_max (omega (arith, ints, is, over)) ∙ is);
    no_fall = λ is under. at_default (under_min (omega (arith, ints, is, under)) ∙ is);
    at_max = λ some over. at_max some (sym (over_max over));
    at_min = λ some under. at_min some (under_min under);
  }
