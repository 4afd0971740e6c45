-- Wrapping at the widths of std's number types, in std's terms.
use Rattle.std.proofs.Common.{◌≡◌, ◌∙◌, sym, ap, ℕ, suc, ◌-◌, ◌^◌, ◌<◌, ℤ, pos, negsuc, inl, inr, arith, pow_pos, SFits}
use Rattle.std.proofs.Common.{to_z}
use Rattle.std.proofs.lemmas.Int.{ints, to_z_pos}
use Rattle.std.proofs.{lemmas.Bool.Decides.nat_tests, lemmas.Bool.cases_lt, Math.Facts.to_z-neg}
use Rattle.std.specs.Int.{int_wrap, Width}
use mir.Val.{bits, hbits}
use Rattle.font_base.specs.Wrap.{half_range, FitsBits, wrap}
use Rattle.font_base.specs.Wrap.Laws.{two_halves, remainder, wrap_gives, wrap_same}

pub half_range-bits : (w : Width) → half_range (bits w) ≡ 2 ^ hbits w
half_range-bits w = grind (arith, nat_tests)

pub bits_positive : (w : Width) → 0 < bits w
bits_positive w = grind (arith, nat_tests)

-- a number is a value of a signed type if and only if it fits in its bits
pub signed_fits : (w : Width) (z : ℤ) → SFits w z → FitsBits (bits w) z
signed_fits w z fits = omega (arith, ints, fits, half_range-bits w)

-- a cast to the signed type keeps the bits
pub to_z-wrap : (w : Width) (n : ℕ) → n < 2 ^ bits w → to_z w n ≡ wrap (bits w) (pos n)
to_z-wrap w n below =
    let half = half_range-bits w in
    let whole = two_halves (bits w) (bits_positive w) in
    wrap_gives (bits w) (pos n) (to_z w n) (bits_positive w) (elim (cases_lt n (2 ^ hbits w)) [
      | inl low ↦ rw (to_z_pos w n low) (record {
        fits = omega (arith, ints);
        turns = pos 0;
        differs = omega (arith, ints);
      })
      | inr high ↦
          let k : ℕ = 2 ^ bits w - suc n in
          let small : k < 2 ^ hbits w = omega arith in
          let split : n ≡ 2 ^ bits w - suc k = omega arith in
          let is : to_z w n ≡ negsuc k = ap (to_z w) split ∙ to_z-neg w k small in
          rw is (record {
            fits = omega (arith, ints);
            turns = pos 1;
            differs = omega (arith, ints);
          })
    ])

-- std's wrapping is this one
pub int_wrap-wrap : (w : Width) (z : ℤ) → int_wrap w z ≡ wrap (bits w) z
unfolding int_wrap
int_wrap-wrap w z =
    let parts = remainder z (2 ^ bits w) (pow_pos (bits w)) in
    rw parts.is (to_z-wrap w parts.rest parts.below
    ∙ sym (wrap_same (bits w) z (pos parts.rest) parts.turns (bits_positive w) parts.parts))
