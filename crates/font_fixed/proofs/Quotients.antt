-- Quotients rounded half away from zero, as code computes them: by magnitudes, with the sign set at the end and 32 bits
-- kept.
use Rattle.std.proofs.Common.{◌≡◌, ◌≢◌, ℕ, ◌-◌, ◌*◌, ◌^◌, ◌<◌, Bool, not, ℤ, pos, unsigned_abs, arith}
use Rattle.std.proofs.lemmas.Bool.Decides.{nat_tests}
use Rattle.std.specs.Int.{is_negative}
use Rattle.font_base.specs.{Wrap.wrap, Wrap.Laws.wrap-fits}
use Rattle.font_decimal.specs.Near.{signed, Near, near, near_magnitude}
use Rattle.font_decimal.proofs.Near.{rounded_is, near_from, near_is, near_gives}
use mathlib.Core.Bool.{beq}
use Rattle.font_fixed.specs.Operations.{IsWrappedNear, differ_in_sign, IsMulDiv, rounded_mul_div}

pub wrapped_near_from : (w : ℕ) (n : ℤ) (d : ℕ) (q r : ℤ) → 0 < d → Near n d q → r ≡ wrap w q
    → IsWrappedNear w n d r
wrapped_near_from w n d q r some nearest wrapped = grind (arith, nat_tests, near_gives)

-- a magnitude that is rounded, with its sign
signed_near : (s : Bool) (n d : ℕ) → 0 < d → signed s (near_magnitude n d) ≡ near (signed s n) d
signed_near s n d some = near_gives (signed s n) d _ some (near_from s n d _ some (rounded_is n d some))

-- from the signs and magnitudes of the code
pub signed_is_rounded : (x a c : ℤ) (s t : Bool) (m i j k : ℕ) → s ≡ differ_in_sign x a → t ≡ is_negative c
    → i ≡ unsigned_abs x → j ≡ unsigned_abs a → k ≡ unsigned_abs c → 0 < k → m ≡ near_magnitude (i * j) k
    → signed (not (beq s t)) m ≡ rounded_mul_div x a c
signed_is_rounded x a c s t m i j k both one first second third some near = grind (arith, signed_near)

-- wrapped, it is the quotient
pub wrapped_is_mul_div : (x a c q : ℤ) → (c ≢ pos 0 → q ≡ rounded_mul_div x a c)
    → (c ≡ pos 0 → q ≡ signed (differ_in_sign x a) (2 ^ 31 - 1)) → IsMulDiv 32 x a c (wrap 32 q)
wrapped_is_mul_div x a c q nearest by_zero = grind (arith, wrap-fits, near_is)

-- and back: `mul_div` by a number other than 0
pub mul_div_is : (x a c r : ℤ) → c ≢ pos 0 → IsMulDiv 32 x a c r → r ≡ wrap 32 (rounded_mul_div x a c)
mul_div_is x a c r some is = grind arith
