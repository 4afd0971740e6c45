-- Rounding half away from zero, by rounding half up and half down: of 26.6 numbers and of 16.16 numbers.
use Rattle.std.proofs.Common.{◌≡◌, refl, ℕ, ℤ, pos, negsuc, ◌+ℤ◌, ◌-ℤ◌, ◌*ℤ◌, ◌≤ℤ◌, ◌<ℤ◌, arith}
use Rattle.font_decimal.specs.Near.{near, up}
use Rattle.font_fixed.specs.Operations.{IsIntegral}

-- half up, of a number that is not negative
pub near_above : (b : ℤ) (d : ℕ) → pos 0 ≤ℤ b → near b d ≡ up b d
unfolding near up
near_above (pos n) d from = refl
near_above (negsuc n) d from = grind arith

-- half down, of a number below 0
pub near_below_6 : (b r : ℤ) → b <ℤ pos 0 → IsIntegral 6 r → (b -ℤ pos 32) ≤ℤ r → r <ℤ (b +ℤ pos 32)
    → r ≡ (near b 64 *ℤ pos 64)
unfolding near
near_below_6 (pos n) r below whole low high = grind arith
near_below_6 (negsuc n) r below whole low high = grind arith

pub near_below_16 : (b r : ℤ) → b <ℤ pos 0 → IsIntegral 16 r → (b -ℤ pos 32768) ≤ℤ r → r <ℤ (b +ℤ pos 32768)
    → r ≡ (near b 65536 *ℤ pos 65536)
unfolding near
near_below_16 (pos n) r below whole low high = grind arith
near_below_16 (negsuc n) r below whole low high = grind arith

pub ruleset tie_calls = (near_above, near_below_6, near_below_16)
