-- Sums and products with 0 and with 1, for callers, as equations of `wrap` and `near`.
use Rattle.std.proofs.Common.{◌≡◌, sym, ℕ, ◌<◌, ℤ, pos, ◌+ℤ◌, ◌-ℤ◌, ◌*ℤ◌, arith, w16, w32, w64, SFits}
use Rattle.std.proofs.{lemmas.Int.ints, Math.IntN.*ℤ_comm, Math.IntN.+ℤ-neg_ℤ_cancel, Math.IntN.-ℤ-+ℤ_cancel}
use Rattle.std.specs.Int.{Width}
use mir.Val.{bits}
use Rattle.font_base.specs.{Wrap.wrap, Wrap.Laws.wrap-fits, Wrap.Laws.wrap-add_left}
use Rattle.font_base.proofs.Widths.{signed_fits, bits_positive}
use Rattle.font_decimal.specs.Near.{near}
use Rattle.font_decimal.proofs.Near.{near_gives}
use Rattle.font_fixed.proofs.NumberLaws.{near_exact}

-- wrapping does not change a number that fits
pub wrap-signed_fits : (w : Width) (z : ℤ) → SFits w z → wrap (bits w) z ≡ z
wrap-signed_fits w z fits = wrap-fits (bits w) z (bits_positive w) (signed_fits w z fits)

-- a sum with 0, and a difference
pub add_zero : (z : ℤ) → (z +ℤ pos 0) ≡ z
add_zero z = omega (arith, ints)

pub zero_add : (z : ℤ) → (pos 0 +ℤ z) ≡ z
zero_add z = omega (arith, ints)

pub sub_zero : (z : ℤ) → (z -ℤ pos 0) ≡ z
sub_zero z = omega (arith, ints)

-- adding and then subtracting a number, and the other way round
pub wrap-add_sub_cancel : (w : Width) (a b : ℤ) → SFits w a → wrap (bits w) (wrap (bits w) (a +ℤ b) -ℤ b) ≡ a
wrap-add_sub_cancel w a b fits = grind (arith, wrap-add_left, bits_positive, +ℤ-neg_ℤ_cancel, wrap-signed_fits)

pub wrap-sub_add_cancel : (w : Width) (a b : ℤ) → SFits w a → wrap (bits w) (wrap (bits w) (a -ℤ b) +ℤ b) ≡ a
wrap-sub_add_cancel w a b fits = grind (arith, wrap-add_left, bits_positive, -ℤ-+ℤ_cancel, wrap-signed_fits)

-- rules at each width: a sum with zero, a number added and subtracted, and wrapping of a number that fits
pub fits_16 : (z : ℤ) → SFits w16 z → wrap 16 z ≡ z
fits_16 = wrap-signed_fits w16

pub add_sub_cancel_16 : (a b : ℤ) → SFits w16 a → wrap 16 (wrap 16 (a +ℤ b) -ℤ b) ≡ a
add_sub_cancel_16 = wrap-add_sub_cancel w16

pub sub_add_cancel_16 : (a b : ℤ) → SFits w16 a → wrap 16 (wrap 16 (a -ℤ b) +ℤ b) ≡ a
sub_add_cancel_16 = wrap-sub_add_cancel w16

pub fits_32 : (z : ℤ) → SFits w32 z → wrap 32 z ≡ z
fits_32 = wrap-signed_fits w32

pub add_sub_cancel_32 : (a b : ℤ) → SFits w32 a → wrap 32 (wrap 32 (a +ℤ b) -ℤ b) ≡ a
add_sub_cancel_32 = wrap-add_sub_cancel w32

pub sub_add_cancel_32 : (a b : ℤ) → SFits w32 a → wrap 32 (wrap 32 (a -ℤ b) +ℤ b) ≡ a
sub_add_cancel_32 = wrap-sub_add_cancel w32

pub fits_64 : (z : ℤ) → SFits w64 z → wrap 64 z ≡ z
fits_64 = wrap-signed_fits w64

pub add_sub_cancel_64 : (a b : ℤ) → SFits w64 a → wrap 64 (wrap 64 (a +ℤ b) -ℤ b) ≡ a
add_sub_cancel_64 = wrap-add_sub_cancel w64

pub sub_add_cancel_64 : (a b : ℤ) → SFits w64 a → wrap 64 (wrap 64 (a -ℤ b) +ℤ b) ≡ a
sub_add_cancel_64 = wrap-sub_add_cancel w64

pub ruleset calls_16 = (fits_16, add_sub_cancel_16, sub_add_cancel_16)

pub ruleset calls_32 = (fits_32, add_zero, zero_add, sub_zero, add_sub_cancel_32, sub_add_cancel_32)

pub ruleset calls_64 = (fits_64, add_sub_cancel_64, sub_add_cancel_64)

-- an integral number of steps needs no rounding
pub near-times : (q : ℤ) (d : ℕ) → 0 < d → near (q *ℤ pos d) d ≡ q
near-times q d some = sym (near_gives (q *ℤ pos d) d q some (near_exact q d some))

pub near-times_left : (q : ℤ) (d : ℕ) → 0 < d → near (pos d *ℤ q) d ≡ q
near-times_left q d some = rw (*ℤ_comm (pos d) q) (near-times q d some)

pub near-times_zero : (q : ℤ) (d : ℕ) → 0 < d → near (q *ℤ pos 0) d ≡ pos 0
near-times_zero q d some = grind (arith, near-times (pos 0) d some)

pub near-zero_times : (q : ℤ) (d : ℕ) → 0 < d → near (pos 0 *ℤ q) d ≡ pos 0
near-zero_times q d some = rw (*ℤ_comm (pos 0) q) (near-times_zero q d some)
