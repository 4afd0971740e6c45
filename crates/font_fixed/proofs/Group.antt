-- Laws of sums and floors, by the raw values of numbers with w bits and f fraction bits.
use Rattle.std.proofs.Common.{◌≡◌, ◌∙◌, sym, ap, ℕ, ◌^◌, ◌<◌, ℤ, pos, neg_ℤ, ◌+ℤ◌, ◌≤ℤ◌, ◌<ℤ◌, arith}
use Rattle.std.proofs.{lemmas.Bool.Decides.nat_tests, Math.IntN.+ℤ_comm, Math.IntN.+ℤ_idr, lemmas.Int.ints}
use Rattle.font_base.specs.Wrap.{wrap, FitsBits}
use Rattle.font_base.specs.Wrap.Laws.{wrap-fits, wrap-add_left, wrap-add_right}
use Rattle.font_fixed.specs.Operations.{IsFloor, IsFract}

-- ---- sums are a commutative group modulo 2^w

pub wrap-add_comm : (w : ℕ) (a b : ℤ) → wrap w (a +ℤ b) ≡ wrap w (b +ℤ a)
wrap-add_comm w a b = ap (wrap w) (+ℤ_comm a b)

pub wrap-add_assoc : (w : ℕ) (a b c : ℤ) → 0 < w → wrap w (wrap w (a +ℤ b) +ℤ c) ≡ wrap w (a +ℤ wrap w (b +ℤ c))
wrap-add_assoc w a b c some =
    wrap-add_left w (a +ℤ b) c some ∙ ap (wrap w) (omega (arith, ints)) ∙ sym (wrap-add_right w a (b +ℤ c) some)

pub zero_is_neutral : (w : ℕ) (a : ℤ) → 0 < w → FitsBits w a → wrap w (a +ℤ pos 0) ≡ a
zero_is_neutral w a some fits = rw +ℤ_idr (wrap-fits w a some fits)

pub opposite_is_inverse : (w : ℕ) (a : ℤ) → 0 < w → wrap w (a +ℤ wrap w (neg_ℤ a)) ≡ wrap w (pos 0)
opposite_is_inverse w a some = wrap-add_right w a (neg_ℤ a) some ∙ ap (wrap w) (omega (arith, ints))

-- ---- the floor and the fractional part make the number, and the latter is at least 0 and below 1

pub floor_and_fract : (f : ℕ) (b p r : ℤ) → IsFloor f b p → IsFract f b r → (p +ℤ r) ≡ b
floor_and_fract f b p r floor fract = omega (arith, ints, floor.is ∙ sym fract.is_floor.is, fract.rest)

pub fract_is_below_one : (f : ℕ) (b r : ℤ) → IsFract f b r → (pos 0 ≤ℤ r) × (r <ℤ pos (2 ^ f))
fract_is_below_one f b r fract = grind (arith, nat_tests)
