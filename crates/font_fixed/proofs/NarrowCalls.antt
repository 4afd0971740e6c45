-- Rules for callers of narrowings: numbers from -1 to 1 stay in that range, and integers and widened numbers come back.
-- Widened 16-bit numbers have exact differences.
use Rattle.std.proofs.Common.{◌≡◌, ◌∙◌, refl, lit<, ℕ, ◌-◌, ◌*◌, ◌^◌, ◌<◌, ℤ, pos, neg_ℤ, ◌+ℤ◌, ◌*ℤ◌, ◌-ℤ◌, ◌≤ℤ◌, ◌<ℤ◌}
use Rattle.std.proofs.Common.{arith, w16, w32, w64, pow_pos, SFits, to_z, of_z}
use Rattle.std.proofs.lemmas.Int.{ints, to_z-of_z}
use Rattle.font_base.specs.Wrap.Laws.{wrap-fits, wrap_is, wrap_same}
use Rattle.font_base.specs.{Integers.sum-times, Integers.product-times, Wrap.wrap, Wrap.FitsBits}
use Rattle.font_decimal.specs.Near.{Up, up}
use Rattle.font_decimal.proofs.{Integers.neg-times, Near.up_is, Near.up_monotone, Near.up_whole, Near.up-times}
use Rattle.font_fixed.specs.Operations.{least, greatest, narrowed}
use Rattle.font_fixed.proofs.{Calls.fits_32, Sums.sums}

-- ---- of any width

-- from the least number of v bits to the greatest, nothing wraps
pub narrowed_near : (v d : ℕ) (n : ℤ) → 0 < v → 0 < d → (least v *ℤ pos d) ≤ℤ n → n ≤ℤ (greatest v *ℤ pos d)
    → Up n d (narrowed v n d)
narrowed_near v d n wide some low high =
    let nearest = up_is n d some in
    let from = up_monotone (up_whole (least v) d some) nearest low in
    let to = up_monotone nearest (up_whole (greatest v) d some) high in
    let fits : FitsBits v (up n d) = omega (arith, ints, from, to, pow_pos (v - 1)) in
    rw (wrap-fits v (up n d) wide fits) nearest

-- an integral number of steps comes back
narrowed-times : (v d : ℕ) (z : ℤ) → 0 < v → 0 < d → FitsBits v z → wrap v (up (z *ℤ pos d) d) ≡ z
narrowed-times v d z wide some fits = rw (up-times z d some) (wrap-fits v z wide fits)

-- wrapped to the bits of both, it comes back as it would be wrapped alone
pub narrowed-wrap_times : (u v d : ℕ) (q : ℤ) → 0 < u → 0 < v → 2 ^ u ≡ 2 ^ v * d → 0 < d
    → narrowed v (wrap u (q *ℤ pos d)) d ≡ wrap v q
narrowed-wrap_times u v d q long wide split some =
    let whole = wrap_is u (q *ℤ pos d) long in
    let turns : ℤ = neg_ℤ whole.turns *ℤ pos (2 ^ v) in
    let unwound : (turns *ℤ pos d) ≡ neg_ℤ (whole.turns *ℤ pos (2 ^ u)) =
    rw split (product-times (neg_ℤ whole.turns) (pos (2 ^ v)) (pos d) ∙ neg-times whole.turns (2 ^ v * d)) in
    let unwrapped : wrap u (q *ℤ pos d) ≡ ((q +ℤ turns) *ℤ pos d) =
    omega (arith, sums, whole.differs, unwound, sum-times q turns (pos d)) in
    rw (unwrapped, up-times (q +ℤ turns) d some) (wrap_same v (q +ℤ turns) q (neg_ℤ whole.turns) wide refl)

narrowed-wrapped_times : (u v d : ℕ) (z : ℤ) → 0 < u → 0 < v → 2 ^ u ≡ 2 ^ v * d → 0 < d → FitsBits v z
    → wrap v (up (wrap u (z *ℤ pos d)) d) ≡ z
narrowed-wrapped_times u v d z long wide split some fits = grind (arith, narrowed-wrap_times, wrap-fits)

-- ---- 16.16 to 2.14

quarter : (b : ℤ) → neg_ℤ (pos 131072) ≤ℤ b → b ≤ℤ pos 131068 → Up b 4 (wrap 16 (up b 4))
quarter b low high = narrowed_near 16 4 b (lit< tt) (lit< tt) low high

-- numbers from -1 to 1 stay in that range, and those from 0 to 1 in theirs
pub quarter_at_least : (b : ℤ) → neg_ℤ (pos 65536) ≤ℤ b → b ≤ℤ pos 65536 → neg_ℤ (pos 16384) ≤ℤ wrap 16 (up b 4)
quarter_at_least b low high = omega (arith, ints, quarter b (omega (arith, ints)) (omega (arith, ints)))

pub quarter_at_most : (b : ℤ) → neg_ℤ (pos 65536) ≤ℤ b → b ≤ℤ pos 65536 → wrap 16 (up b 4) ≤ℤ pos 16384
quarter_at_most b low high = omega (arith, ints, quarter b (omega (arith, ints)) (omega (arith, ints)))

pub quarter_not_negative : (b : ℤ) → pos 0 ≤ℤ b → b ≤ℤ pos 65536 → pos 0 ≤ℤ wrap 16 (up b 4)
quarter_not_negative b low high = omega (arith, ints, quarter b (omega (arith, ints)) (omega (arith, ints)))

pub quarter_zero : wrap 16 (up (pos 0) 4) ≡ pos 0
quarter_zero = narrowed-times 16 4 (pos 0) (lit< tt) (lit< tt) (omega (arith, ints))

pub quarter_neg_one : wrap 16 (up (neg_ℤ (pos 65536)) 4) ≡ neg_ℤ (pos 16384)
quarter_neg_one = narrowed-times 16 4 (neg_ℤ (pos 16384)) (lit< tt) (lit< tt) (omega (arith, ints))

pub quarter_one : wrap 16 (up (pos 65536) 4) ≡ pos 16384
quarter_one = narrowed-times 16 4 (pos 16384) (lit< tt) (lit< tt) (omega (arith, ints))

pub quarter_back : (z : ℤ) → SFits w16 z → wrap 16 (up (z *ℤ pos 4) 4) ≡ z
quarter_back z fits = narrowed-times 16 4 z (lit< tt) (lit< tt) (omega (arith, ints))

-- the difference of two widened numbers is exact
pub quarter_difference : (a b : ℤ) → SFits w16 a → SFits w16 b
    → wrap 32 ((b *ℤ pos 4) -ℤ (a *ℤ pos 4)) ≡ ((b -ℤ a) *ℤ pos 4)
quarter_difference a b fits_a fits_b = grind (arith, ints, fits_32)

-- ---- integers

-- of 16 bits, in 16.16
pub whole_16_back : (z : ℤ) → SFits w16 z → wrap 16 (up (z *ℤ pos 65536) 65536) ≡ z
whole_16_back z fits = narrowed-times 16 65536 z (lit< tt) (lit< tt) (omega (arith, ints))

pub whole_16_back_wrapped : (z : ℤ) → SFits w16 z → wrap 16 (up (wrap 32 (z *ℤ pos 65536)) 65536) ≡ z
whole_16_back_wrapped z fits = grind (arith, narrowed-wrapped_times)

-- and from there as 26.6
steps_of_64 : (z : ℤ) → (z *ℤ pos 65536) ≡ ((z *ℤ pos 64) *ℤ pos 1024)
steps_of_64 z = omega (arith, ints)

pub whole_as_26_6_wrapped : (z : ℤ) → SFits w16 z → wrap 22 (up (wrap 32 (z *ℤ pos 65536)) 1024) ≡ (z *ℤ pos 64)
whole_as_26_6_wrapped z fits = grind (arith, steps_of_64, narrowed-wrapped_times)

-- the same if 16.16 was exact
pub whole_as_26_6 : (z : ℤ) → SFits w16 z → wrap 22 (up (z *ℤ pos 65536) 1024) ≡ (z *ℤ pos 64)
whole_as_26_6 z fits = grind (arith, steps_of_64, narrowed-times)

-- of 26 bits, in 26.6
pub whole_26_back : (z : ℤ) → neg_ℤ (pos 33554432) ≤ℤ z → z <ℤ pos 33554432 → wrap 26 (up (z *ℤ pos 64) 64) ≡ z
whole_26_back z low high = narrowed-times 26 64 z (lit< tt) (lit< tt) (record { low = low; high = high })

pub whole_26_back_wrapped : (z : ℤ) → neg_ℤ (pos 33554432) ≤ℤ z → z <ℤ pos 33554432
    → wrap 26 (up (wrap 32 (z *ℤ pos 64)) 64) ≡ z
whole_26_back_wrapped z low high = grind (arith, narrowed-wrapped_times)

-- of 32 and of 48 bits, in 48.16
pub whole_32_back : (z : ℤ) → SFits w32 z → wrap 32 (up (z *ℤ pos 65536) 65536) ≡ z
whole_32_back z fits = narrowed-times 32 65536 z (lit< tt) (lit< tt) (omega (arith, ints))

pub whole_48_back : (z : ℤ) → SFits w32 z → wrap 48 (up (z *ℤ pos 65536) 65536) ≡ z
whole_48_back z fits = narrowed-times 48 65536 z (lit< tt) (lit< tt) (omega (arith, ints))

-- a number of 32 bits as one of 64
pub as_64 : (z : ℤ) → SFits w32 z → to_z w64 (of_z w64 z) ≡ z
as_64 z fits = to_z-of_z w64 z (omega (arith, ints))

pub whole_48_back_wrapped : (z : ℤ) → neg_ℤ (pos 140737488355328) ≤ℤ z → z <ℤ pos 140737488355328
    → wrap 48 (up (wrap 64 (z *ℤ pos 65536)) 65536) ≡ z
whole_48_back_wrapped z low high = grind (arith, narrowed-wrapped_times)

-- ---- unsigned font units from 32768 on, in 16.16

pub wrapped_once_32 : (z : ℤ) → pos 2147483648 ≤ℤ z → z <ℤ pos 6442450944 → wrap 32 z ≡ (z -ℤ pos 4294967296)
wrapped_once_32 z low high =
    wrap_same 32 z (z -ℤ pos 4294967296) (pos 1) (lit< tt) (omega (arith, ints))
    ∙ fits_32 (z -ℤ pos 4294967296) (omega (arith, ints))

pub ruleset narrow_calls = (
  quarter_at_least,
  quarter_at_most,
  quarter_not_negative,
  quarter_zero,
  quarter_one,
  quarter_back,
  whole_16_back,
  whole_16_back_wrapped,
  whole_as_26_6_wrapped,
  whole_26_back_wrapped,
  whole_32_back,
  whole_48_back_wrapped,
  quarter_difference,
  whole_as_26_6,
  whole_26_back,
  whole_48_back,
  as_64,
  wrapped_once_32,
)
