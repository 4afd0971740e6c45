-- Shifts to the right: the greatest multiple that is not greater.
use Rattle.std.proofs.Common.{◌≡◌, ◌∙◌, ap, refl, lit<, lit≤, ℕ, suc, ◌-◌, ◌*◌, ◌^◌, ◌<◌, ◌≤◌, ℤ, pos, ◌+ℤ◌, ◌*ℤ◌, ◌≤ℤ◌}
use Rattle.std.proofs.Common.{◌<ℤ◌, arith, SFits, to_z, of_z}
use Rattle.std.proofs.Math.Nat.{two-pow-succ, pow-le-pow_right}
use Rattle.std.proofs.{lemmas.Bool.Decides.nat_tests, lemmas.Int.ints, lemmas.Int.to_z-of_z}
use Rattle.std.specs.Int.{Width, w16, w32, w128}
use lib.Signed.{shr_z}
use Rattle.font_decimal.specs.Near.{up}
use Rattle.font_base.specs.Integers.{product-times}
use Rattle.font_decimal.proofs.{Integers.times-next, Integers.times_monotone, Near.up_gives}

pub shr_low : (z : ℤ) (d : ℕ) → 0 < d → (shr_z z d *ℤ pos d) ≤ℤ z
shr_low z d some = grind (arith, nat_tests)

pub shr_high : (z : ℤ) (d : ℕ) → 0 < d → z <ℤ ((shr_z z d *ℤ pos d) +ℤ pos d)
shr_high z d some = grind (arith, nat_tests)

pub shr_fits : (w : Width) (z : ℤ) (d : ℕ) → SFits w z → SFits w (shr_z z d)
shr_fits w z d fits = grind (arith, nat_tests)

-- half the divisor added before the shift: the quotient, rounded half up
pub shr_up : (n : ℤ) (half d : ℕ) → 0 < half → d ≡ 2 * half → shr_z (n +ℤ pos half) d ≡ up n d
shr_up n half d some is =
    let low = shr_low (n +ℤ pos half) d (omega (arith, some, is)) in
    let high = shr_high (n +ℤ pos half) d (omega (arith, some, is)) in
    let next = times-next (shr_z (n +ℤ pos half) d) d in
    up_gives n d (shr_z (n +ℤ pos half) d) (omega (arith, some, is)) (record {
      low = omega (arith, ints, low, is);
      high = omega (arith, ints, high, is, next);
    })

-- the floor of half more, in two shifts that do not overflow
halves_up : (half : ℕ) (n : ℤ) → 0 < half → shr_z (shr_z n half +ℤ pos 1) 2 ≡ up n (2 * half)
halves_up half n some =
    let halves = shr_z n half in
    let nearest = shr_z (halves +ℤ pos 1) 2 in
    let whole = product-times nearest (pos 2) (pos half) in
    let low = times_monotone (nearest *ℤ pos 2) (halves +ℤ pos 1) half (shr_low (halves +ℤ pos 1) 2 (lit< tt)) in
    let high = times_monotone (halves +ℤ pos 1) ((nearest *ℤ pos 2) +ℤ pos 1) half
    (omega (arith, ints, shr_high (halves +ℤ pos 1) 2 (lit< tt))) in
    let below = shr_low n half some in
    let above = shr_high n half some in
    let next = times-next halves half in
    let more = times-next (nearest *ℤ pos 2) half in
    let last = times-next nearest (2 * half) in
    up_gives n (2 * half) nearest (omega (arith, some)) (record {
      low = omega (arith, ints, below, next, whole, low);
      high = omega (arith, ints, above, next, more, last, whole, high);
    })

-- the same in the form of the goals of code
halves_fit : (w : Width) (half : ℕ) (n : ℤ) → 2 ≤ half → SFits w n
    → SFits w (to_z w (of_z w (shr_z (to_z w (of_z w n)) half)) +ℤ pos 1)
halves_fit w half n more fits = grind (arith, ints, shr_low, shr_high, to_z-of_z, shr_fits)

halves_up_code : (w : Width) (half d : ℕ) (n : ℤ) → 2 ≤ half → d ≡ 2 * half → SFits w n
    → to_z w (of_z w (shr_z (to_z w (of_z w
    (to_z w (of_z w (shr_z (to_z w (of_z w n)) half)) +ℤ pos 1))) 2)) ≡ up n d
halves_up_code w half d n more is fits = grind (arith, ints, shr_low, shr_high, to_z-of_z, shr_fits, halves_up)

pub halves_up_128 : (n : ℤ) → SFits w128 n
    → to_z w128 (of_z w128 (shr_z (to_z w128 (of_z w128
    (to_z w128 (of_z w128 (shr_z (to_z w128 (of_z w128 n)) 32768)) +ℤ pos 1))) 2)) ≡ up n 65536
halves_up_128 n fits = halves_up_code w128 32768 65536 n (lit≤ tt) refl fits

-- by f bits
half_power : (f : ℕ) → 2 ≤ f → (2 ≤ 2 ^ (f - 1)) × (2 ^ f ≡ 2 * 2 ^ (f - 1))
half_power f many =
    let is : f ≡ suc (f - 1) = omega (arith, many) in (
      pow-le-pow_right {n = 2} (lit< tt) {i = 1} {j = f - 1} (omega (arith, many)),
      ap (λ n. 2 ^ n) is ∙ omega (arith, two-pow-succ (f - 1)),
    )

pub half_power_fits : (w : Width) (f : ℕ) (n : ℤ) → 2 ≤ f → SFits w n
    → SFits w (to_z w (of_z w (shr_z (to_z w (of_z w n)) (2 ^ (f - 1)))) +ℤ pos 1)
half_power_fits w f n many fits = halves_fit w (2 ^ (f - 1)) n (half_power f many).0 fits

pub half_up_is : (w : Width) (f : ℕ) (n : ℤ) → 2 ≤ f → SFits w n
    → to_z w (of_z w (shr_z (to_z w (of_z w
    (to_z w (of_z w (shr_z (to_z w (of_z w n)) (2 ^ (f - 1)))) +ℤ pos 1))) 2)) ≡ up n (2 ^ f)
half_up_is w f n many fits = halves_up_code w (2 ^ (f - 1)) (2 ^ f) n (half_power f many).0 (half_power f many).1 fits

pub ruleset half_up = (half_power_fits, half_up_is)

-- ---- the average of two 16-bit numbers, rounded half up: it fits, in the form of the goals of code

average_fits : (w : Width) (a b : ℤ) → SFits w a → SFits w b → SFits w (shr_z ((a +ℤ b) +ℤ pos 1) 2)
average_fits w a b fits_a fits_b =
    let low = shr_low ((a +ℤ b) +ℤ pos 1) 2 (lit< tt) in
    let high = shr_high ((a +ℤ b) +ℤ pos 1) 2 (lit< tt) in
    grind (arith, ints, low, high)

pub average_fits_16 : (a b : ℤ) → SFits w16 a → SFits w16 b → SFits w16 (shr_z ((a +ℤ b) +ℤ pos 1) 2)
average_fits_16 = average_fits w16

average_code : (a b : ℤ) → SFits w16 a → SFits w16 b
    → to_z w16 (of_z w16 (to_z w32 (of_z w32 (shr_z (to_z w32 (of_z w32
    (to_z w32 (of_z w32 (to_z w32 (of_z w32 a) +ℤ to_z w32 (of_z w32 b))) +ℤ pos 1))) 2)))) ≡ up (a +ℤ b) 2
average_code a b fits_a fits_b =
    let wide_a : SFits w32 a = omega (arith, ints, fits_a) in
    let wide_b : SFits w32 b = omega (arith, ints, fits_b) in
    let sum : SFits w32 (a +ℤ b) = omega (arith, ints, fits_a, fits_b) in
    let more : SFits w32 ((a +ℤ b) +ℤ pos 1) = omega (arith, ints, fits_a, fits_b) in
    rw (
      to_z-of_z w32 a wide_a,
      to_z-of_z w32 b wide_b,
      to_z-of_z w32 (a +ℤ b) sum,
      to_z-of_z w32 ((a +ℤ b) +ℤ pos 1) more,
      to_z-of_z w32 (shr_z ((a +ℤ b) +ℤ pos 1) 2) (shr_fits w32 ((a +ℤ b) +ℤ pos 1) 2 more),
      to_z-of_z w16 (shr_z ((a +ℤ b) +ℤ pos 1) 2) (average_fits w16 a b fits_a fits_b),
    )
    (shr_up (a +ℤ b) 1 2 (lit< tt) refl)

pub average_is : (a b x y : ℤ) → SFits w16 x → SFits w16 y → a ≡ x → b ≡ y
    → to_z w16 (of_z w16 (to_z w32 (of_z w32 (shr_z (to_z w32 (of_z w32
    (to_z w32 (of_z w32 (to_z w32 (of_z w32 a) +ℤ to_z w32 (of_z w32 b))) +ℤ pos 1))) 2)))) ≡ up (x +ℤ y) 2
average_is a b x y fits_x fits_y is_x is_y = rw (is_x, is_y) (average_code x y fits_x fits_y)
