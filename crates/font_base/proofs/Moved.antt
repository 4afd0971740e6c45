-- The bytes of the sum of an unsigned and a signed 16-bit number.
use Rattle.std.proofs.Common.{◌≡◌, ℕ, ◌+◌, ◌-◌, ◌<◌, ◌%◌, ℤ, pos, negsuc, neg_ℤ, ◌+ℤ◌, ◌-ℤ◌, ◌/◌, arith, SFits, of_z}
use Rattle.std.proofs.Common.{w16}
use Rattle.std.proofs.lemmas.Int.{ints}
use Rattle.font_base.specs.{Bytes.bytes_of, Bytes.Laws.bytes_of-same}

-- moved up by d, and down by d + 1: either wraps once at most
moved_up : (m d : ℕ) → m < 65536 → d < 65536 → bytes_of 2 (pos ((m + d) % 65536)) ≡ bytes_of 2 (pos m +ℤ pos d)
moved_up m d below small = bytes_of-same 2 _ _ (neg_ℤ (pos ((m + d) / 65536))) (omega (arith, ints))

moved_down : (m d : ℕ) → m < 65536 → d < 65536
    → bytes_of 2 (pos ((m + (65535 - d)) % 65536)) ≡ bytes_of 2 (pos m +ℤ negsuc d)
moved_down m d below small =
    bytes_of-same 2 _ _ (pos 1 -ℤ pos ((m + (65535 - d)) / 65536)) (omega (arith, ints, below, small))

-- the result of `wrapping_add_signed`
pub bytes_moved : (m : ℕ) (y : ℤ) → m < 65536 → SFits w16 y
    → bytes_of 2 (pos ((m + of_z w16 y) % 65536)) ≡ bytes_of 2 (pos m +ℤ y)
bytes_moved m (pos d) below fits = moved_up m d below (omega (arith, ints, fits))
bytes_moved m (negsuc d) below fits = grind (arith, moved_down m d below (omega (arith, ints, fits)))
