-- Rounding a fraction to an integer. A fixed-point number with f fraction bits is its raw value over 2^f (OpenType,
-- data types: Fixed, F2DOT14), so parsing, printing and arithmetic all round an exact fraction n / d with 0 < d.
use Rattle.std.specs.Prelude.{◌≡◌, ℕ, suc, ◌+◌, ◌*◌, ◌/◌, ◌<◌, ◌≤◌, Bool, true, false, ℤ, pos, negsuc, neg_ℤ, ◌+ℤ◌}
use Rattle.std.specs.Prelude.{◌-ℤ◌, ◌*ℤ◌, ◌≤ℤ◌, ◌<ℤ◌, unsigned_abs}

-- the integer with this magnitude, negated if `negative`
abbrev pub signed : Bool → ℕ → ℤ
signed false n = pos n
signed true n = neg_ℤ (pos n)

-- q is n / d rounded half away from zero: the nearest integer and, of two equally near, the one farther from zero
pub record Near (n : ℤ) (d : ℕ) (q : ℤ) : Type 0 where
  pub close : 2 * unsigned_abs (q *ℤ pos d -ℤ n) ≤ d
  pub away : 2 * unsigned_abs (q *ℤ pos d -ℤ n) ≡ d → unsigned_abs n < unsigned_abs q * d

-- n / d rounded half up: the floor of n / d + 1/2
abbrev pub near_magnitude : ℕ → ℕ → ℕ
near_magnitude n d = (2 * n + d) / (2 * d)

-- the unique q with `Near n d q`: the magnitude is rounded, and the sign kept
unfoldable pub near : ℤ → ℕ → ℤ
near (pos n) d = pos (near_magnitude n d)
near (negsuc n) d = neg_ℤ (pos (near_magnitude (suc n) d))

-- q is n / d rounded half up: the nearest integer and, of two equally near, the greater
pub record Up (n : ℤ) (d : ℕ) (q : ℤ) : Type 0 where
  pub low : (pos 2 *ℤ (q *ℤ pos d)) ≤ℤ (pos 2 *ℤ n +ℤ pos d)
  pub high : (pos 2 *ℤ n +ℤ pos d) <ℤ (pos 2 *ℤ ((q +ℤ pos 1) *ℤ pos d))

-- the unique q with `Up n d q`: a negative tie is rounded toward zero
unfoldable pub up : ℤ → ℕ → ℤ
up (pos n) d = pos (near_magnitude n d)
up (negsuc n) d = neg_ℤ (pos ((2 * n + 1 + d) / (2 * d)))
