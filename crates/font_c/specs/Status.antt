-- The statuses that exports return, and what all exports have in common. OpenType has no statuses.
use Rattle.std.specs.Prelude.{◌≡◌, ◌≢◌, ◌↔◌, ◌+◌, ◌≤◌, ℕ, ℤ}
use Rattle.font_types.specs.Wrap.{FitsBits}

abbrev pub out_of_range : ℕ
out_of_range = 2

abbrev pub bad_fraction : ℕ
bad_fraction = 3

abbrev pub buffer_too_small : ℕ
buffer_too_small = 4

abbrev pub bad_pad : ℕ
bad_pad = 5

abbrev pub count_mismatch : ℕ
count_mismatch = 7

abbrev pub too_many : ℕ
too_many = 8

abbrev pub tag_length : ℕ
tag_length = 10

abbrev pub tag_byte : ℕ
tag_byte = 11

abbrev pub tag_after_space : ℕ
tag_after_space = 12

-- values of w bits may have f fraction bits: 6 to 30, with at least 2 bits for the sign and the integer
abbrev pub IsFraction : ℕ → ℕ → Type 0
IsFraction w f = (6 ≤ f) × (f ≤ 30) × (f + 2 ≤ w)

-- z is stored and the status is 0 if it fits in w bits; otherwise it is out of range, and the place unchanged
pub record StoresExact (w : ℕ) (z : ℤ) (status : ℕ) (old new : ℤ) : Type 0 where
  pub fits : (status ≡ 0) ↔ FitsBits w z
  pub stored : status ≡ 0 → new ≡ z
  pub known : status ≢ 0 → status ≡ out_of_range
  pub kept : status ≢ 0 → new ≡ old
