-- How long a printed text can be.
use Rattle.std.specs.Prelude.{ℕ, ◌+◌, ◌-◌, ◌*◌, ◌/◌}

-- the length of the longest text of a w-bit number with f fraction bits: a sign, the digits of the integer part, a
-- point and the places
abbrev pub longest : ℕ → ℕ → ℕ
longest w f = (f * 3 / 10 + 1) + 2 + ((w - 1 - f) * 3 / 10 + 1)
