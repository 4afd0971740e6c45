-- Rounding a fixed-point number to an integer, half up: the raw value of that integer.
use Rattle.std.specs.Prelude.{◌^◌, ℕ, ℤ, pos, ◌*ℤ◌}
use Rattle.font_decimal.specs.Near.{up}

-- the raw value of the integer nearest to b / 2^f, half up
abbrev pub rounded : ℕ → ℤ → ℤ
rounded f b = up b (2 ^ f) *ℤ pos (2 ^ f)
