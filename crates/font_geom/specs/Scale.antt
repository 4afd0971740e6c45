-- Scales of outlines: 16.16 numbers of pixels in 26.6 for each font unit, over their raw values (FreeType:
-- FT_Size_Metrics, "x_scale: a 16.16 fractional scaling value used to convert horizontal metrics from font units to
-- 26.6 fractional pixels").
use Rattle.std.specs.Prelude.{ℕ, ◌+◌, ◌*◌, ◌^◌, ◌≤◌, ℤ, pos, ◌-ℤ◌, ◌*ℤ◌, unsigned_abs}
use Rattle.font_decimal.specs.Near.{near}
use Rattle.font_fixed.specs.Fixed.{fixed_bits}
use Rattle.font_geom.specs.declared.scale.Scale.{Scale}

-- the raw value of the factor
abbrev pub scale_bits : Scale → ℤ
scale_bits scale = fixed_bits scale.0

-- the factor of a size, a raw value in 26.6, for so many units per em: FT_DivFix
abbrev pub factor_of : ℤ → ℕ → ℤ
factor_of size units_per_em = near (size *ℤ pos 65536) units_per_em

-- the raw value in 26.6 is at most 1/2 + |units| / 2^17 from units * size / units_per_em, with both sides multiplied by
-- 2^17 * units_per_em
abbrev pub IsCloseScaled : ℤ → ℕ → ℤ → ℤ → Type 0
IsCloseScaled size units_per_em units pixels =
    2 ^ 17 * unsigned_abs (pixels *ℤ pos units_per_em -ℤ units *ℤ size) ≤ units_per_em * (65536 + unsigned_abs units)
