-- Big-endian fields.
pub mod Laws
use Rattle.font_base.specs.declared.raw.BeByteArray as BeByteArray
use Rattle.font_base.specs.declared.raw.FixedSize as FixedSize
use Rattle.font_base.specs.declared.raw.Scalar as Scalar
use Rattle.font_base.specs.declared.big_endian.BigEndian.{BigEndian}

-- the raw bytes of a field
abbrev pub raw_value : {T R X : Type 0} {scalar : Scalar.Ghosts T X} {size : FixedSize.Ghosts T}
    {x : BeByteArray.Ghosts X} {r : BeByteArray.Ghosts R} → BigEndian T R X scalar size x r → R
raw_value field = field.raw
