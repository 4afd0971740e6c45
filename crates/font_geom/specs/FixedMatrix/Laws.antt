-- Products of `Fixed` are rounded, and so not associative.
use Rattle.std.proofs.Common.{◌≡◌, ◌∙◌, sym, ap, pos, refl}
use Rattle.font_base.specs.Wrap.{wrap}
use Rattle.font_decimal.specs.Near.{near}
use Rattle.font_fixed.specs.Fixed.{fixed_bits, fixed_of}
use Rattle.font_geom.specs.FixedMatrix.{wrapped_product, ProductsAssociate}

-- half a unit rounds away from zero, so multiplying one unit by one half twice leaves it unchanged
pub step_halved_twice : wrapped_product (wrapped_product (pos 1) (pos 0x8000)) (pos 0x8000) ≡ pos 1
unfolding near wrap
step_halved_twice = refl

-- and a quarter of a unit rounds to zero
pub step_quartered : wrapped_product (pos 1) (wrapped_product (pos 0x8000) (pos 0x8000)) ≡ pos 0
unfolding near wrap
step_quartered = refl

pub not_associative : ¬ ProductsAssociate
not_associative associate =
    let half = fixed_of (pos 0x8000) in
    let same = ap fixed_bits (associate (fixed_of (pos 1)) half half) in
    let one_is_none : pos 1 ≡ pos 0 = sym step_halved_twice ∙ same ∙ step_quartered in
    absurd (cc)
