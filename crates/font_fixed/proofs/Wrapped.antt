-- The results of std's calls on the bits of a number, by `wrap`. Goals have the bits n of a width, and m = 2^n, as
-- literals.
use Rattle.std.proofs.Common.{◌≡◌, ◌∙◌, ℕ, ◌+◌, ◌-◌, ◌*◌, ◌%◌, ◌^◌, ℤ, pos, neg_ℤ, ◌+ℤ◌, ◌-ℤ◌, ◌*ℤ◌, unsigned_abs}
use Rattle.std.proofs.Common.{arith, SFits, to_z, of_z}
use Rattle.std.proofs.lemmas.Int.{wrapping_add_is, wrapping_sub_is, wrapping_mul_onto, wrapping_neg_is, to_z-of_z}
use Rattle.std.proofs.Math.Facts.{Fits-of_z}
use Rattle.std.specs.Int.{Width, int_wrapping_neg}
use mir.Val.{bits}
use Rattle.font_base.specs.Wrap.{wrap}
use Rattle.font_base.proofs.Widths.{int_wrap-wrap, to_z-wrap}

-- a sum that wraps
pub wrapping_add-wrap : (w : Width) (n m : ℕ) (x y : ℤ) → n ≡ bits w → m ≡ 2 ^ n → SFits w x → SFits w y
    → to_z w ((of_z w x + of_z w y) % m) ≡ wrap n (x +ℤ y)
wrapping_add-wrap w n m x y is all f g = rw (all, is) (wrapping_add_is w x y f g ∙ int_wrap-wrap w (x +ℤ y))

pub wrapping_sub-wrap : (w : Width) (n m : ℕ) (x y : ℤ) → n ≡ bits w → m ≡ 2 ^ n → SFits w x → SFits w y
    → to_z w ((of_z w x + (m - of_z w y)) % m) ≡ wrap n (x -ℤ y)
wrapping_sub-wrap w n m x y is all f g = rw (all, is) (wrapping_sub_is w x y f g ∙ int_wrap-wrap w (x -ℤ y))

-- a negated number that wraps
pub wrapping_neg-wrap : (w : Width) (n : ℕ) (x r : ℤ) → n ≡ bits w → SFits w x → SFits w r
    → r ≡ int_wrapping_neg w (to_z w (of_z w x)) → to_z w (of_z w r) ≡ wrap n (neg_ℤ x)
wrapping_neg-wrap w n x r all f g is = grind (arith, to_z-of_z, wrapping_neg_is, int_wrap-wrap)

-- a magnitude that is read as a signed number
pub wrapping_abs-wrap : (w : Width) (n : ℕ) (x r : ℤ) → n ≡ bits w → SFits w x
    → r ≡ to_z w (unsigned_abs (to_z w (of_z w x))) → to_z w (of_z w r) ≡ wrap n (pos (unsigned_abs x))
wrapping_abs-wrap w n x r all f is = grind (arith, to_z-wrap)

-- a number times a constant
pub wrapping_mul-wrap : (w : Width) (n m : ℕ) (x : ℤ) (d : ℕ) → n ≡ bits w → m ≡ 2 ^ n → SFits w x → SFits w (pos d)
    → to_z w (of_z w x * d % m) ≡ wrap n (x *ℤ pos d)
wrapping_mul-wrap w n m x d is all f g =
    grind (arith, wrapping_mul_onto w (of_z w x) (pos d) (Fits-of_z f).fits g, int_wrap-wrap w (x *ℤ pos d))
