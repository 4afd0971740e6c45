-- The scalar and equality laws of a newtype of a scalar.
use Rattle.std.proofs.Common.{◌≡◌, ℕ, Bool, arith}
use Rattle.std.specs.Bool.{Decides}
use Rattle.font_base.specs.Scalar.{ScalarLaws}

-- the laws of the inner type hold for the newtype
pub newtype_laws : {V T R : Type 0} {is_scalar : V → Bool} {is_raw : R → Bool} {of_raw : R → V} {raw_of : V → R}
    {raw_len byte_len : ℕ}
    (held : T → V) (holder : V → T) → ((v : V) → held (holder v) ≡ v) → ((x : T) → holder (held x) ≡ x)
    → ScalarLaws is_scalar is_raw of_raw raw_of raw_len byte_len
    → ScalarLaws (λ x. is_scalar (held x)) is_raw (λ r. holder (of_raw r)) (λ x. raw_of (held x)) raw_len byte_len
newtype_laws {of_raw = of_raw} {raw_of = raw_of} held holder there back laws = grind arith

pub newtype_identity : {V T : Type 0} {E : V → V → Bool} (held : T → V) (holder : V → T)
    → ((x : T) → holder (held x) ≡ x)
    → ((v w : V) → Decides (E v w) (v ≡ w)) → (x y : T) → Decides (E (held x) (held y)) (x ≡ y)
newtype_identity held holder back identity x y = grind arith
