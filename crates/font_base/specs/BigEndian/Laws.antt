-- Fields are equal if and only if their bytes are, and their order agrees with that.
use Rattle.std.proofs.Common.{◌≡◌, ℕ, List, Bool, nat_eq, IsTrue}
use Rattle.std.specs.{Bool.Decides, Cmp.Lexicographic.pointwise, Cmp.Lexicographic.bytes_decides, Ordering.is_eq}
use mathlib.Core.HLevel.{is_prop→PathP}
use denote.Struct.Props.{props}
use Rattle.font_base.specs.declared.raw.BeByteArray as BeByteArray
use Rattle.font_base.specs.declared.raw.FixedSize as FixedSize
use Rattle.font_base.specs.declared.raw.Scalar as Scalar
use Rattle.font_base.specs.{declared.big_endian.BigEndian.BigEndian, BigEndian.raw_value}
use Rattle.std.specs.declared.cmp.Ordering.{Ordering}
use Rattle.std.proofs.Common.{arith}

-- if `==` of the values is identity, an order that agrees with it also agrees with equality of their bytes
pub same_answer : {V : Type 0} (R : V → V → Ordering) (E : V → V → Bool) → ((a b : V) → E a b ≡ is_eq (R a b))
    → ((a b : V) → Decides (E a b) (a ≡ b))
    → (a b : V) (xs ys : List ℕ) → (xs ≡ ys → a ≡ b) → (a ≡ b → xs ≡ ys) → pointwise nat_eq xs ys ≡ is_eq (R a b)
same_answer R E agrees identity a b xs ys to from = grind (arith, bytes_decides)

-- fields with the same raw bytes are the same
pub same_field : {T R X : Type 0} {scalar : Scalar.Ghosts T X} {size : FixedSize.Ghosts T} {x : BeByteArray.Ghosts X}
    {r : BeByteArray.Ghosts R}
    → (a b : BigEndian T R X scalar size x r) → raw_value a ≡ raw_value b → a ≡ b
same_field {R = R} {r = r} a b same =
    let prop : (raw : R) → IsProp (IsTrue (r.is_value raw)) = λ raw. hlevel props in
    λ i. record {
      raw = same i;
      scalar = a.scalar;
      value = is_prop→PathP (λ j. IsTrue (r.is_value (same j))) (λ j. prop (same j)) a.value b.value i;
    }
