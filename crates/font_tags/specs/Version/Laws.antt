-- A version and its four bytes determine each other, and `==` is identity.
use Rattle.std.proofs.Common.{◌≡◌, refl, ◌^◌, ◌&&◌, nat_eq, nat_lt, arith}
use Rattle.std.specs.Bool.{Decides}
use Rattle.font_base.specs.{Bytes.are_bytes, Scalar.ScalarLaws, Scalar.Laws.unsigned_laws, Records.record_laws}
use Rattle.font_tags.specs.{declared.version.MajorMinor.MajorMinor, Version.major_minor_bytes, Version.major_minor_of}

pub major_minor_laws : ScalarLaws (λ version. nat_lt version.major (2 ^ 16) && nat_lt version.minor (2 ^ 16))
    (are_bytes 4) major_minor_of major_minor_bytes 4 4
major_minor_laws = record_laws 2 2 (λ (v : MajorMinor). v.major) (λ v. v.minor)
    (λ major minor. record { major = major; minor = minor }) (λ _ _. refl) (λ _ _. refl) (λ _. refl)
    (unsigned_laws 2) (unsigned_laws 2)

pub major_minor_identity : (a b : MajorMinor) → Decides (nat_eq a.major b.major && nat_eq a.minor b.minor) (a ≡ b)
major_minor_identity a b = grind arith
