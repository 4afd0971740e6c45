-- A `Uint24` and its three bytes determine each other.
use Rattle.std.proofs.Common.{◌≡◌, ◌∙◌, ap, sym, true, ℕ, ◌^◌, ◌<◌, List, IsTrue, nat_eq, pos, arith}
use Rattle.std.proofs.Math.Nat.{mod-eq_of_lt}
use Rattle.std.specs.Bool.{Decides}
use mathlib.Core.HLevel.{is_prop→PathP}
use denote.Struct.Props.{props}
use Rattle.font_base.specs.Bytes.Laws.{are_bytes-bytes_of, numeral-bytes_of, numeral_below, bytes_of-numeral}
use Rattle.font_base.specs.Uint24.{uint24_number, uint24_of, uint24_of_bytes, bytes_of_uint24}
use Rattle.font_base.specs.{declared.uint24.Uint24.Uint24, Bytes.are_bytes, Bytes.bytes_of, Scalar.ScalarLaws}

-- equal values are the same `Uint24`
pub same_uint24 : (m n : Uint24) → uint24_number m ≡ uint24_number n → m ≡ n
same_uint24 m n same =
    let prop : (k : ℕ) → IsProp (k < 2 ^ 24) = λ k. hlevel props in
    λ i. record {
      value = same i;
      in_range = is_prop→PathP (λ j. same j < 2 ^ 24) (λ j. prop (same j)) m.in_range n.in_range i;
    }

pub uint24_number-of : (n : ℕ) → n < 2 ^ 24 → uint24_number (uint24_of n) ≡ n
unfolding uint24_of
uint24_number-of n below = mod-eq_of_lt below

uint24_back : (n : Uint24) → uint24_of_bytes (bytes_of_uint24 n) ≡ n
uint24_back n = grind (arith, numeral-bytes_of, same_uint24, uint24_number-of)

uint24_forth : (bytes : List ℕ) → IsTrue (are_bytes 3 bytes) → bytes_of_uint24 (uint24_of_bytes bytes) ≡ bytes
uint24_forth bytes are = grind (arith, uint24_number-of, numeral_below, bytes_of-numeral)

-- a `Uint24` is a scalar
pub uint24_laws : ScalarLaws (λ (n : Uint24). true) (are_bytes 3) uint24_of_bytes bytes_of_uint24 3 3
uint24_laws = grind (arith, are_bytes-bytes_of, uint24_back, uint24_forth)

-- decoding the bytes of a value gives the value
pub uint24_read : (n : Uint24) (bytes : List ℕ) → bytes ≡ bytes_of 3 (pos (uint24_number n)) → n ≡ uint24_of_bytes bytes
uint24_read n bytes given = sym (uint24_back n) ∙ ap uint24_of_bytes (sym given)

-- `==` is identity
pub uint24_identity : (m n : Uint24) → Decides (nat_eq (uint24_number m) (uint24_number n)) (m ≡ n)
uint24_identity m n = grind (arith, same_uint24)
