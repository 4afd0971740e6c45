-- An `Int24` and its three bytes determine each other.
use Rattle.std.proofs.Common.{◌≡◌, ◌∙◌, ap, sym, true, ℕ, ℤ, pos, neg_ℤ, ◌≤ℤ◌, ◌<ℤ◌, List, IsTrue, lit<, arith}
use Rattle.std.specs.{Bool.Decides, Ordering.int_eq}
use mathlib.Core.HLevel.{is_prop→PathP}
use denote.Struct.Props.{props}
use Rattle.font_base.specs.Bytes.{are_bytes, bytes_of, signed_numeral}
use Rattle.font_base.specs.Bytes.Laws.{are_bytes-bytes_of, signed_numeral-bytes_of, FitsBits-signed_numeral}
use Rattle.font_base.specs.Bytes.Laws.{bytes_of-signed_numeral}
use Rattle.font_base.specs.Int24.{int24_number, int24_of, int24_of_bytes, bytes_of_int24}
use Rattle.font_base.specs.{declared.int24.Int24.Int24, Wrap.FitsBits, Wrap.Laws.wrap-fits, Scalar.ScalarLaws}

-- equal values are the same `Int24`
pub same_int24 : (m n : Int24) → int24_number m ≡ int24_number n → m ≡ n
same_int24 m n same =
    let low : (z : ℤ) → IsProp (neg_ℤ (pos 8388608) ≤ℤ z) = λ z. hlevel props in
    let high : (z : ℤ) → IsProp (z <ℤ pos 8388608) = λ z. hlevel props in
    λ i. record {
      value = same i;
      low = is_prop→PathP (λ j. neg_ℤ (pos 8388608) ≤ℤ same j) (λ j. low (same j)) m.low n.low i;
      high = is_prop→PathP (λ j. same j <ℤ pos 8388608) (λ j. high (same j)) m.high n.high i;
    }

pub int24_number-of : (z : ℤ) → FitsBits 24 z → int24_number (int24_of z) ≡ z
unfolding int24_of
int24_number-of z fits = wrap-fits 24 z (lit< tt) fits

int24_back : (n : Int24) → int24_of_bytes (bytes_of_int24 n) ≡ n
int24_back n = grind (arith, signed_numeral-bytes_of, same_int24, int24_number-of)

int24_forth : (bytes : List ℕ) → IsTrue (are_bytes 3 bytes) → bytes_of_int24 (int24_of_bytes bytes) ≡ bytes
int24_forth bytes are =
    ap (λ z. bytes_of 3 z) (int24_number-of (signed_numeral 3 bytes) (FitsBits-signed_numeral 3 bytes (lit< tt)))
    ∙ bytes_of-signed_numeral 3 bytes (lit< tt) are

-- an `Int24` is a scalar
pub int24_laws : ScalarLaws (λ (n : Int24). true) (are_bytes 3) int24_of_bytes bytes_of_int24 3 3
int24_laws = grind (arith, are_bytes-bytes_of, int24_back, int24_forth)

-- decoding the bytes of a value gives the value
pub int24_read : (n : Int24) (bytes : List ℕ) → bytes ≡ bytes_of 3 (int24_number n) → n ≡ int24_of_bytes bytes
int24_read n bytes given = sym (int24_back n) ∙ ap int24_of_bytes (sym given)

-- `==` is identity
pub int24_identity : (m n : Int24) → Decides (int_eq (int24_number m) (int24_number n)) (m ≡ n)
int24_identity m n = grind (arith, same_int24)
