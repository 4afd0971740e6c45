-- The laws of a scalar: every value has one encoding.
pub mod Laws
use Rattle.std.specs.Prelude.{◌≡◌, ℕ, Bool, IsTrue, List, length}
use Rattle.font_base.specs.Bytes.{are_bytes}

-- Decoding gives a value, encoding gives raw bytes, each is the inverse of the other, and the encoded size is that of
-- the type. (own: a scalar can be read and written without loss)
pub record ScalarLaws {V R : Type 0} (is_scalar : V → Bool) (is_raw : R → Bool) (of_raw : R → V) (raw_of : V → R)
    (raw_len byte_len : ℕ) : Type 0 where
  pub of_raw_value : (r : R) → IsTrue (is_raw r) → IsTrue (is_scalar (of_raw r))
  pub raw_of_value : (v : V) → IsTrue (is_scalar v) → IsTrue (is_raw (raw_of v))
  pub back : (v : V) → IsTrue (is_scalar v) → of_raw (raw_of v) ≡ v
  pub forth : (r : R) → IsTrue (is_raw r) → raw_of (of_raw r) ≡ r
  pub lengths_agree : raw_len ≡ byte_len

-- v is the value with these bytes, each below 256
pub record IsValueOf {V R : Type 0} (bytes_of : R → List ℕ) (of_raw : R → V) (bytes : List ℕ) (v : V) : Type 0 where
  pub raw : R
  pub is_raw : bytes_of raw ≡ bytes
  pub value : v ≡ of_raw raw
  pub are : IsTrue (are_bytes (length bytes) bytes)
