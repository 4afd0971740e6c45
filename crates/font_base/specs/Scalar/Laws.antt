-- The laws of a scalar that is an integer or a newtype of one: for a type of `n` bytes, with the functions from a value
-- to its integer and back.
use Rattle.std.proofs.Common.{◌≡◌, refl, ℕ, ◌^◌, ◌*◌, ◌<◌, ℤ, pos, nat_eq, nat_lt, arith}
use Rattle.std.specs.{Bool.Decides, Ordering.int_eq}
use Rattle.font_base.specs.Bytes.{numeral, are_bytes, bytes_of, signed_numeral}
use Rattle.font_base.specs.Bytes.Laws.{are_bytes-bytes_of, bytes_of-numeral, bytes_of-signed_numeral, unsigned_value}
use Rattle.font_base.specs.Bytes.Laws.{unsigned_back, signed_value, signed_back}
use Rattle.font_base.specs.{Wrap.fits_bits, Scalar.ScalarLaws}

-- a newtype of an unsigned integer
pub unsigned_newtype : {T : Type 0} (n : ℕ) (number_of : T → ℕ) (of_number : ℕ → T)
    → ((m : ℕ) → number_of (of_number m) ≡ m) → ((x : T) → of_number (number_of x) ≡ x)
    → ScalarLaws (λ x. nat_lt (number_of x) (256 ^ n)) (are_bytes n) (λ bytes. of_number (numeral bytes))
    (λ x. bytes_of n (pos (number_of x))) n n
unsigned_newtype n number_of of_number there back =
    grind (arith, unsigned_value, are_bytes-bytes_of, unsigned_back, bytes_of-numeral)

-- a newtype of a signed integer
pub signed_newtype : {T : Type 0} (n : ℕ) → 0 < n → (number_of : T → ℤ) (of_number : ℤ → T)
    → ((z : ℤ) → number_of (of_number z) ≡ z) → ((x : T) → of_number (number_of x) ≡ x)
    → ScalarLaws (λ x. fits_bits (8 * n) (number_of x)) (are_bytes n) (λ bytes. of_number (signed_numeral n bytes))
    (λ x. bytes_of n (number_of x)) n n
signed_newtype n some number_of of_number there back =
    grind (arith, signed_value, are_bytes-bytes_of, signed_back, bytes_of-signed_numeral)

-- the integer itself
pub unsigned_laws : (n : ℕ) → ScalarLaws (λ (m : ℕ). nat_lt m (256 ^ n)) (are_bytes n) numeral
    (λ m. bytes_of n (pos m)) n n
unsigned_laws n = unsigned_newtype n (λ m. m) (λ m. m) (λ _. refl) (λ _. refl)

pub signed_laws : (n : ℕ) → 0 < n → ScalarLaws (fits_bits (8 * n)) (are_bytes n) (signed_numeral n) (bytes_of n) n n
signed_laws n some = signed_newtype n some (λ z. z) (λ z. z) (λ _. refl) (λ _. refl)

-- if a value is determined by its integer, `==` of the integers is identity
pub unsigned_identity : {T : Type 0} (number_of : T → ℕ) (of_number : ℕ → T) → ((x : T) → of_number (number_of x) ≡ x)
    → (x y : T) → Decides (nat_eq (number_of x) (number_of y)) (x ≡ y)
unsigned_identity number_of of_number back x y = grind arith

pub signed_identity : {T : Type 0} (number_of : T → ℤ) (of_number : ℤ → T) → ((x : T) → of_number (number_of x) ≡ x)
    → (x y : T) → Decides (int_eq (number_of x) (number_of y)) (x ≡ y)
signed_identity number_of of_number back x y = grind arith
