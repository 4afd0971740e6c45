-- An integer and its bytes determine each other.
use Rattle.std.proofs.Common.{◌≡◌, ◌∙◌, sym, ap, refl, ℕ, zero, suc, ◌+◌, ◌*◌, ◌/◌, ◌%◌, ◌^◌, ◌<◌, Bool, true, ℤ, pos}
use Rattle.std.proofs.Common.{◌+ℤ◌, ◌*ℤ◌, List, [], ◌∷◌, length, get_or, fold, arith, IsTrue, nat_lt, ◌==◌, lit<}
use Rattle.std.proofs.Common.{pow-add, div-add-mod', eq-eqb, eqb-true, lt-ltb, ltb-true}
use Rattle.std.proofs.lemmas.Int.{ints}
use Rattle.std.proofs.Math.Nat.{pow-suc, add-mul, mul_assoc, add_comm, mod-lt, mod-eq_of_lt, one-le-pow}
use Rattle.std.proofs.Math.Nat.{add-mul-div_right, add-mul-mod_self_right}
use Rattle.std.specs.Int.{bytes_high_first, byte_at}
use Rattle.std.specs.{Cmp.first_so, Cmp.second_so, Cmp.Derive.both_true, List.list_all}
use lib.Arith.{digits_lt, digits_div, mod-mul}
use Rattle.font_base.specs.Wrap.Laws.{fits_bits-true, remainder, same_rest, wrap_is, wrap_same, wrap-fits}
use Rattle.font_base.specs.Bytes.{numeral, are_bytes, IsBytesOf, bytes_of, signed_numeral}
use Rattle.font_base.specs.{Integers.sum-times, Wrap.FitsBits, Wrap.fits_bits, Wrap.wrap}

-- one step of `numeral`
abbrev push_byte : ℕ → ℕ → ℕ
push_byte n byte = n * 256 + byte

fold-numeral : (a : ℕ) (bytes : List ℕ) → fold push_byte a bytes ≡ a * 256 ^ length bytes + numeral bytes
fold-numeral a [] = omega arith
fold-numeral a (b ∷ bs) =
    grind (arith, fold-numeral (a * 256 + b) bs, fold-numeral (0 * 256 + b) bs, add-mul, mul_assoc)

-- the first byte is the most significant
pub numeral-cons : (b : ℕ) (bs : List ℕ) → numeral (b ∷ bs) ≡ b * 256 ^ length bs + numeral bs
numeral-cons b bs = fold-numeral (0 * 256 + b) bs ∙ ap (λ n. n * 256 ^ length bs + numeral bs) (omega arith)

-- ---- what `are_bytes` says

abbrev pub is_byte : ℕ → Bool
is_byte byte = nat_lt byte 256

all_bytes : (bs : List ℕ) → ((i : ℕ) → get_or bs i 0 < 256) → list_all is_byte bs ≡ true
all_bytes [] each = refl
all_bytes (b ∷ bs) each = both_true (lt-ltb b 256 (each 0)) (all_bytes bs (λ i. each (suc i)))

pub are_bytes_in : (n : ℕ) (bs : List ℕ) → length bs ≡ n → ((i : ℕ) → get_or bs i 0 < 256) → IsTrue (are_bytes n bs)
are_bytes_in n bs many each = both_true (eq-eqb (length bs) n many) (all_bytes bs each)

pub are_bytes-length : (n : ℕ) (bs : List ℕ) → IsTrue (are_bytes n bs) → length bs ≡ n
are_bytes-length n bs are = eqb-true (length bs) n (first_so (length bs == n) (list_all is_byte bs) are)

are_bytes-each : (n : ℕ) (bs : List ℕ) → IsTrue (are_bytes n bs) → list_all is_byte bs ≡ true
are_bytes-each n bs are = second_so (length bs == n) (list_all is_byte bs) are

-- ---- from an integer to its bytes and back

length-bytes_high_first : (k n : ℕ) → length (bytes_high_first k n) ≡ k
length-bytes_high_first zero n = refl
length-bytes_high_first (suc k) n = ap suc (length-bytes_high_first k n)

byte_at_is : (k n : ℕ) → byte_at k n ≡ n / 256 ^ k % 256
byte_at_is v0 n = grind arith

each_high_first : (k n : ℕ) → list_all is_byte (bytes_high_first k n) ≡ true
each_high_first zero n = refl
each_high_first (suc k) n = grind (arith, each_high_first k n)

are_bytes-high_first : (k n : ℕ) → IsTrue (are_bytes k (bytes_high_first k n))
are_bytes-high_first k n = grind (arith, eq-eqb, length-bytes_high_first, each_high_first)

some_power : (k : ℕ) → 0 < 256 ^ k
some_power k = one-le-pow k 256 (lit< tt)

numeral-bytes_high_first : (k n : ℕ) → numeral (bytes_high_first k n) ≡ n % 256 ^ k
numeral-bytes_high_first zero n = omega arith
numeral-bytes_high_first (suc k) n =
    numeral-cons (byte_at k n) (bytes_high_first k n)
    ∙ rw (length-bytes_high_first k n, numeral-bytes_high_first k n, byte_at_is k n)
    (sym (ap (λ d. n % d) (omega (arith, pow-suc 256 k)) ∙ mod-mul n (lit< tt) (some_power k)))

-- multiples of 256^k do not change the last k bytes
bytes_high_first-above : (k a m : ℕ) → bytes_high_first k (a * 256 ^ k + m) ≡ bytes_high_first k m
bytes_high_first-above zero a m = refl
bytes_high_first-above (suc k) a m =
    let whole : a * 256 ^ suc k + m ≡ a * 256 * 256 ^ k + m =
    omega (arith, ap (λ p. a * p) (pow-suc 256 k), mul_assoc a 256 (256 ^ k)) in
    let first : byte_at k (a * 256 * 256 ^ k + m) ≡ byte_at k m =
    rw (byte_at_is k m, byte_at_is k (a * 256 * 256 ^ k + m))
    (ap (λ q. q % 256) (ap (λ n. n / 256 ^ k) (add_comm (a * 256 * 256 ^ k) m)
    ∙ add-mul-div_right m (a * 256) (some_power k))
    ∙ add-mul-mod_self_right (m / 256 ^ k) a 256) in
    let others = bytes_high_first-above k (a * 256) m in
    rw whole (ap (λ b. b ∷ bytes_high_first k (a * 256 * 256 ^ k + m)) first ∙ ap (λ bs. byte_at k m ∷ bs) others)

numeral_of_bytes_below : (bs : List ℕ) → list_all is_byte bs ≡ true → numeral bs < 256 ^ length bs
numeral_of_bytes_below [] each = lit< tt
numeral_of_bytes_below (b ∷ bs) each =
    let byte = ltb-true b 256 (first_so (is_byte b) (list_all is_byte bs) each) in
    let others = numeral_of_bytes_below bs (second_so (is_byte b) (list_all is_byte bs) each) in
    rw numeral-cons (omega (arith, digits_lt byte others, pow-suc 256 (length bs)))

bytes_high_first-numeral : (bs : List ℕ) → list_all is_byte bs ≡ true → bytes_high_first (length bs) (numeral bs) ≡ bs
bytes_high_first-numeral [] each = refl
bytes_high_first-numeral (b ∷ bs) each =
    let byte = ltb-true b 256 (first_so (is_byte b) (list_all is_byte bs) each) in
    let later = second_so (is_byte b) (list_all is_byte bs) each in
    let first : byte_at (length bs) (b * 256 ^ length bs + numeral bs) ≡ b =
    byte_at_is (length bs) (b * 256 ^ length bs + numeral bs)
    ∙ ap (λ q. q % 256) (digits_div b (numeral_of_bytes_below bs later))
    ∙ mod-eq_of_lt byte in
    let others = bytes_high_first-above (length bs) b (numeral bs) ∙ bytes_high_first-numeral bs later in
    rw numeral-cons
    (ap (λ x. x ∷ bytes_high_first (length bs) (b * 256 ^ length bs + numeral bs)) first ∙ ap (λ xs. b ∷ xs) others)

-- ---- the bytes of an integer

pow-256 : (n : ℕ) → 256 ^ n ≡ 2 ^ (8 * n)
pow-256 zero = refl
pow-256 (suc n) = grind (arith, pow-256 n, pow-add 2 (8 * n) 8)

pub bytes_of_is : (n : ℕ) (v : ℤ) → IsBytesOf n v (bytes_of n v)
unfolding bytes_of
bytes_of_is n v =
    grind (arith, remainder v (256 ^ n) (some_power n), are_bytes-high_first, numeral-bytes_high_first, mod-eq_of_lt)

pub numeral_below : (n : ℕ) (bytes : List ℕ) → IsTrue (are_bytes n bytes) → numeral bytes < 256 ^ n
numeral_below n bytes are = grind (arith, numeral_of_bytes_below)

-- the n bytes of an integer are unique
pub bytes_unique : (n : ℕ) (v : ℤ) (xs ys : List ℕ) → IsBytesOf n v xs → IsBytesOf n v ys → xs ≡ ys
bytes_unique n v xs ys p q =
    let x_below = numeral_below n xs p.are in
    let y_below = numeral_below n ys q.are in
    let same : pos (numeral xs) ≡ pos (numeral ys) =
    same_rest (256 ^ n) (pos (numeral xs)) (pos (numeral ys)) p.turns q.turns
    (omega (arith, ints, x_below)) (omega (arith, ints, y_below)) (sym p.differs ∙ q.differs) in
    let number : numeral xs ≡ numeral ys = cc in
    let many : length xs ≡ length ys = are_bytes-length n xs p.are ∙ sym (are_bytes-length n ys q.are) in
    sym (bytes_high_first-numeral xs (are_bytes-each n xs p.are))
    ∙ ap (λ k. bytes_high_first k (numeral xs)) many ∙ ap (λ m. bytes_high_first (length ys) m) number
    ∙ bytes_high_first-numeral ys (are_bytes-each n ys q.are)

-- integers that differ by a multiple of 256^n have the same n bytes
pub IsBytesOf-apart : (n : ℕ) (v u turns : ℤ) (bytes : List ℕ) → v ≡ (u +ℤ (turns *ℤ pos (256 ^ n)))
    → IsBytesOf n u bytes → IsBytesOf n v bytes
IsBytesOf-apart n v u turns bytes apart given = record {
  are = given.are;
  turns = given.turns +ℤ turns;
  differs = omega (arith, ints, apart, given.differs, sum-times given.turns turns (pos (256 ^ n)));
}

pub IsBytesOf-numeral : (n : ℕ) (bytes : List ℕ) → IsTrue (are_bytes n bytes) → IsBytesOf n (pos (numeral bytes)) bytes
IsBytesOf-numeral n bytes are = record { are = are; turns = pos 0; differs = omega (arith, ints) }

-- std's big-endian bytes of an integer are its n bytes
pub IsBytesOf-high_first : (n m : ℕ) → IsBytesOf n (pos m) (bytes_high_first n m)
IsBytesOf-high_first n m = record {
  are = are_bytes-high_first n m;
  turns = pos (m / 256 ^ n);
  differs = rw (numeral-bytes_high_first n m) (omega (arith, ints, div-add-mod' m (256 ^ n)));
}

-- `IsBytesOf` implies `bytes_of`
pub bytes_of_gives : (n : ℕ) (v : ℤ) (bytes : List ℕ) → IsBytesOf n v bytes → bytes ≡ bytes_of n v
bytes_of_gives n v bytes given = bytes_unique n v bytes (bytes_of n v) given (bytes_of_is n v)

-- and conversely
pub bytes_of_are : (n : ℕ) (v : ℤ) (bytes : List ℕ) → bytes ≡ bytes_of n v → IsBytesOf n v bytes
bytes_of_are n v bytes is = rw is (bytes_of_is n v)

pub bytes_of-same : (n : ℕ) (v u turns : ℤ) → v ≡ (u +ℤ (turns *ℤ pos (256 ^ n))) → bytes_of n v ≡ bytes_of n u
bytes_of-same n v u turns apart =
    sym (bytes_of_gives n v (bytes_of n u) (IsBytesOf-apart n v u turns (bytes_of n u) apart (bytes_of_is n u)))

pub are_bytes-bytes_of : (n : ℕ) (v : ℤ) → IsTrue (are_bytes n (bytes_of n v))
are_bytes-bytes_of n v = (bytes_of_is n v).are

-- ---- round trips

pub bytes_of-numeral : (n : ℕ) (bytes : List ℕ) → IsTrue (are_bytes n bytes) → bytes_of n (pos (numeral bytes)) ≡ bytes
bytes_of-numeral n bytes are = sym (bytes_of_gives n (pos (numeral bytes)) bytes (IsBytesOf-numeral n bytes are))

pub numeral-bytes_of : (n v : ℕ) → v < 256 ^ n → numeral (bytes_of n (pos v)) ≡ v
unfolding bytes_of
numeral-bytes_of n v below = grind (arith, numeral-bytes_high_first, mod-eq_of_lt, mod-lt, some_power)

pub bytes_of-signed_numeral : (n : ℕ) (bytes : List ℕ) → 0 < n → IsTrue (are_bytes n bytes)
    → bytes_of n (signed_numeral n bytes) ≡ bytes
unfolding signed_numeral
bytes_of-signed_numeral n bytes some are =
    let given = wrap_is (8 * n) (pos (numeral bytes)) (omega arith) in
    sym (bytes_of-same n (pos (numeral bytes)) (wrap (8 * n) (pos (numeral bytes))) given.turns
    (rw (pow-256 n) given.differs)) ∙ bytes_of-numeral n bytes are

pub signed_numeral-bytes_of : (n : ℕ) (v : ℤ) → 0 < n → FitsBits (8 * n) v → signed_numeral n (bytes_of n v) ≡ v
unfolding signed_numeral
signed_numeral-bytes_of n v some fits =
    let given = bytes_of_is n v in
    sym (wrap_same (8 * n) v (pos (numeral (bytes_of n v))) given.turns (omega arith) (rw (← pow-256 n) given.differs))
    ∙ wrap-fits (8 * n) v (omega arith) fits

pub FitsBits-signed_numeral : (n : ℕ) (bytes : List ℕ) → 0 < n → FitsBits (8 * n) (signed_numeral n bytes)
unfolding signed_numeral
FitsBits-signed_numeral n bytes some = (wrap_is (8 * n) (pos (numeral bytes)) (omega arith)).fits

-- ---- the laws of a scalar that is an integer

pub unsigned_value : (n : ℕ) (bytes : List ℕ) → IsTrue (are_bytes n bytes) → IsTrue (nat_lt (numeral bytes) (256 ^ n))
unsigned_value n bytes are = lt-ltb (numeral bytes) (256 ^ n) (numeral_below n bytes are)

pub unsigned_back : (n v : ℕ) → IsTrue (nat_lt v (256 ^ n)) → numeral (bytes_of n (pos v)) ≡ v
unsigned_back n v test = numeral-bytes_of n v (ltb-true v (256 ^ n) test)

pub signed_value : (n : ℕ) → 0 < n → (bytes : List ℕ) → IsTrue (are_bytes n bytes)
    → IsTrue (fits_bits (8 * n) (signed_numeral n bytes))
signed_value n some bytes are = grind (arith, FitsBits-signed_numeral)

pub signed_back : (n : ℕ) → 0 < n → (v : ℤ) → IsTrue (fits_bits (8 * n) v) → signed_numeral n (bytes_of n v) ≡ v
signed_back n some v test = signed_numeral-bytes_of n v some (fits_bits-true (8 * n) v test)
