-- A record of two consecutive scalars is a scalar (OpenType, the tables' formats: records).
use Rattle.std.proofs.Common.{◌≡◌, ◌∙◌, sym, ap, ℕ, ◌+◌, Bool, ◌&&◌, ◌==◌, IsTrue, List, ◌++◌, length, take, drop}
use Rattle.std.proofs.Common.{arith, true, eq-eqb}
use Rattle.std.proofs.lemmas.List.{take-append-drop, length-append, length-drop, length-take-le, take_at, drop_at}
use Rattle.std.proofs.lemmas.List.Folds.{list_all-append}
use Rattle.std.specs.{Cmp.first_so, Cmp.second_so, Cmp.Derive.both_true, List.list_all}
use Rattle.font_base.specs.{Bytes.are_bytes, Bytes.Laws.is_byte, Bytes.Laws.are_bytes-length, Scalar.ScalarLaws}

all_are : (n : ℕ) (bytes : List ℕ) → IsTrue (are_bytes n bytes) → list_all is_byte bytes ≡ true
all_are n bytes are = second_so (length bytes == n) (list_all is_byte bytes) are

-- bytes split in two parts
front_bytes : (m n : ℕ) (bytes : List ℕ) → IsTrue (are_bytes (m + n) bytes) → IsTrue (are_bytes m (take m bytes))
front_bytes m n bytes are =
    let many = are_bytes-length (m + n) bytes are in
    let both = sym (list_all-append is_byte (take m bytes) (drop m bytes))
    ∙ ap (list_all is_byte) (take-append-drop m bytes) ∙ all_are (m + n) bytes are in
    both_true (eq-eqb (length (take m bytes)) m (length-take-le m bytes (omega (arith, many))))
    (first_so (list_all is_byte (take m bytes)) (list_all is_byte (drop m bytes)) both)

back_bytes : (m n : ℕ) (bytes : List ℕ) → IsTrue (are_bytes (m + n) bytes) → IsTrue (are_bytes n (drop m bytes))
back_bytes m n bytes are =
    let many = are_bytes-length (m + n) bytes are in
    let both = sym (list_all-append is_byte (take m bytes) (drop m bytes))
    ∙ ap (list_all is_byte) (take-append-drop m bytes) ∙ all_are (m + n) bytes are in
    both_true (eq-eqb (length (drop m bytes)) n (length-drop m bytes ∙ omega (arith, many)))
    (second_so (list_all is_byte (take m bytes)) (list_all is_byte (drop m bytes)) both)

joined_bytes : (m n : ℕ) (xs ys : List ℕ) → IsTrue (are_bytes m xs) → IsTrue (are_bytes n ys)
    → IsTrue (are_bytes (m + n) (xs ++ ys))
joined_bytes m n xs ys of_xs of_ys = grind (arith, length-append, list_all-append)

-- a record whose first field has m bytes, followed by a second field of n bytes
pub record_laws : {A B T : Type 0} {is_a : A → Bool} {of_a : List ℕ → A} {a_of : A → List ℕ} {is_b : B → Bool}
    {of_b : List ℕ → B} {b_of : B → List ℕ} (m n : ℕ) (first : T → A) (second : T → B) (make : A → B → T)
    → ((a : A) (b : B) → first (make a b) ≡ a) → ((a : A) (b : B) → second (make a b) ≡ b)
    → ((t : T) → make (first t) (second t) ≡ t) → ScalarLaws is_a (are_bytes m) of_a a_of m m
    → ScalarLaws is_b (are_bytes n) of_b b_of n n
    → ScalarLaws (λ t. is_a (first t) && is_b (second t)) (are_bytes (m + n))
    (λ bytes. make (of_a (take m bytes)) (of_b (drop m bytes))) (λ t. a_of (first t) ++ b_of (second t)) (m + n)
    (m + n)
record_laws {is_a = is_a} {of_a = of_a} {a_of = a_of} {is_b = is_b} {of_b = of_b} {b_of = b_of} m n first second make
    is_first is_second whole of_first of_second =
    grind (arith, front_bytes, back_bytes, joined_bytes, are_bytes-length, take_at, drop_at, take-append-drop)
