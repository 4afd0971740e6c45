-- The fields of a record, from its bytes, which are joined; and keys of bytes that compare as equal.
use Rattle.std.proofs.Common.{◌≡◌, ◌∙◌, refl, sym, ap, lit<, arith, ℕ, ◌+◌, ◌*◌, ◌^◌, ◌<◌, ◌≤◌, ℤ, pos, IsTrue, nat_lt}
use Rattle.std.proofs.Common.{List, [], ◌∷◌, ◌++◌, length, take, drop, get_or, nat_cmp, Equal, append_assoc}
use Rattle.std.proofs.lemmas.List.{length-append, append-nil, take-append-le, take_all, take_at, drop_at}
use Rattle.std.proofs.lemmas.List.{drop-append-le, drop-take, drop-drop, take_rest}
use Rattle.std.proofs.lemmas.Map.Lookups.{exact_bytes}
use Rattle.std.specs.{Cmp.Lexicographic.slice_cmp, List.slice_range}
use Rattle.font_base.specs.{Bytes.numeral, Bytes.bytes_of, Bytes.signed_numeral, Wrap.fits_bits}
use Rattle.font_base.specs.Wrap.Laws.{fits_bits-true}
use Rattle.font_base.specs.{declared.uint24.Uint24.Uint24, Uint24.uint24_number, Uint24.uint24_of}
use Rattle.font_base.specs.{declared.int24.Int24.Int24, Int24.int24_number, Int24.int24_of}
use Rattle.font_base.specs.{Uint24.Laws.uint24_laws, Int24.Laws.int24_laws}
use Rattle.font_types.proofs.ArrayNumbers.{numeral_of_2, numeral_of_4, signed_of_2, signed_of_4}
use Rattle.font_base.specs.Bytes.Laws.{are_bytes-bytes_of, are_bytes-length, signed_numeral-bytes_of, unsigned_back}

pub length_of_bytes : (n : ℕ) (z : ℤ) → length (bytes_of n z) ≡ n
length_of_bytes n z = are_bytes-length n (bytes_of n z) (are_bytes-bytes_of n z)

-- after the first k bytes
pub after_part : (k : ℕ) (xs ys : List ℕ) → length xs ≡ k → drop k (xs ++ ys) ≡ ys
after_part k xs ys many = drop_at xs ys k many

pub within_part : (k : ℕ) (xs ys : List ℕ) → k ≤ length xs → drop k (xs ++ ys) ≡ drop k xs ++ ys
within_part k xs ys within = drop-append-le k xs ys within

-- the tag that a search found is the wanted one
pub same_bytes : (xs ys : List ℕ) → slice_cmp nat_cmp xs ys ≡ Equal
    → (slice_cmp nat_cmp xs ys ≡ slice_cmp nat_cmp xs ys) × (xs ≡ ys)
same_bytes xs ys equal = (refl, exact_bytes xs ys equal)

-- ---- for each size of a field, because `grind` computes `take` and `drop` of a numeral, which a lemma of a variable
-- does not fit

-- the first bytes
abbrev IsFront : ℕ → Type 0
IsFront n = (xs ys : List ℕ) → n ≤ length xs → take n (xs ++ ys) ≡ take n xs

front : (n : ℕ) → IsFront n
front n xs ys within = take-append-le n xs ys within

-- all bytes; `grind` finds the list by its length, which stands first for that
abbrev IsWhole : ℕ → Type 0
IsWhole n = (xs : List ℕ) → length xs ≡ n → (length xs ≡ length xs) × (take n xs ≡ xs)

whole : (n : ℕ) → IsWhole n
whole n xs many = (refl, take_all n xs (omega (arith, many)))

-- the integer of a field, whose type says that it fits
abbrev IsUnsignedField : ℕ → Type 0
IsUnsignedField n = (m : ℕ) → IsTrue (nat_lt m (256 ^ n)) → numeral (bytes_of n (pos m)) ≡ m

unsigned_field : (n : ℕ) → IsUnsignedField n
unsigned_field n m fits = unsigned_back n m fits

abbrev IsSignedField : ℕ → Type 0
IsSignedField n = (z : ℤ) → IsTrue (fits_bits (8 * n) z) → signed_numeral n (bytes_of n z) ≡ z

signed_field : (n : ℕ) → 0 < n → IsSignedField n
signed_field n some z fits = signed_numeral-bytes_of n z some (fits_bits-true (8 * n) z fits)

-- the 24-bit integer of a field
pub uint24_field : (n : Uint24) → uint24_of (numeral (bytes_of 3 (pos (uint24_number n)))) ≡ n
uint24_field n = uint24_laws.back n refl

pub int24_field : (n : Int24) → int24_of (signed_numeral 3 (bytes_of 3 (int24_number n))) ≡ n
int24_field n = int24_laws.back n refl

-- the second field, of n bytes, of a record that is stored at an offset, behind a first field of k bytes; what the goal
-- has of it stands first, so that `grind` uses this only for a field of the goal
abbrev IsSecond : ℕ → ℕ → Type 0
IsSecond k n = (at : ℕ) (bytes : List ℕ) → (take n (drop (at + k) bytes) ≡ take n (drop (at + k) bytes))
    × (drop k (take (k + n) (drop at bytes)) ≡ take n (drop (at + k) bytes))

second : (k n : ℕ) → IsSecond k n
second k n at bytes = (refl, drop-take k n (drop at bytes) ∙ ap (take n) (drop-drop k at bytes))

-- what is stored behind a field of k bytes, such as a count
abbrev IsBehind : ℕ → Type 0
IsBehind k = (m : ℕ) (bytes : List ℕ) → drop m (drop k bytes) ≡ drop (k + m) bytes

behind : (k : ℕ) → IsBehind k
behind k m bytes = drop-drop m k bytes

-- the same if `get(k..)` leaves those bytes out
abbrev IsRest : ℕ → Type 0
IsRest k = (m : ℕ) (bytes : List ℕ) → drop m (slice_range bytes k (length bytes)) ≡ drop (k + m) bytes

pub rest : (k : ℕ) → IsRest k
rest k m bytes = ap (drop m) (take_rest bytes k) ∙ drop-drop m k bytes

-- what is stored m bytes further on, such as a field of a table at an offset
abbrev IsFurther : ℕ → Type 0
IsFurther m = (k : ℕ) (bytes : List ℕ) → drop m (slice_range bytes k (length bytes)) ≡ drop (k + m) bytes

-- here too, what the goal has of it stands first
abbrev IsBeyond : ℕ → Type 0
IsBeyond m = (k : ℕ) (bytes : List ℕ) → (drop (k + m) bytes ≡ drop (k + m) bytes)
    × (drop m (drop k bytes) ≡ drop (k + m) bytes)

beyond : (m : ℕ) → IsBeyond m
beyond m k bytes = (refl, behind k m bytes)

-- their instances

pub front_1 : IsFront 1
front_1 = front 1

pub front_2 : IsFront 2
front_2 = front 2

pub front_3 : IsFront 3
front_3 = front 3

pub front_4 : IsFront 4
front_4 = front 4

pub front_8 : IsFront 8
front_8 = front 8

pub whole_1 : IsWhole 1
whole_1 = whole 1

pub whole_2 : IsWhole 2
whole_2 = whole 2

pub whole_3 : IsWhole 3
whole_3 = whole 3

pub whole_4 : IsWhole 4
whole_4 = whole 4

pub whole_8 : IsWhole 8
whole_8 = whole 8

pub unsigned_field_1 : IsUnsignedField 1
unsigned_field_1 = unsigned_field 1

pub unsigned_field_3 : IsUnsignedField 3
unsigned_field_3 = unsigned_field 3

pub signed_field_1 : IsSignedField 1
signed_field_1 = signed_field 1 (lit< tt)

pub signed_field_2 : IsSignedField 2
signed_field_2 = signed_field 2 (lit< tt)

pub signed_field_3 : IsSignedField 3
signed_field_3 = signed_field 3 (lit< tt)

pub signed_field_4 : IsSignedField 4
signed_field_4 = signed_field 4 (lit< tt)

pub signed_field_8 : IsSignedField 8
signed_field_8 = signed_field 8 (lit< tt)

pub second_1_1 : IsSecond 1 1
second_1_1 = second 1 1

pub second_1_2 : IsSecond 1 2
second_1_2 = second 1 2

pub second_1_3 : IsSecond 1 3
second_1_3 = second 1 3

pub second_1_4 : IsSecond 1 4
second_1_4 = second 1 4

pub second_1_8 : IsSecond 1 8
second_1_8 = second 1 8

pub second_2_1 : IsSecond 2 1
second_2_1 = second 2 1

pub second_2_2 : IsSecond 2 2
second_2_2 = second 2 2

pub second_2_3 : IsSecond 2 3
second_2_3 = second 2 3

pub second_2_4 : IsSecond 2 4
second_2_4 = second 2 4

pub second_2_8 : IsSecond 2 8
second_2_8 = second 2 8

pub second_3_1 : IsSecond 3 1
second_3_1 = second 3 1

pub second_3_2 : IsSecond 3 2
second_3_2 = second 3 2

pub second_3_3 : IsSecond 3 3
second_3_3 = second 3 3

pub second_3_4 : IsSecond 3 4
second_3_4 = second 3 4

pub second_3_8 : IsSecond 3 8
second_3_8 = second 3 8

pub second_4_1 : IsSecond 4 1
second_4_1 = second 4 1

pub second_4_2 : IsSecond 4 2
second_4_2 = second 4 2

pub second_4_3 : IsSecond 4 3
second_4_3 = second 4 3

pub second_4_4 : IsSecond 4 4
second_4_4 = second 4 4

pub second_4_8 : IsSecond 4 8
second_4_8 = second 4 8

pub second_8_1 : IsSecond 8 1
second_8_1 = second 8 1

pub second_8_2 : IsSecond 8 2
second_8_2 = second 8 2

pub second_8_3 : IsSecond 8 3
second_8_3 = second 8 3

pub second_8_4 : IsSecond 8 4
second_8_4 = second 8 4

pub second_8_8 : IsSecond 8 8
second_8_8 = second 8 8

pub behind_1 : IsBehind 1
behind_1 = behind 1

pub behind_2 : IsBehind 2
behind_2 = behind 2

pub behind_3 : IsBehind 3
behind_3 = behind 3

pub behind_4 : IsBehind 4
behind_4 = behind 4

pub behind_8 : IsBehind 8
behind_8 = behind 8

pub rest_1 : IsRest 1
rest_1 = rest 1

pub rest_2 : IsRest 2
rest_2 = rest 2

pub rest_3 : IsRest 3
rest_3 = rest 3

pub rest_4 : IsRest 4
rest_4 = rest 4

pub rest_6 : IsRest 6
rest_6 = rest 6

pub rest_8 : IsRest 8
rest_8 = rest 8

pub rest_10 : IsRest 10
rest_10 = rest 10

pub rest_12 : IsRest 12
rest_12 = rest 12

pub rest_14 : IsRest 14
rest_14 = rest 14

pub rest_16 : IsRest 16
rest_16 = rest 16

pub further_1 : IsFurther 1
further_1 k bytes = rest k 1 bytes

pub further_2 : IsFurther 2
further_2 k bytes = rest k 2 bytes

pub further_3 : IsFurther 3
further_3 k bytes = rest k 3 bytes

pub further_4 : IsFurther 4
further_4 k bytes = rest k 4 bytes

pub further_6 : IsFurther 6
further_6 k bytes = rest k 6 bytes

pub further_8 : IsFurther 8
further_8 k bytes = rest k 8 bytes

pub further_10 : IsFurther 10
further_10 k bytes = rest k 10 bytes

pub further_12 : IsFurther 12
further_12 k bytes = rest k 12 bytes

pub further_14 : IsFurther 14
further_14 k bytes = rest k 14 bytes

pub further_16 : IsFurther 16
further_16 k bytes = rest k 16 bytes

pub beyond_1 : IsBeyond 1
beyond_1 = beyond 1

pub beyond_2 : IsBeyond 2
beyond_2 = beyond 2

pub beyond_3 : IsBeyond 3
beyond_3 = beyond 3

pub beyond_4 : IsBeyond 4
beyond_4 = beyond 4

pub beyond_6 : IsBeyond 6
beyond_6 = beyond 6

pub beyond_8 : IsBeyond 8
beyond_8 = beyond 8

pub beyond_10 : IsBeyond 10
beyond_10 = beyond 10

pub beyond_12 : IsBeyond 12
beyond_12 = beyond 12

pub beyond_14 : IsBeyond 14
beyond_14 = beyond 14

pub beyond_16 : IsBeyond 16
beyond_16 = beyond 16

-- ---- a header of four fields of 4 bytes

elements_4 : (xs ys : List ℕ) → length xs ≡ 4
    → (get_or xs 0 0 ∷ get_or xs 1 0 ∷ get_or xs 2 0 ∷ get_or xs 3 0 ∷ ys) ≡ xs ++ ys
elements_4 (a ∷ b ∷ c ∷ d ∷ []) ys many = refl
elements_4 [] ys many = absurd (omega arith)
elements_4 (a ∷ []) ys many = absurd (omega arith)
elements_4 (a ∷ b ∷ []) ys many = absurd (omega arith)
elements_4 (a ∷ b ∷ c ∷ []) ys many = absurd (omega arith)
elements_4 (a ∷ b ∷ c ∷ d ∷ e ∷ xs) ys many = absurd (omega arith)

-- each byte of the header, as `[a, b, c, d, ..]` is written from the bytes of each field
pub four_fields : (p q r s : List ℕ) → length p ≡ 4 → length q ≡ 4 → length r ≡ 4 → length s ≡ 4
    → p ++ q ++ r ++ s
    ≡ (get_or p 0 0 ∷ get_or p 1 0 ∷ get_or p 2 0 ∷ get_or p 3 0
    ∷ get_or q 0 0 ∷ get_or q 1 0 ∷ get_or q 2 0 ∷ get_or q 3 0
    ∷ get_or r 0 0 ∷ get_or r 1 0 ∷ get_or r 2 0 ∷ get_or r 3 0
    ∷ get_or s 0 0 ∷ get_or s 1 0 ∷ get_or s 2 0 ∷ get_or s 3 0 ∷ [])
four_fields p q r s of_p of_q of_r of_s =
    let last : (get_or s 0 0 ∷ get_or s 1 0 ∷ get_or s 2 0 ∷ get_or s 3 0 ∷ []) ≡ s =
    elements_4 s [] of_s ∙ append-nil s in
    append_assoc (p ++ q) r s ∙ append_assoc p q (r ++ s)
    ∙ sym (elements_4 p _ of_p ∙ ap (λ ys. p ++ ys) (elements_4 q _ of_q
    ∙ ap (λ ys. q ++ ys) (elements_4 r _ of_r ∙ ap (λ ys. r ++ ys) last)))

-- and the bytes of each field of those of the header
pub four_parts : (p q r s : List ℕ) → length p ≡ 4 → length q ≡ 4 → length r ≡ 4 → length s ≡ 4
    → (p ++ q ++ r ++ s ≡ p ++ q ++ r ++ s) × (take 4 (p ++ q ++ r ++ s) ≡ p)
    × (take 4 (drop 4 (p ++ q ++ r ++ s)) ≡ q) × (take 4 (drop 8 (p ++ q ++ r ++ s)) ≡ r)
    × (take 4 (drop 12 (p ++ q ++ r ++ s)) ≡ s)
four_parts p q r s of_p of_q of_r of_s =
    let two : length (p ++ q) ≡ 8 = omega (arith, length-append p q, of_p, of_q) in
    let three : length (p ++ q ++ r) ≡ 12 = omega (arith, length-append (p ++ q) r, two, of_r) in
    let from_p : p ++ q ++ r ++ s ≡ p ++ (q ++ (r ++ s)) = append_assoc (p ++ q) r s ∙ append_assoc p q (r ++ s) in (
      refl,
      ap (take 4) from_p ∙ take_at p (q ++ (r ++ s)) 4 of_p,
      ap (take 4) (ap (drop 4) from_p ∙ drop_at p (q ++ (r ++ s)) 4 of_p) ∙ take_at q (r ++ s) 4 of_q,
      ap (take 4) (ap (drop 8) (append_assoc (p ++ q) r s) ∙ drop_at (p ++ q) (r ++ s) 8 two) ∙ take_at r s 4 of_r,
      ap (take 4) (drop_at (p ++ q ++ r) s 12 three) ∙ take_all 4 s (omega (arith, of_s)),
    )

pub ruleset field_calls = (
  length-append,
  length_of_bytes,
  after_part,
  within_part,
  same_bytes,
  front_2,
  front_4,
  whole_2,
  whole_4,
  signed_field_2,
  signed_field_4,
)

-- those, and the numbers of fields
pub ruleset record_calls = (field_calls, numeral_of_2, numeral_of_4, signed_of_2, signed_of_4)

-- those, and the same of fields of 1, 3 and 8 bytes
pub ruleset other_record_calls = (
  record_calls,
  front_1,
  front_3,
  front_8,
  whole_1,
  whole_3,
  whole_8,
  unsigned_field_1,
  unsigned_field_3,
  signed_field_1,
  signed_field_3,
  signed_field_8,
  uint24_field,
  int24_field,
)

-- a header of four fields of 4 bytes
pub ruleset header_calls = (length-append, length_of_bytes, four_fields, four_parts, numeral_of_4, signed_of_4)

-- what stands in the rest of a slice by `get(k..)`, and by `drop`
pub ruleset rest_calls = (
  rest,
  rest_1,
  rest_2,
  rest_3,
  rest_4,
  rest_6,
  rest_8,
  rest_10,
  rest_12,
  rest_14,
  rest_16,
  further_1,
  further_2,
  further_3,
  further_4,
  further_6,
  further_8,
  further_10,
  further_12,
  further_14,
  further_16,
)

pub ruleset beyond_calls = (
  beyond_1,
  beyond_2,
  beyond_3,
  beyond_4,
  beyond_6,
  beyond_8,
  beyond_10,
  beyond_12,
  beyond_14,
  beyond_16,
)

-- second fields
pub ruleset second_calls = (
  second_1_1,
  second_1_2,
  second_1_3,
  second_1_4,
  second_1_8,
  second_2_1,
  second_2_2,
  second_2_3,
  second_2_4,
  second_2_8,
  second_3_1,
  second_3_2,
  second_3_3,
  second_3_4,
  second_3_8,
  second_4_1,
  second_4_2,
  second_4_3,
  second_4_4,
  second_4_8,
  second_8_1,
  second_8_2,
  second_8_3,
  second_8_4,
  second_8_8,
)
