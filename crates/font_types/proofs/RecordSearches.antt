-- An array of records that is sorted by a key, which stands in the bytes of each: if a search finds no index, no record
-- has the key. The place that `partition_point` finds is between the lesser numbers and the others.
use Rattle.std.proofs.Common.{◌≡◌, ◌≢◌, ◌∙◌, sym, ap, refl, arith, ℕ, ◌/◌, ◌<◌, ◌≤◌, lit≤, Bool, IsTrue, List, []}
use Rattle.std.proofs.Common.{length, flat_map, Result, Ok, Err, IfErr, MatchResult, nat_cmp, nat_lt, Ordering, Less, Equal}
use Rattle.std.proofs.Common.{Greater}
use Rattle.std.proofs.lemmas.{Cmp.nat_list_cmp_total, Bool.Decides.nat_tests}
use Rattle.std.specs.{Cmp.nat_cmp_is, Cmp.IsTotalOrder, Cmp.Lexicographic.slice_cmp}
use Rattle.std.specs.Ordering.{ordering_index, ordering_reverse}
use Rattle.font_base.specs.{Bytes.are_bytes, Scalar.ScalarLaws}
use Rattle.font_base.specs.Elements.{element, AreRaw, IsStored, StoresOne, Rises, Splits, side}
use Rattle.font_base.proofs.Elements.{counted, element_at, value_at}
use Rattle.font_base.proofs.ScalarCalls.{nowhere, rises_by}

if_err : {P Q : ℕ → Type 0} (result : Result ℕ ℕ) → ((i : ℕ) → P i → Q i) → IfErr result P → IfErr result Q
if_err (Ok i) gives found = tt
if_err (Err i) gives found = gives i found

-- a test that compares a number with a key
side_rises : (a b key : ℕ) → a ≤ b → ordering_index (side (nat_lt a key)) ≤ ordering_index (side (nat_lt b key))
side_rises a b key order = grind (arith, nat_tests)

side_less : (a key : ℕ) → side (nat_lt a key) ≡ Less → a < key
side_less a key is = grind (arith, nat_tests)

side_greater : (a key : ℕ) → side (nat_lt a key) ≡ Greater → key ≤ a
side_greater a key is = grind (arith, nat_tests)

-- a key that is less has a lower answer
rank_rises : {K : Type 0} {R : K → K → Ordering} (a b key : K) → IsTotalOrder R → R a b ≡ Less
    → ordering_index (R a key) ≤ ordering_index (R b key)
rank_rises {R = R} a b key order less = by_cases (R b key) refl
  where
    at_most : (o : Ordering) → ordering_index o ≤ 2
    at_most Less = lit≤ tt
    at_most Equal = lit≤ tt
    at_most Greater = lit≤ tt

    by_cases : (o : Ordering) → R b key ≡ o → ordering_index (R a key) ≤ ordering_index o
    by_cases Less is = rw (order.trans a b key less is) (lit≤ tt)
    by_cases Equal is =
        let back : R key a ≡ R b a = sym (order.congr b key a is) in
        let first : R a key ≡ Less =
        order.antisymm a key ∙ ap ordering_reverse back ∙ sym (order.antisymm a b) ∙ less in
        rw first (lit≤ tt)
    by_cases Greater is = at_most (R a key)

module _ {V : Type 0} {is_scalar : V → Bool} {of_raw : List ℕ → V} {raw_of : V → List ℕ} {m size : ℕ}
    (laws : ScalarLaws is_scalar (are_bytes m) of_raw raw_of m size) (array : List (List ℕ))
    (are : AreRaw (are_bytes m) (λ r. r) size array) where
  abbrev at : ℕ → List ℕ
  at = element size (flat_map (λ r. r) array)

  abbrev many : ℕ
  many = length (flat_map (λ r. r) array) / size

  stored_at : (k : ℕ) → k < many → IsStored is_scalar raw_of (at k) (of_raw (at k))
  stored_at k within =
      let inside : k < length array = omega (arith, within, counted (are_bytes m) (λ r. r) size array are) in
      let here = element_at (are_bytes m) (λ r. r) size k array [] are.each inside in
      let bytes : IsTrue (are_bytes m (at k)) =
      rw here (value_at (are_bytes m) (λ r. r) size k array [] are.each inside) in
      record { bytes_are = laws.forth (at k) bytes; is_value = laws.of_raw_value (at k) bytes }

  -- the result of a search by the comparison `answer`
  abbrev IsFound : (V → Ordering) → Result ℕ ℕ → Type 0
  IsFound answer result = MatchResult result
      (λ i. (i < many) × StoresOne is_scalar raw_of (at i) (λ v. answer v ≡ Equal))
      (λ i. (i ≤ many)
      × (Rises is_scalar raw_of answer at many → Splits is_scalar raw_of answer at many i i))

  none_equal : (answer : V → Ordering) (result : Result ℕ ℕ) → Rises is_scalar raw_of answer at many
      → IsFound answer result → IfErr result (λ _. (k : ℕ) → k < many → answer (of_raw (at k)) ≢ Equal)
  none_equal answer (Ok i) rises found = tt
  none_equal answer (Err i) rises found = λ k within.
      nowhere is_scalar raw_of answer at many i k (of_raw (at k)) rises found.1 within (stored_at k within)

  -- by a number
  module _ (number_of : V → ℕ) (number : List ℕ → ℕ) (key : ℕ) (result : Result ℕ ℕ)
      (same : (v : V) → IsTrue (is_scalar v) → number_of v ≡ number (raw_of v)) where
    has_number : (k : ℕ) (v : V) → IsStored is_scalar raw_of (at k) v → number_of v ≡ number (at k)
    has_number k v is = same v is.is_value ∙ ap number is.bytes_are

    pub no_record_has : ((i j : ℕ) → i ≤ j → j < many → number (at i) ≤ number (at j))
        → IsFound (λ v. nat_cmp (number_of v) key) result
        → IfErr result (λ _. (k : ℕ) → k < many → number (at k) ≢ key)
    no_record_has sorted searched =
        let rises = rises_by is_scalar raw_of (λ v. nat_cmp (number_of v) key) at many number_of key (λ v. refl)
        (λ i j v w from within is_v is_w.
        omega (arith, sorted i j from within, has_number i v is_v, has_number j w is_w)) in
        if_err result (λ _ none k within is. none k within
        (sym (nat_cmp_is (number_of (of_raw (at k))) key Equal
        (has_number k (of_raw (at k)) (stored_at k within) ∙ is))))
        (none_equal (λ v. nat_cmp (number_of v) key) result rises searched)

  -- by a number, of `partition_point`
  module _ (number_of : V → ℕ) (number : List ℕ → ℕ) (key place : ℕ)
      (same : (v : V) → IsTrue (is_scalar v) → number_of v ≡ number (raw_of v)) where
    stored_number : (k : ℕ) (v : V) → IsStored is_scalar raw_of (at k) v → number_of v ≡ number (at k)
    stored_number k v is = same v is.is_value ∙ ap number is.bytes_are

    pub parted_by_number : ((i j : ℕ) → i ≤ j → j < many → number (at i) ≤ number (at j))
        → (place ≤ many) × (Rises is_scalar raw_of (λ v. side (nat_lt (number_of v) key)) at many
        → Splits is_scalar raw_of (λ v. side (nat_lt (number_of v) key)) at many place place)
        → ((k : ℕ) → k < place → number (at k) < key) × ((k : ℕ) → place ≤ k → k < many → key ≤ number (at k))
    parted_by_number sorted parted =
        let splits = parted.1 (record {
          keeps = λ i j v w from within is_v is_w. side_rises (number_of v) (number_of w) key
              (omega (arith, sorted i j from within, stored_number i v is_v, stored_number j w is_w));
        }) in (
          λ k below.
              let is = stored_at k (omega (arith, below, parted.0)) in
              let lesser = side_less (number_of (of_raw (at k))) key (splits.less k (of_raw (at k)) below is) in
              omega (arith, stored_number k (of_raw (at k)) is, lesser),
          λ k above within.
              let is = stored_at k within in
              let other = side_greater (number_of (of_raw (at k))) key
              (splits.greater k (of_raw (at k)) above within is) in
              omega (arith, stored_number k (of_raw (at k)) is, other),
        )

  -- by a key of bytes, such as a tag, each less than the next
  module _ (key_of : V → List ℕ) (key_at : List ℕ → List ℕ) (key : List ℕ) (result : Result ℕ ℕ)
      (same : (v : V) → IsTrue (is_scalar v) → key_of v ≡ key_at (raw_of v)) where
    has_key : (k : ℕ) (v : V) → IsStored is_scalar raw_of (at k) v → key_of v ≡ key_at (at k)
    has_key k v is = same v is.is_value ∙ ap key_at is.bytes_are

    pub no_record_has_key : ((i j : ℕ) → i < j → j < many
        → slice_cmp nat_cmp (key_at (at i)) (key_at (at j)) ≡ Less)
        → IsFound (λ v. slice_cmp nat_cmp (key_of v) key) result
        → IfErr result (λ _. (k : ℕ) → k < many → key_at (at k) ≢ key)
    no_record_has_key sorted searched =
        if_err result (λ _ none k within is. none k within
        (ap (λ b. slice_cmp nat_cmp b key) (has_key k (of_raw (at k)) (stored_at k within) ∙ is) ∙ same_key))
        (none_equal (λ v. slice_cmp nat_cmp (key_of v) key) result rises searched)
      where
        itself : (o : Ordering) → o ≡ ordering_reverse o → o ≡ Equal
        itself Less is = grind arith
        itself Equal is = refl
        itself Greater is = grind arith

        same_key : slice_cmp nat_cmp key key ≡ Equal
        same_key = itself (slice_cmp nat_cmp key key) (nat_list_cmp_total.antisymm key key)

        ordered : (i j : ℕ) → i ≤ j → j < many
            → ordering_index (slice_cmp nat_cmp (key_at (at i)) key)
            ≤ ordering_index (slice_cmp nat_cmp (key_at (at j)) key)
        ordered i j from within = grind (arith, rank_rises, sorted i j, nat_list_cmp_total)

        rises : Rises is_scalar raw_of (λ v. slice_cmp nat_cmp (key_of v) key) at many
        rises = record {
          keeps = λ i j v w from within is_v is_w.
              rw (has_key i v is_v, has_key j w is_w) (ordered i j from within);
        }
