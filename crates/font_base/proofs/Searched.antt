-- Searches of std, as searches of an array.
use Rattle.std.proofs.Common.{◌≡◌, ◌∙◌, sym, ap, ℕ, ◌/◌, ◌<◌, ◌≤◌, Bool, true, false, IsTrue, arith, List, [], ◌∷◌}
use Rattle.std.proofs.Common.{length, get_or, flat_map, Result, Ok, Err, MatchResult, IfOk, IfErr, Ordering, Less}
use Rattle.std.proofs.Common.{Equal, Greater}
use Rattle.std.proofs.lemmas.Bool.Decides.{nat_tests}
use Rattle.std.specs.List.Sorted.{IsBinarySearchResult, IsNonDecreasingBy, IsPartitionedBy, IsSearchInRange}
use Rattle.std.specs.List.Sorted.{IsPartitionPoint}
use Rattle.std.specs.{List.AllWithin, Ordering.ordering_index}
use Rattle.font_base.specs.Elements.{element, IsStored, StoresOne, Rises, Splits, side, AreRaw}
use Rattle.font_base.specs.Scalar.{ScalarLaws}
use Rattle.font_base.proofs.Elements.{counted, element_at, value_at}

-- some element, where there is one
some_element : {X : Type 0} (k : ℕ) (xs : List X) → k < length xs → X
some_element k [] within = absurd (omega arith)
some_element k (x ∷ xs) within = x

module _ {R : Type 0} (is_value : R → Bool) (bytes : R → List ℕ) (size : ℕ) (xs : List R)
    (are : AreRaw is_value bytes size xs) where
  within_len : (k : ℕ) → k < length xs → k < length (flat_map bytes xs) / size
  within_len k within = omega (arith, within, counted is_value bytes size xs are)

  pub found_within : (result : Result ℕ ℕ) → IsSearchInRange result (length xs)
      → IfOk result (λ i. i < length (flat_map bytes xs) / size)
  found_within (Ok i) within = within_len i within
  found_within (Err i) within = tt

  pub absent_within : (result : Result ℕ ℕ) → IsSearchInRange result (length xs)
      → IfErr result (λ i. i ≤ length (flat_map bytes xs) / size)
  absent_within result within = grind (arith, counted)

module _ {V R : Type 0} (is_scalar : V → Bool) (is_value : R → Bool) (of_raw : R → V) (raw_of : V → R)
    (bytes : R → List ℕ) (raw_len size : ℕ) (laws : ScalarLaws is_scalar is_value of_raw raw_of raw_len size)
    (same : (a b : R) → IsTrue (is_value a) → IsTrue (is_value b) → bytes a ≡ bytes b → a ≡ b)
    (xs : List R) (are : AreRaw is_value bytes size xs) where
  abbrev pub at : ℕ → List ℕ
  at = element size (flat_map bytes xs)

  abbrev pub many : ℕ
  many = length (flat_map bytes xs) / size

  abbrev pub stored : V → List ℕ
  stored v = bytes (raw_of v)

  within_many : (k : ℕ) → k < many → k < length xs
  within_many k within = omega (arith, within, counted is_value bytes size xs are)

  many_within : (k : ℕ) → k < length xs → k < many
  many_within k within = omega (arith, within, counted is_value bytes size xs are)

  value_of : (k : ℕ) (d : R) → k < length xs → IsTrue (is_value (get_or xs k d))
  value_of k d within = value_at is_value bytes size k xs d are.each within

  bytes_at : (k : ℕ) (d : R) → k < length xs → at k ≡ bytes (get_or xs k d)
  bytes_at k d within = element_at is_value bytes size k xs d are.each within

  -- the value that an element stores
  decoded : (k : ℕ) (v : V) (d : R) → k < length xs → IsStored is_scalar stored (at k) v → of_raw (get_or xs k d) ≡ v
  decoded k v d within is = grind (arith, value_of, bytes_at)

  stored_at : (k : ℕ) (d : R) → k < length xs → IsStored is_scalar stored (at k) (of_raw (get_or xs k d))
  stored_at k d within = grind (arith, value_of, bytes_at)

  module _ (answer : V → Ordering) where
    rising : Rises is_scalar stored answer at many → IsNonDecreasingBy (λ y. ordering_index (answer (of_raw y))) xs
    rising rises i j d order within = grind (arith, many_within j within, stored_at, stored_at j d within)

    split : (place : ℕ) → place ≤ length xs → AllWithin (λ y. answer (of_raw y) ≡ Less) xs 0 place
        → AllWithin (λ y. answer (of_raw y) ≡ Greater) xs place (length xs)
        → Splits is_scalar stored answer at many place place
    split place within before after = record {
      less = λ k v low is.
          let here : k < length xs = omega (arith, low, within) in
          let d = some_element k xs here in
          ap answer (sym (decoded k v d here is)) ∙ before k d (omega arith) low;
      greater = λ k v high inside is.
          let here = within_many k inside in
          let d = some_element k xs here in
          ap answer (sym (decoded k v d here is)) ∙ after k d high here;
    }

    pub searched : (result : Result ℕ ℕ) → IsSearchInRange result (length xs)
        → IsBinarySearchResult (λ y. answer (of_raw y)) xs result → MatchResult result
        (λ i. (i < many) × StoresOne is_scalar stored (at i) (λ v. answer v ≡ Equal))
        (λ i. (i ≤ many) × (Rises is_scalar stored answer at many → Splits is_scalar stored answer at many i i))
    searched (Ok i) within found =
        let d = some_element i xs within in (
          many_within i within,
          record {
            value = of_raw (get_or xs i d);
            is_stored = stored_at i d within;
            holds = found d;
          },
        )
    searched (Err i) within found = grind (arith, counted, rising, split)

  module _ (before : V → Bool) where
    partitioned : Rises is_scalar stored (λ v. side (before v)) at many → IsPartitionedBy (λ y. before (of_raw y)) xs
    partitioned rises i j d order within holds =
        let kept = rising (λ v. side (before v)) rises i j d order within in
        first_too (before (of_raw (get_or xs i d))) (before (of_raw (get_or xs j d))) kept holds
      where
        first_too : (a b : Bool) → ordering_index (side a) ≤ ordering_index (side b) → b ≡ true → a ≡ true
        first_too a b order holds = grind (arith, nat_tests)

    pub parted : (place : ℕ) → place ≤ length xs
        → (IsPartitionedBy (λ y. before (of_raw y)) xs
        → IsPartitionPoint (λ y. before (of_raw y) ≡ true) (λ y. before (of_raw y) ≡ false) xs place)
        → (place ≤ many) × (Rises is_scalar stored (λ v. side (before v)) at many
        → Splits is_scalar stored (λ v. side (before v)) at many place place)
    parted place within found = grind (arith, counted, partitioned, split)
