-- Lemmas for callers of scalars and fields: the number of a 24-bit integer whose bytes are known, and a search that
-- found nothing.
use Rattle.std.proofs.Common.{◌≡◌, ◌≢◌, ◌∙◌, sym, ap, refl, arith, rules, ℕ, ◌^◌, ◌<◌, ◌≤◌, Bool, List, get_or, pos}
use Rattle.std.proofs.Common.{nat_lt, Result, Ok, Err, IfOk, IfErr, MatchResult, All, IsSortedByKey, nat_cmp, Ordering}
use Rattle.std.proofs.Common.{Equal}
use Rattle.std.proofs.{lemmas.Bool.cases_lt, lemmas.Bool.Decides.nat_tests, lemmas.List.Sorted.searchable_from_sorted}
use Rattle.std.specs.{Cmp.nat_cmp_is, Cmp.nat_cmp_total, List.Sorted.IsBinarySearchResult}
use Rattle.font_base.specs.Elements.{element, IsStored, StoresOne, Rises, Splits}
use Rattle.font_base.specs.{Bytes.numeral, Bytes.signed_numeral, Bytes.bytes_of, Bytes.Laws.unsigned_back}
use Rattle.font_base.specs.{declared.uint24.Uint24.Uint24, Uint24.uint24_number, Uint24.bytes_of_uint24}
use Rattle.font_base.specs.{declared.int24.Int24.Int24, Int24.int24_number, Int24.bytes_of_int24}
use Rattle.font_base.proofs.ThreeBytes.{uint24_numeral, int24_numeral}

pub uint24_of_stored : (n : Uint24) (bytes : List ℕ) → bytes_of_uint24 n ≡ bytes → uint24_number n ≡ numeral bytes
uint24_of_stored n bytes stored = uint24_numeral (uint24_number n) bytes n.in_range (sym stored)

pub int24_of_stored : (n : Int24) (bytes : List ℕ) → bytes_of_int24 n ≡ bytes → int24_number n ≡ signed_numeral 3 bytes
int24_of_stored n bytes stored =
    int24_numeral (int24_number n) bytes (record { low = n.low; high = n.high }) (sym stored)

pub ruleset scalar_calls = (uint24_of_stored, int24_of_stored)

-- if elements are sorted by their numbers, and a binary search returns no index, none has the number
pub absent : {X : Type 0} (number_of : X → ℕ) (xs : List X) (n : ℕ) (result : Result ℕ ℕ)
    → IsSortedByKey number_of nat_cmp xs
    → IsBinarySearchResult (λ x. nat_cmp (number_of x) n) xs result → IfErr result (λ _. All (λ x. number_of x ≢ n) xs)
absent number_of xs n (Ok place) sorted searched = tt
absent number_of xs n (Err place) sorted searched =
    let sides = searched (searchable_from_sorted nat_cmp_total number_of xs n sorted) in
    λ k d within same.
    let equal : Equal ≡ nat_cmp (number_of (get_or xs k d)) n = nat_cmp_is (number_of (get_or xs k d)) n Equal same in
    grind (arith, cases_lt k place, sides.0 k d (omega arith), sides.1 k d)

-- ---- searches in arrays

module _ {V : Type 0} (is_scalar : V → Bool) (stored : V → List ℕ) (answer : V → Ordering) (at : ℕ → List ℕ)
    (n : ℕ) where
  -- a search finds every element that compares as equal, if the comparisons are sorted
  pub nowhere : (i k : ℕ) (v : V) → Rises is_scalar stored answer at n → (Rises is_scalar stored answer at n
      → Splits is_scalar stored answer at n i i) → k < n → IsStored is_scalar stored (at k) v → answer v ≢ Equal
  nowhere i k v rises splits within is same = grind arith

  -- comparisons with a key are sorted if the numbers are
  pub rises_by : (number_of : V → ℕ) (key : ℕ) → ((v : V) → answer v ≡ nat_cmp (number_of v) key)
      → ((i j : ℕ) (v w : V) → i ≤ j → j < n → IsStored is_scalar stored (at i) v → IsStored is_scalar stored (at j) w
      → number_of v ≤ number_of w) → Rises is_scalar stored answer at n
  rises_by number_of key compares sorted = grind (arith, nat_tests)

-- the same for unsigned numbers of `size` bytes, and for types that are such a number, by their numerals
module _ {V : Type 0} (number_of : V → ℕ) (size n key : ℕ) (at : ℕ → List ℕ) where
  abbrev is_number : V → Bool
  is_number v = nat_lt (number_of v) (256 ^ size)

  abbrev number_bytes : V → List ℕ
  number_bytes v = bytes_of size (pos (number_of v))

  numeral_stored : (i : ℕ) (v : V) → IsStored is_number number_bytes (at i) v → number_of v ≡ numeral (at i)
  numeral_stored i v is = sym (unsigned_back size (number_of v) is.is_value) ∙ ap numeral is.bytes_are

  pub numerals_rise : ((i j : ℕ) → i ≤ j → j < n → numeral (at i) ≤ numeral (at j))
      → Rises is_number number_bytes (λ v. nat_cmp (number_of v) key) at n
  numerals_rise sorted = rises_by is_number number_bytes (λ v. nat_cmp (number_of v) key) at n number_of key
      (λ v. refl)
      (λ i j v w from within is_v is_w.
      omega (arith, sorted i j from within, numeral_stored i v is_v, numeral_stored j w is_w))

  abbrev pub IsNumberSearched : Result ℕ ℕ → Type 0
  IsNumberSearched result = MatchResult result
      (λ i. (i < n) × StoresOne is_number number_bytes (at i) (λ v. nat_cmp (number_of v) key ≡ Equal))
      (λ i. (i ≤ n) × (Rises is_number number_bytes (λ v. nat_cmp (number_of v) key) at n
      → Splits is_number number_bytes (λ v. nat_cmp (number_of v) key) at n i i))

  pub number_found : (result : Result ℕ ℕ) → IsNumberSearched result
      → IfOk result (λ i. (i < n) × (at i ≡ bytes_of size (pos key)))
  number_found result found = grind (arith, nat_tests)

  -- the same, stated by the numeral of the bytes
  pub numeral_found : (result : Result ℕ ℕ) → IsNumberSearched result
      → IfOk result (λ i. (i < n) × (numeral (at i) ≡ key))
  numeral_found result found = grind (arith, nat_tests, numeral_stored)

  pub number_absent : (v : V) (result : Result ℕ ℕ) → number_of v ≡ key → key < 256 ^ size
      → ((i j : ℕ) → i ≤ j → j < n → numeral (at i) ≤ numeral (at j)) → IsNumberSearched result
      → IfErr result (λ _. (k : ℕ) → k < n → at k ≢ bytes_of size (pos key))
  number_absent v (Ok i) has below sorted found = tt
  number_absent v (Err i) has below sorted found = λ k within same.
      nowhere is_number number_bytes (λ v. nat_cmp (number_of v) key) at n i k v (numerals_rise sorted) found.1 within
      (record { bytes_are = ap (λ m. bytes_of size (pos m)) has ∙ sym same; is_value = rw has (search (rules, below)) })
      (sym (nat_cmp_is (number_of v) key Equal has))

-- a search in an array of 16-bit numbers, in the form of its callers' goals
module _ (bytes : List ℕ) (n key : ℕ) (result : Result ℕ ℕ) where
  abbrev pub IsSearchedWord : Type 0
  IsSearchedWord = IsNumberSearched (λ (m : ℕ). m) 2 n key (element 2 bytes) result

  pub word_found : IsSearchedWord → IfOk result (λ i. (i < n) × (element 2 bytes i ≡ bytes_of 2 (pos key)))
  word_found = number_found (λ m. m) 2 n key (element 2 bytes) result

  pub word_numeral : IsSearchedWord → IfOk result (λ i. (i < n) × (numeral (element 2 bytes i) ≡ key))
  word_numeral = numeral_found (λ m. m) 2 n key (element 2 bytes) result

  pub word_absent : key < 65536
      → ((i j : ℕ) → i ≤ j → j < n → numeral (element 2 bytes i) ≤ numeral (element 2 bytes j))
      → IsSearchedWord → IfErr result (λ _. (k : ℕ) → k < n → element 2 bytes k ≢ bytes_of 2 (pos key))
  word_absent = number_absent (λ m. m) 2 n key (element 2 bytes) key result refl

pub ruleset array_calls = (word_found, word_numeral, word_absent)
