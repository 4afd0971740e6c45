-- The results of searches in arrays of glyph ids and of 16-bit numbers, in the form of their callers' goals.
use Rattle.std.proofs.Common.{◌≡◌, ◌≢◌, ◌<◌, ◌≤◌, ◌^◌, ℕ, pos, nat_lt, refl, List, Result, IfOk, IfErr, IfSome, IfNone}
use Rattle.std.proofs.Common.{MatchResult, arith}
use Rattle.std.specs.{Result.result_ok, Ordering.nat_cmp, declared.cmp.Ordering.TheVariants.Equal}
use Rattle.font_base.specs.Bytes.{numeral, bytes_of}
use Rattle.font_base.specs.Elements.{element, StoresOne, Rises, Splits}
use Rattle.font_base.proofs.ScalarCalls.{array_calls, number_found, numeral_found, number_absent, IsSearchedWord}
use Rattle.font_base.proofs.ScalarCalls.{word_numeral, word_absent, IsNumberSearched}
use Rattle.font_ids.specs.{declared.glyph_id.GlyphId16.GlyphId16, GlyphId.glyph16_number}

module _ (bytes : List ℕ) (n : ℕ) (key : GlyphId16) (result : Result ℕ ℕ) where
  abbrev IsSearchedGlyph : Type 0
  IsSearchedGlyph = MatchResult result
      (λ i. (i < n)
      × StoresOne (λ (g : GlyphId16). nat_lt (glyph16_number g) (2 ^ 16)) (λ g. bytes_of 2 (pos (glyph16_number g)))
      (element 2 bytes i) (λ g. nat_cmp (glyph16_number g) (glyph16_number key) ≡ Equal))
      (λ i. (i ≤ n)
      × (Rises (λ (g : GlyphId16). nat_lt (glyph16_number g) (2 ^ 16)) (λ g. bytes_of 2 (pos (glyph16_number g)))
      (λ g. nat_cmp (glyph16_number g) (glyph16_number key)) (element 2 bytes) n
      → Splits (λ (g : GlyphId16). nat_lt (glyph16_number g) (2 ^ 16)) (λ g. bytes_of 2 (pos (glyph16_number g)))
      (λ g. nat_cmp (glyph16_number g) (glyph16_number key)) (element 2 bytes) n i i))

  pub glyph_found : IsSearchedGlyph
      → IfOk result (λ i. (i < n) × (element 2 bytes i ≡ bytes_of 2 (pos (glyph16_number key))))
  glyph_found = number_found glyph16_number 2 n (glyph16_number key) (element 2 bytes) result

  pub glyph_numeral : IsSearchedGlyph
      → IfOk result (λ i. (i < n) × (numeral (element 2 bytes i) ≡ glyph16_number key))
  glyph_numeral = numeral_found glyph16_number 2 n (glyph16_number key) (element 2 bytes) result

  pub glyph_absent : glyph16_number key < 65536
      → ((i j : ℕ) → i ≤ j → j < n → numeral (element 2 bytes i) ≤ numeral (element 2 bytes j))
      → IsSearchedGlyph
      → IfErr result (λ _. (k : ℕ) → k < n → element 2 bytes k ≢ bytes_of 2 (pos (glyph16_number key)))
  glyph_absent = number_absent glyph16_number 2 n (glyph16_number key) (element 2 bytes) key result refl

-- the same for the index alone, as `ok` returns it
found_some : (P : ℕ → Type 0) (result : Result ℕ ℕ) → IfOk result P → IfSome (result_ok result) P
found_some v0 v1 found = grind arith

absent_none : (P : Type 0) (result : Result ℕ ℕ) → IfErr result (λ _. P) → IfNone (result_ok result) P
absent_none v0 v1 absent = grind (arith, absent)

module _ (bytes : List ℕ) (n : ℕ) (key : GlyphId16) (result : Result ℕ ℕ) where
  pub glyph_numeral_some : IsSearchedGlyph bytes n key result
      → IfSome (result_ok result) (λ i. (i < n) × (numeral (element 2 bytes i) ≡ glyph16_number key))
  glyph_numeral_some searched = found_some _ result (glyph_numeral bytes n key result searched)

  pub glyph_absent_none : glyph16_number key < 65536
      → ((i j : ℕ) → i ≤ j → j < n → numeral (element 2 bytes i) ≤ numeral (element 2 bytes j))
      → IsSearchedGlyph bytes n key result
      → IfNone (result_ok result) ((k : ℕ) → k < n → element 2 bytes k ≢ bytes_of 2 (pos (glyph16_number key)))
  glyph_absent_none below sorted searched = absent_none _ result (glyph_absent bytes n key result below sorted searched)

module _ (bytes : List ℕ) (n key : ℕ) (result : Result ℕ ℕ) where
  pub word_numeral_some : IsSearchedWord bytes n key result
      → IfSome (result_ok result) (λ i. (i < n) × (numeral (element 2 bytes i) ≡ key))
  word_numeral_some searched = found_some _ result (word_numeral bytes n key result searched)

  pub word_absent_none : key < 65536
      → ((i j : ℕ) → i ≤ j → j < n → numeral (element 2 bytes i) ≤ numeral (element 2 bytes j))
      → IsSearchedWord bytes n key result
      → IfNone (result_ok result) ((k : ℕ) → k < n → element 2 bytes k ≢ bytes_of 2 (pos key))
  word_absent_none below sorted searched = absent_none _ result (word_absent bytes n key result below sorted searched)

pub ruleset search_calls = (
  array_calls,
  glyph_found,
  glyph_numeral,
  glyph_absent,
  glyph_numeral_some,
  glyph_absent_none,
  word_numeral_some,
  word_absent_none,
)

-- the same for arrays of unsigned numbers of other sizes
module _ (size : ℕ) (bytes : List ℕ) (n key : ℕ) (result : Result ℕ ℕ)
    (searched : IsNumberSearched (λ (m : ℕ). m) size n key (element size bytes) result) where
  size_numeral : IfOk result (λ i. (i < n) × (numeral (element size bytes i) ≡ key))
  size_numeral = numeral_found (λ m. m) size n key (element size bytes) result searched

  size_numeral_some : IfSome (result_ok result) (λ i. (i < n) × (numeral (element size bytes i) ≡ key))
  size_numeral_some = found_some _ result size_numeral

  size_absent : key < 256 ^ size
      → ((i j : ℕ) → i ≤ j → j < n → numeral (element size bytes i) ≤ numeral (element size bytes j))
      → IfErr result (λ _. (k : ℕ) → k < n → element size bytes k ≢ bytes_of size (pos key))
  size_absent below sorted =
      number_absent (λ m. m) size n key (element size bytes) key result refl below sorted searched

  size_absent_none : key < 256 ^ size
      → ((i j : ℕ) → i ≤ j → j < n → numeral (element size bytes i) ≤ numeral (element size bytes j))
      → IfNone (result_ok result) ((k : ℕ) → k < n → element size bytes k ≢ bytes_of size (pos key))
  size_absent_none below sorted = absent_none _ result (size_absent below sorted)

module _ (bytes : List ℕ) (n key : ℕ) (result : Result ℕ ℕ)
    (searched : IsNumberSearched (λ (m : ℕ). m) 1 n key (element 1 bytes) result) where
  pub byte_numeral : IfOk result (λ i. (i < n) × (numeral (element 1 bytes i) ≡ key))
  byte_numeral = size_numeral 1 bytes n key result searched

  pub byte_numeral_some : IfSome (result_ok result) (λ i. (i < n) × (numeral (element 1 bytes i) ≡ key))
  byte_numeral_some = size_numeral_some 1 bytes n key result searched

  pub byte_absent : key < 256
      → ((i j : ℕ) → i ≤ j → j < n → numeral (element 1 bytes i) ≤ numeral (element 1 bytes j))
      → IfErr result (λ _. (k : ℕ) → k < n → element 1 bytes k ≢ bytes_of 1 (pos key))
  byte_absent below sorted = size_absent 1 bytes n key result searched below sorted

  pub byte_absent_none : key < 256
      → ((i j : ℕ) → i ≤ j → j < n → numeral (element 1 bytes i) ≤ numeral (element 1 bytes j))
      → IfNone (result_ok result) ((k : ℕ) → k < n → element 1 bytes k ≢ bytes_of 1 (pos key))
  byte_absent_none below sorted = size_absent_none 1 bytes n key result searched below sorted

module _ (bytes : List ℕ) (n key : ℕ) (result : Result ℕ ℕ)
    (searched : IsNumberSearched (λ (m : ℕ). m) 4 n key (element 4 bytes) result) where
  pub long_numeral : IfOk result (λ i. (i < n) × (numeral (element 4 bytes i) ≡ key))
  long_numeral = size_numeral 4 bytes n key result searched

  pub long_numeral_some : IfSome (result_ok result) (λ i. (i < n) × (numeral (element 4 bytes i) ≡ key))
  long_numeral_some = size_numeral_some 4 bytes n key result searched

  pub long_absent : key < 4294967296
      → ((i j : ℕ) → i ≤ j → j < n → numeral (element 4 bytes i) ≤ numeral (element 4 bytes j))
      → IfErr result (λ _. (k : ℕ) → k < n → element 4 bytes k ≢ bytes_of 4 (pos key))
  long_absent below sorted = size_absent 4 bytes n key result searched below sorted

  pub long_absent_none : key < 4294967296
      → ((i j : ℕ) → i ≤ j → j < n → numeral (element 4 bytes i) ≤ numeral (element 4 bytes j))
      → IfNone (result_ok result) ((k : ℕ) → k < n → element 4 bytes k ≢ bytes_of 4 (pos key))
  long_absent_none below sorted = size_absent_none 4 bytes n key result searched below sorted

pub ruleset long_search_calls = (
  long_numeral,
  long_numeral_some,
  long_absent,
  long_absent_none,
)

pub ruleset byte_search_calls = (
  byte_numeral,
  byte_numeral_some,
  byte_absent,
  byte_absent_none,
)
