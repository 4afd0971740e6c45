-- Consecutive elements of equal size.
-- (OpenType, the tables' formats: arrays, as of `uint16` in `cmap` and of records in the table directory)
use Rattle.std.specs.Prelude.{◌≡◌, ℕ, zero, suc, ◌*◌, ◌<◌, ◌≤◌, List, [], ◌∷◌, take, drop, length, Bool, IsTrue, ◌&&◌}
use Rattle.std.specs.Prelude.{◌==◌, if◌then◌else◌}
use Rattle.std.specs.declared.cmp.Ordering.TheVariants.{Less, Greater}
use Rattle.std.specs.{declared.cmp.Ordering.Ordering, Ordering.ordering_index, List.list_all}

-- the bytes of the element at an index, if each element has `size` bytes
abbrev pub element : ℕ → List ℕ → ℕ → List ℕ
element size bytes i = take size (drop (i * size) bytes)

-- the bytes of each of n elements, in order
abbrev pub elements : ℕ → ℕ → List ℕ → List (List ℕ)
elements size zero bytes = []
elements size (suc n) bytes = take size bytes ∷ elements size n (drop size bytes)

-- The raw bytes of the elements of an array: each is a value of `size` bytes, and there are none if that is 0.
-- (own: bytes alone do not say how many elements of no bytes they hold)
pub record AreRaw {R : Type 0} (is_value : R → Bool) (bytes : R → List ℕ) (size : ℕ) (raw : List R) : Type 0 where
  pub each : IsTrue (list_all (λ a. is_value a && (length (bytes a) == size)) raw)
  pub none : size ≡ 0 → length raw ≡ 0

-- v is a value of its type, encoded as these bytes
pub record IsStored {V : Type 0} (is_scalar : V → Bool) (stored : V → List ℕ) (bytes : List ℕ) (v : V) : Type 0 where
  pub bytes_are : stored v ≡ bytes
  pub is_value : IsTrue (is_scalar v)

-- the bytes encode a value with the property P
pub record StoresOne {V : Type 0} (is_scalar : V → Bool) (stored : V → List ℕ) (bytes : List ℕ)
    (P : V → Type 0) : Type 0 where
  pub value : V
  pub is_stored : IsStored is_scalar stored bytes value
  pub holds : P value

-- The comparisons of the n elements are sorted: `Less`, then `Equal`, then `Greater`. They are, for example, if the
-- elements are sorted by a key, and each key is compared with one given key.
pub record Rises {V : Type 0} (is_scalar : V → Bool) (stored : V → List ℕ) (answer : V → Ordering)
    (at : ℕ → List ℕ) (n : ℕ) : Type 0 where
  pub keeps : (i j : ℕ) (v w : V) → i ≤ j → j < n → IsStored is_scalar stored (at i) v
      → IsStored is_scalar stored (at j) w → ordering_index (answer v) ≤ ordering_index (answer w)

-- how an element compares in a search for the first one for which a test fails
abbrev pub side : Bool → Ordering
side before = if before then Less else Greater

-- elements before `low` compare as `Less`, and those from `high` on as `Greater`
pub record Splits {V : Type 0} (is_scalar : V → Bool) (stored : V → List ℕ) (answer : V → Ordering)
    (at : ℕ → List ℕ) (n low high : ℕ) : Type 0 where
  pub less : (k : ℕ) (v : V) → k < low → IsStored is_scalar stored (at k) v → answer v ≡ Less
  pub greater : (k : ℕ) (v : V) → high ≤ k → k < n → IsStored is_scalar stored (at k) v → answer v ≡ Greater
