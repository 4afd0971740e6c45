-- Arrays of scalars (OpenType, the tables' formats: arrays of numbers and of records).
use Rattle.std.specs.Prelude.{◌≡◌, ℕ, ◌/◌, ◌<◌, ◌≤◌, List, length, map, flat_map, Bool, Result, MatchResult}
use Rattle.std.specs.{declared.cmp.Ordering.Ordering, declared.cmp.Ordering.TheVariants.Equal, Slice.Iter.iter_rest}
use Rattle.font_base.specs.declared.raw.BeByteArray as BeByteArray
use Rattle.font_base.specs.declared.raw.FixedSize as FixedSize
use Rattle.font_base.specs.declared.raw.Scalar as Scalar
use Rattle.font_base.specs.Elements.{element, elements, StoresOne, Rises, Splits, side}
use Rattle.font_base.specs.{declared.array.ScalarArray.ScalarArray, declared.array.ScalarArrayIter.ScalarArrayIter}

module _ {T X : Type 0} {scalar : Scalar.Ghosts T X} {size : FixedSize.Ghosts T} {x : BeByteArray.Ghosts X} where
  -- the bytes of an array
  abbrev pub array_bytes : ScalarArray T X scalar size x → List ℕ
  array_bytes array = flat_map x.bytes array.raw.now

  -- the number of elements
  abbrev pub array_len : ScalarArray T X scalar size x → ℕ
  array_len array = length (array_bytes array) / size.RAW_BYTE_LEN

  -- the bytes of the element at an index
  abbrev pub element_bytes : ScalarArray T X scalar size x → ℕ → List ℕ
  element_bytes array = element size.RAW_BYTE_LEN (array_bytes array)

  -- the bytes of each element, in order
  abbrev pub array_elements : ScalarArray T X scalar size x → List (List ℕ)
  array_elements array = elements size.RAW_BYTE_LEN (array_len array) (array_bytes array)

  -- the bytes of each element that an iterator has left, in order
  abbrev pub elements_left : ScalarArrayIter T X scalar size x → List (List ℕ)
  elements_left iter = map x.bytes (iter_rest iter.rest)

  -- the comparisons are sorted: `Less`, then `Equal`, then `Greater`
  abbrev pub RisesAlong : ScalarArray T X scalar size x → (T → Ordering) → Type 0
  RisesAlong array answer = Rises scalar.is_scalar (λ v. x.bytes (scalar.raw_of v)) answer
      (element_bytes array) (array_len array)

  -- elements before `low` compare as `Less`, and those from `high` on as `Greater`
  abbrev pub SplitsArray : ScalarArray T X scalar size x → (T → Ordering) → ℕ → ℕ → Type 0
  SplitsArray array answer = Splits scalar.is_scalar (λ v. x.bytes (scalar.raw_of v)) answer
      (element_bytes array) (array_len array)

  -- the result of a binary search: the index of an element that compares as `Equal`; or, if the comparisons are sorted,
  -- the index before which every element is `Less`, and from which on every element is `Greater`
  abbrev pub IsSearched : ScalarArray T X scalar size x → (T → Ordering) → Result ℕ ℕ → Type 0
  IsSearched array answer result = MatchResult result
      (λ i. (i < array_len array)
      × StoresOne scalar.is_scalar (λ v. x.bytes (scalar.raw_of v)) (element_bytes array i) (λ v. answer v ≡ Equal))
      (λ i. (i ≤ array_len array) × (RisesAlong array answer → SplitsArray array answer i i))

  -- the index of the first element for which the test fails, or the length: if elements for which it holds are all
  -- before those for which it fails, it holds of every element before the index, and of none from there on
  abbrev pub IsPartitionPoint : ScalarArray T X scalar size x → (T → Bool) → ℕ → Type 0
  IsPartitionPoint array before place = (place ≤ array_len array)
      × (RisesAlong array (λ v. side (before v)) → SplitsArray array (λ v. side (before v)) place place)
