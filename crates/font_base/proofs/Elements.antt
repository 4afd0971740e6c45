-- Elements of an array, and the byte arrays that they are.
use Rattle.std.proofs.Common.{◌≡◌, ◌∙◌, sym, ap, refl, ℕ, zero, suc, ◌+◌, ◌-◌, ◌*◌, ◌/◌, ◌%◌, ◌<◌, ◌≤◌, Bool, IsTrue}
use Rattle.std.proofs.Common.{List, [], ◌∷◌, ◌++◌, map, length, take, drop, get_or, flat_map, arith, ◌&&◌, ◌==◌}
use Rattle.std.proofs.Common.{length-append, suc-mul, zero-mul, drop-drop, take-take}
use Rattle.std.proofs.Math.Seq.{take-append_seam, drop-append_seam, take-append-add, drop-append-add}
use Rattle.std.proofs.lemmas.List.{take-append-le, take-map, drop-map, drop-take}
use Rattle.std.proofs.{lemmas.Bool.Decides.nat_tests, lemmas.Grind.common_steps}
use Rattle.std.specs.List.{list_all}
use Rattle.font_base.specs.Elements.{element, elements, AreRaw}

pub length-elements : (size n : ℕ) (bytes : List ℕ) → length (elements size n bytes) ≡ n
length-elements size zero bytes = refl
length-elements size (suc n) bytes = ap suc (length-elements size n (drop size bytes))

-- an element of an array that begins at an offset, in the bytes that it was read from
pub element_of : (size n i offset : ℕ) (bytes : List ℕ) → i < n
    → take size (drop (i * size) (take (n * size) (drop offset bytes))) ≡ take size (drop (offset + i * size) bytes)
element_of size n i offset bytes within =
    let after : ℕ = n - suc i in
    let as_parts : n ≡ i + suc after = omega (arith, within) in
    let parts : n * size ≡ i * size + (size + after * size) = ap (λ k. k * size) as_parts ∙ times i after size in
    ap (λ m. take size (drop (i * size) (take m (drop offset bytes)))) parts
    ∙ ap (take size) (drop-take (i * size) (size + after * size) (drop offset bytes))
    ∙ take-take size (size + after * size) (drop (i * size) (drop offset bytes)) (omega arith)
    ∙ ap (take size) (drop-drop (i * size) offset bytes)
  where
    times : (i k m : ℕ) → (i + suc k) * m ≡ i * m + (m + k * m)
    times i k m = grind arith

module _ {R : Type 0} (is_value : R → Bool) (bytes : R → List ℕ) (size : ℕ) where
  abbrev pub Are : List R → Type 0
  Are = AreRaw is_value bytes size

  abbrev pub Each : List R → Type 0
  Each xs = IsTrue (list_all (λ a. is_value a && (length (bytes a) == size)) xs)

  head_long : (x : R) (xs : List R) → Each (x ∷ xs) → length (bytes x) ≡ size
  head_long x xs each = grind (arith, nat_tests)

  tail_each : (x : R) (xs : List R) → Each (x ∷ xs) → Each xs
  tail_each x xs each = grind (arith, nat_tests)

  -- the bytes of the first n + 1 are those of the first and of n others
  next_bytes : (n : ℕ) (x : R) (xs : List R) → Each (x ∷ xs) → suc n * size ≡ length (bytes x) + n * size
  next_bytes n x xs each = omega (arith, head_long x xs each, suc-mul n size)

  long : (xs : List R) → Each xs → length (flat_map bytes xs) ≡ length xs * size
  long [] each = rw (zero-mul size)
  long (x ∷ xs) each = grind (arith, long xs (tail_each x xs each), length-append)

  pub all_long : (xs : List R) → Are xs → length (flat_map bytes xs) ≡ length xs * size
  all_long xs are = long xs are.each

  pub counted : (xs : List R) → Are xs → length xs ≡ length (flat_map bytes xs) / size
  counted xs are = grind (arith, nat_tests, all_long)

  -- ---- parts

  each_take : (n : ℕ) (xs : List R) → Each xs → Each (take n xs)
  each_take zero xs each = refl
  each_take (suc n) [] each = refl
  each_take (suc n) (x ∷ xs) each = let others = each_take n xs (tail_each x xs each) in grind (arith, nat_tests)

  each_drop : (n : ℕ) (xs : List R) → Each xs → Each (drop n xs)
  each_drop zero xs each = each
  each_drop (suc n) [] each = refl
  each_drop (suc n) (x ∷ xs) each = each_drop n xs (tail_each x xs each)

  pub are_take : (n : ℕ) (xs : List R) → Are xs → Are (take n xs)
  are_take n xs are = grind (arith, each_take, common_steps)

  pub are_drop : (n : ℕ) (xs : List R) → Are xs → Are (drop n xs)
  are_drop n xs are = grind (arith, each_drop, common_steps)

  flat_take : (n : ℕ) (xs : List R) → Each xs → flat_map bytes (take n xs) ≡ take (n * size) (flat_map bytes xs)
  flat_take zero xs each = rw (zero-mul size)
  flat_take (suc n) [] each = grind (arith, common_steps)
  flat_take (suc n) (x ∷ xs) each = grind (arith, flat_take n xs (tail_each x xs each), next_bytes, take-append-add)

  flat_drop : (n : ℕ) (xs : List R) → Each xs → flat_map bytes (drop n xs) ≡ drop (n * size) (flat_map bytes xs)
  flat_drop zero xs each = rw (zero-mul size)
  flat_drop (suc n) [] each = grind (arith, common_steps)
  flat_drop (suc n) (x ∷ xs) each = grind (arith, flat_drop n xs (tail_each x xs each), drop-append-add)

  -- ---- an element

  first_is : (x : R) (xs : List R) → Each (x ∷ xs) → take size (flat_map bytes (x ∷ xs)) ≡ bytes x
  first_is x xs each = rw (← head_long x xs each) (take-append_seam (bytes x) (flat_map bytes xs))

  pub element_at : (i : ℕ) (xs : List R) (d : R) → Each xs → i < length xs
      → element size (flat_map bytes xs) i ≡ bytes (get_or xs i d)
  element_at i [] d each within = absurd (omega arith)
  element_at zero (x ∷ xs) d each within = rw (zero-mul size) (first_is x xs each)
  element_at (suc i) (x ∷ xs) d each within =
      grind (arith, element_at i xs d (tail_each x xs each) (omega arith), drop-append-add)

  pub value_at : (i : ℕ) (xs : List R) (d : R) → Each xs → i < length xs → IsTrue (is_value (get_or xs i d))
  value_at i [] d each within = absurd (omega arith)
  value_at zero (x ∷ xs) d each within = grind (arith, nat_tests)
  value_at (suc i) (x ∷ xs) d each within = value_at i xs d (tail_each x xs each) (omega arith)

  pub element_is : (i : ℕ) (xs : List R) (x : R) → Are xs → i < length xs → x ≡ get_or xs i x
      → bytes x ≡ element size (flat_map bytes xs) i
  element_is i xs x are within here = ap bytes here ∙ sym (element_at i xs x are.each within)

  pub value_is : (i : ℕ) (xs : List R) (x : R) → Are xs → i < length xs → x ≡ get_or xs i x → IsTrue (is_value x)
  value_is i xs x are within here = rw here (value_at i xs x are.each within)

  elements_are : (xs : List R) → Each xs → elements size (length xs) (flat_map bytes xs) ≡ map bytes xs
  elements_are [] each = refl
  elements_are (x ∷ xs) each = grind (arith, elements_are xs (tail_each x xs each), drop-append_seam, first_is)

  -- the elements of an array
  pub all_elements : (xs : List R) → Are xs
      → elements size (length (flat_map bytes xs) / size) (flat_map bytes xs) ≡ map bytes xs
  all_elements xs are = rw (← counted xs are) (elements_are xs are.each)

  -- ---- parts of an array

  -- the first n of the arrays that bytes begin with, after which `left` is too short for one
  part_bytes : (n : ℕ) (xs : List R) (all left : List ℕ) → Are xs → n ≤ length xs
      → flat_map bytes xs ++ left ≡ all → flat_map bytes (take n xs) ≡ take (n * size) all
  part_bytes n xs all left are within is = grind (arith, flat_map, all_long, take-append-le, flat_take)

  pub part_many : (n : ℕ) (xs : List R) (all left : List ℕ) → Are xs → 0 < size
      → flat_map bytes xs ++ left ≡ all → length left ≡ length all % size
      → (n ≤ length xs → n * size ≤ length all) × (n * size ≤ length all → n ≤ length xs)
  part_many n xs all left are some is short = grind (arith, length-append, flat_map, all_long)

  -- the elements from `start` up to `end`
  pub middle_bytes : (start end : ℕ) (xs part : List R) → Are xs → part ≡ take (end - start) (drop start xs)
      → flat_map bytes part ≡ take ((end - start) * size) (drop (start * size) (flat_map bytes xs))
  middle_bytes start end xs part are is = grind (arith, flat_take, each_drop, flat_drop)

  pub middle_elements : (start end : ℕ) (xs part : List R) → Are xs → Are part
      → part ≡ take (end - start) (drop start xs)
      → elements size (length (flat_map bytes part) / size) (flat_map bytes part)
      ≡ take (end - start) (drop start (elements size (length (flat_map bytes xs) / size) (flat_map bytes xs)))
  middle_elements start end xs part are part_are is = grind (arith, all_elements, drop-map, take-map)

  -- those that begin at an offset
  pub read_bytes : (n offset : ℕ) (xs part : List R) (file all left : List ℕ) → Are xs → n ≤ length xs
      → flat_map bytes xs ++ left ≡ all → all ≡ take (length file - offset) (drop offset file)
      → part ≡ take (n - 0) xs → flat_map bytes part ≡ take (n * size) (drop offset file)
  read_bytes n offset xs part file all left are within is from part_is = grind (arith, common_steps, part_bytes)

  pub read_elements : (n offset : ℕ) (part : List R) (file : List ℕ)
      → flat_map bytes part ≡ take (n * size) (drop offset file) → (i : ℕ) → i < n
      → element size (flat_map bytes part) i ≡ take size (drop (offset + i * size) file)
  read_elements n offset part file is i within = rw is (element_of size n i offset file within)

pub ruleset len_rules = (all_long, counted)

pub ruleset element_rules = (counted, element_is, value_is)

pub ruleset part_rules = (all_long, counted, are_take, part_many, read_bytes, read_elements)

pub ruleset slice_rules = (counted, are_take, are_drop, middle_bytes, middle_elements)

pub ruleset iter_rules = (length-elements, all_elements)
