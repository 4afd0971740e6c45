-- Good bytes, index by index, and the first error of others.
use Rattle.std.proofs.Common.{◌≡◌, ◌≢◌, sym, ap, ℕ, ◌+◌, ◌-◌, ◌<◌, ◌≤◌, List, ◌++◌, length, take, replicate, get_or}
use Rattle.std.proofs.Common.{arith, [], ◌∷◌, min, rules, take_all, append_assoc}
use Rattle.std.proofs.lemmas.List.{places, replicate-append-replicate}
use Rattle.std.proofs.{lemmas.Bool.Decides.nat_tests, lemmas.Grind.elements, lemmas.List.Elements.All-from_get_or}
use Rattle.font_base.proofs.StdBytes.{items_are}
use Rattle.font_tags.specs.Tag.{IsVisible, IsGood, IsFault, four_spaces, filled}

-- the first m bytes are good, and their run of visible bytes has length n
pub record GoodTo (bytes : List ℕ) (n m : ℕ) : Type 0 where
  pub nonempty : 0 < n
  pub run_within : n ≤ m
  pub within : m ≤ length bytes
  pub visible : (i : ℕ) → i < n → IsVisible (get_or bytes i 0)
  pub spaces : (i : ℕ) → n ≤ i → i < m → get_or bytes i 0 ≡ 0x20

good_to : (bytes : List ℕ) (n m : ℕ) → GoodTo bytes n m → IsGood (take m bytes)
good_to bytes n m to = record {
  run = take n bytes;
  spaces = m - n;
  nonempty = search (rules, places, to);
  visible = All-from_get_or IsVisible (take n bytes) 0 (λ i below. search (rules, places, to.visible));
  whole = grind (arith, elements, to);
}

pub to_good : (bytes : List ℕ) (good : IsGood bytes) → GoodTo bytes (length good.run) (length bytes)
to_good bytes good = grind (arith, nat_tests, places)

shorter : (bytes : List ℕ) (n m k : ℕ) → GoodTo bytes n m → 0 < k → k ≤ m → GoodTo bytes (min n k) k
shorter bytes n m k to some room = omega (arith, to)

-- good bytes have no error
pub fault_not_good : (bytes : List ℕ) (index : ℕ) → IsFault bytes index → IsGood bytes → ⊥
fault_not_good bytes index fault good = let to = to_good bytes good in
    fault.fails (good_to bytes _ _ (shorter bytes _ _ (index + 1) to (omega arith) (omega (arith, fault.within))))

-- ---- a run of visible bytes that ends at n, and spaces after it that end at m

run_to : (bytes : List ℕ) (n m : ℕ) → n ≢ 0 → ((i : ℕ) → i < n → IsVisible (get_or bytes i 0)) → n ≤ m
    → m ≤ length bytes → ((i : ℕ) → n ≤ i → i < m → get_or bytes i 0 ≡ 0x20) → GoodTo bytes n m
run_to bytes n m some visible from room spaces = grind arith

pub run_good : (bytes : List ℕ) (n m : ℕ) → n ≢ 0 → ((i : ℕ) → i < n → IsVisible (get_or bytes i 0)) → n ≤ m
    → m ≤ length bytes → ((i : ℕ) → n ≤ i → i < m → get_or bytes i 0 ≡ 0x20) → length bytes ≤ m → IsGood bytes
run_good bytes n m some visible from room spaces whole =
    rw (take_all m bytes whole) at (good_to bytes n m (run_to bytes n m some visible from room spaces))

pub run_fault : (bytes : List ℕ) (n m : ℕ) → n ≢ 0 → ((i : ℕ) → i < n → IsVisible (get_or bytes i 0))
    → (n < length bytes → ¬ IsVisible (get_or bytes n 0)) → n ≤ m → m < length bytes
    → ((i : ℕ) → n ≤ i → i < m → get_or bytes i 0 ≡ 0x20) → get_or bytes m 0 ≢ 0x20 → IsFault bytes m
run_fault bytes n m some visible end from below spaces other =
    let to = run_to bytes n m some visible from (omega arith) spaces in
    record {
      within = below;
      fails = λ good. let whole = to_good _ good in grind (arith, elements, whole, to, end (omega arith), other);
      least = λ i before. good_to bytes _ _ (shorter bytes _ _ (i + 1) to (omega arith) (omega arith));
    }

-- ---- spaces that fill

pub spaces_not_good : (bytes : List ℕ) → bytes ≡ four_spaces → IsGood bytes → ⊥
spaces_not_good bytes same good = grind (arith, to_good bytes good)

-- spaces fill good bytes
pub filled_good : (bytes : List ℕ) (k : ℕ) → IsGood bytes → IsGood (bytes ++ replicate k 0x20)
filled_good bytes k good = grind (arith, nat_tests, append_assoc, replicate-append-replicate)

pub filled_valid : (bytes tag : List ℕ) → tag ≡ filled bytes → IsGood bytes → IsGood tag
filled_valid bytes tag is good = rw is (filled_good bytes (4 - length bytes) good)

-- bytes filled one by one
pub filled_one : (xs : List ℕ) → length xs ≡ 1 → get_or xs 0 0 ∷ 0x20 ∷ 0x20 ∷ 0x20 ∷ [] ≡ filled xs
filled_one xs is = sym (ap filled (items_are 1 0 xs is))

pub filled_two : (xs : List ℕ) → length xs ≡ 2 → get_or xs 0 0 ∷ get_or xs 1 0 ∷ 0x20 ∷ 0x20 ∷ [] ≡ filled xs
filled_two xs is = sym (ap filled (items_are 2 0 xs is))

pub filled_three : (xs : List ℕ) → length xs ≡ 3 → get_or xs 0 0 ∷ get_or xs 1 0 ∷ get_or xs 2 0 ∷ 0x20 ∷ [] ≡ filled xs
filled_three xs is = sym (ap filled (items_are 3 0 xs is))

pub filled_four : (xs : List ℕ) → length xs ≡ 4
    → get_or xs 0 0 ∷ get_or xs 1 0 ∷ get_or xs 2 0 ∷ get_or xs 3 0 ∷ [] ≡ filled xs
filled_four xs is = sym (ap filled (items_are 4 0 xs is))

-- the lemmas that validation cites
pub ruleset tag_judgements = (fault_not_good, spaces_not_good, filled_valid)
