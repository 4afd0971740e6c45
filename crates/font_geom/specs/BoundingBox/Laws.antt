-- The laws of a partial order that is given by a test `le`: what an element type of a box has to prove.
use Rattle.std.proofs.Common.{◌≡◌, ℕ, nat_le, arith, Bool, true, false, ◌&&◌, Option, Some, None}
use Rattle.std.specs.Cmp.{IsPartialEquivalence, IsPartialOrder}
use Rattle.std.specs.declared.cmp.Ordering.TheVariants.{Less, Equal, Greater}
use Rattle.std.specs.{Bool.Decides, Option.option_map, Ordering.ordering_reverse, declared.cmp.Ordering.Ordering}

-- the order of two values, from the tests both ways
abbrev pub answer_of : Bool → Bool → Option Ordering
answer_of true true = Some Equal
answer_of true false = Some Less
answer_of false true = Some Greater
answer_of false false = None

answers_turned : (s t : Bool) → answer_of s t ≡ option_map ordering_reverse (answer_of t s)
answers_turned v0 v1 = grind arith

answers_equal : (s t : Bool) → Decides (s && t) (answer_of s t ≡ Some Equal)
answers_equal v0 v1 = grind arith

-- the order `Less`
is_less : (s t : Bool) → answer_of s t ≡ Some Less → (s ≡ true) × (t ≡ false)
is_less v0 v1 e = grind arith

not_true : (t : Bool) → (t ≡ true → ⊥) → t ≡ false
not_true v0 never = grind arith

swapped : (s t : Bool) → (s && t) ≡ (t && s)
swapped v0 v1 = grind arith

-- pairs of numbers, ordered coordinate by coordinate
pub coordinates_chain : (a b c d e f : ℕ) → (nat_le a b && nat_le d e) ≡ true → (nat_le b c && nat_le e f) ≡ true
    → (nat_le a c && nat_le d f) ≡ true
coordinates_chain a b c d e f p q = grind arith

module _ {K : Type 0} (le : K → K → Bool) where
  -- the results of `==` and `partial_cmp`
  abbrev pub is_tied : K → K → Bool
  is_tied x y = le x y && le y x

  abbrev pub order_of : K → K → Option Ordering
  order_of x y = answer_of (le x y) (le y x)

  module _ (chains : (x y z : K) → le x y ≡ true → le y z ≡ true → le x z ≡ true) where
    pub equality_laws : IsPartialEquivalence is_tied
    equality_laws = grind (arith, swapped)

    less_chains : (x y z : K) → order_of x y ≡ Some Less → order_of y z ≡ Some Less → order_of x z ≡ Some Less
    less_chains x y z p q = grind (arith, is_less, not_true)

    ties_answer : (x y z : K) → is_tied x y ≡ true → order_of x z ≡ order_of y z
    ties_answer x y z p = grind arith

    pub order_laws : IsPartialOrder is_tied order_of
    order_laws = grind (arith, answers_turned, less_chains, answers_equal, ties_answer)
