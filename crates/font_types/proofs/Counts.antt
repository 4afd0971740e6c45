-- How many elements of a list pass a test, as a loop counts them: no more than it has seen.
use Rattle.std.proofs.Common.{arith, ℕ, suc, ◌≤◌, Bool, true, false, cond, List, [], ◌∷◌, length, take, filter}
use Rattle.std.proofs.lemmas.List.{length-take}

one_more : {T : Type 0} (b : Bool) (x : T) (xs : List T) → length (cond b (x ∷ xs) xs) ≤ suc (length xs)
one_more true x xs = omega arith
one_more false x xs = omega arith

pub counted_at_most : {T : Type 0} (p : T → Bool) (xs : List T) → length (filter p xs) ≤ length xs
counted_at_most p [] = omega arith
counted_at_most p (x ∷ xs) = omega (arith, one_more (p x) x (filter p xs), counted_at_most p xs)

pub counted_so_far : {T : Type 0} (p : T → Bool) (n : ℕ) (xs : List T) → length (filter p (take n xs)) ≤ n
counted_so_far p n xs = grind (arith, counted_at_most p (take n xs), length-take n xs)

pub ruleset count_calls = (counted_at_most, counted_so_far)
