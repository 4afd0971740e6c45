-- Laws of sums: a joined list has the sum of both, and the order of the terms does not matter. Numbers that are scaled
-- one by one add up to their scaled sum, but for half a unit each.
use Rattle.std.proofs.Common.{◌≡◌, ◌∙◌, ℕ, ◌+◌, List, [], ◌∷◌, ◌++◌, fold, sum_by, ℤ, pos, ◌+ℤ◌, ◌-ℤ◌, arith, sym, ap}
use Rattle.std.proofs.Common.{◌*◌, ◌<◌, ◌≤◌, length, ◌*ℤ◌, unsigned_abs}
use Rattle.std.proofs.Math.Nat.{add-mul, mul_assoc, suc-mul, le_of_mul-le-mul_right}
use Rattle.std.proofs.{lemmas.Int.ints, lemmas.List.Sorted.sum_by-IsPermutation, lemmas.Int.unsigned_abs-mul}
use Rattle.std.proofs.{lemmas.List.Sums.fold-append, lemmas.List.Sums.sum_by-cons}
use Rattle.std.specs.List.Sorted.{IsPermutation}
use borrow.Author.Differences.{up, down}
use Rattle.font_base.specs.Integers.{sum-times}
use Rattle.font_decimal.specs.Near.{near}
use Rattle.font_decimal.proofs.Near.{near_is}
use Rattle.font_types.specs.Delta.{total}

-- a sum that begins with a number, by the magnitudes of its positive and of its negative terms
total_from : {T : Type 0} (number_of : T → ℤ) (start : ℤ) (xs : List T)
    → fold (λ sum x. sum +ℤ number_of x) start xs
    ≡ ((start +ℤ pos (sum_by (λ x. up (number_of x)) xs)) -ℤ pos (sum_by (λ x. down (number_of x)) xs))
total_from number_of start [] = omega (arith, ints)
total_from number_of start (x ∷ xs) = total_from number_of (start +ℤ number_of x) xs
    ∙ next (number_of x) _ _ _ _ (sum_by-cons (λ y. up (number_of y)) x xs) (sum_by-cons (λ y. down (number_of y)) x xs)
  where
    next : (n : ℤ) (a b c d : ℕ) → c ≡ up n + a → d ≡ down n + b
        → (((start +ℤ n) +ℤ pos a) -ℤ pos b) ≡ ((start +ℤ pos c) -ℤ pos d)
    next n a b c d more less = omega (arith, ints, more, less)

-- the sum of a joined list is the sum of both sums
pub total-append : {T : Type 0} (number_of : T → ℤ) (xs ys : List T)
    → total number_of (xs ++ ys) ≡ (total number_of xs +ℤ total number_of ys)
total-append number_of xs ys = grind (
  arith,
  ints,
  fold-append (λ sum x. sum +ℤ number_of x) (pos 0) xs ys,
  total_from number_of (total number_of xs) ys,
  total_from number_of (pos 0) ys,
)

-- the same terms have the same sum in any order
pub total-permuted : {T : Type 0} (number_of : T → ℤ) (xs ys : List T) → IsPermutation xs ys
    → total number_of ys ≡ total number_of xs
total-permuted number_of xs ys same = grind (
  arith,
  ints,
  total_from number_of (pos 0) xs,
  total_from number_of (pos 0) ys,
  sum_by-IsPermutation (λ x. up (number_of x)) xs ys same,
  sum_by-IsPermutation (λ x. down (number_of x)) xs ys same,
)

-- the sum of a list with one more element
total-cons : {T : Type 0} (number_of : T → ℤ) (x : T) (xs : List T)
    → total number_of (x ∷ xs) ≡ (number_of x +ℤ total number_of xs)
total-cons number_of x xs =
    omega (arith, ints, total_from number_of (pos 0 +ℤ number_of x) xs, total_from number_of (pos 0) xs)

-- each quotient that is rounded to the nearest integer is wrong by at most one half, and so n of them by n halves
nearest_total : {T : Type 0} (number_of : T → ℤ) (d : ℕ) (xs : List T) → 0 < d
    → 2 * unsigned_abs (total (λ x. near (number_of x) d) xs *ℤ pos d -ℤ total number_of xs) ≤ length xs * d
nearest_total number_of d [] some = grind (arith, ints)
nearest_total number_of d (x ∷ xs) some =
    let one = near_is (number_of x) d some in
    let rest = nearest_total number_of d xs some in
    let split = sum-times (near (number_of x) d) (total (λ y. near (number_of y) d) xs) (pos d) in
    let product = ap (λ q. q *ℤ pos d) (total-cons (λ y. near (number_of y) d) x xs) in
    let all = total-cons number_of x xs in
    omega (arith, ints, one.close, rest, split, product, all, suc-mul (length xs) d)

-- the sum of n rounded quotients is within (n + 1) / 2 of the rounded quotient of the sum
pub total-near : {T : Type 0} (number_of : T → ℤ) (d : ℕ) (xs : List T) → 0 < d
    → 2 * unsigned_abs (total (λ x. near (number_of x) d) xs -ℤ near (total number_of xs) d) ≤ length xs + 1
total-near number_of d xs some = within _ _ (total number_of xs) d (length xs) some (nearest_total number_of d xs some)
    (near_is (total number_of xs) d some).close
  where
    within : (q t n : ℤ) (d k : ℕ) → 0 < d → 2 * unsigned_abs (q *ℤ pos d -ℤ n) ≤ k * d
        → 2 * unsigned_abs (t *ℤ pos d -ℤ n) ≤ d → 2 * unsigned_abs (q -ℤ t) ≤ k + 1
    within q t n d k some first second =
        let back : ((q -ℤ t) +ℤ t) ≡ q = omega (arith, ints) in
        let spread = sum-times (q -ℤ t) t (pos d) in
        let same = ap (λ m. m *ℤ pos d) back in
        let size = unsigned_abs-mul (q -ℤ t) (pos d) in
        let doubled = mul_assoc 2 (unsigned_abs (q -ℤ t)) d in
        let more = add-mul k 1 d in
        let scaled : 2 * unsigned_abs (q -ℤ t) * d ≤ (k + 1) * d =
        omega (arith, ints, first, second, spread, same, size, doubled, more) in
        le_of_mul-le-mul_right scaled some

-- the sum of products with one factor
pub total-times : {T : Type 0} (number_of : T → ℤ) (a : ℤ) (xs : List T)
    → total (λ x. number_of x *ℤ a) xs ≡ (total number_of xs *ℤ a)
total-times number_of a [] = grind (arith, ints)
total-times number_of a (x ∷ xs) = total-cons (λ y. number_of y *ℤ a) x xs
    ∙ ap (λ s. (number_of x *ℤ a) +ℤ s) (total-times number_of a xs)
    ∙ sym (ap (λ s. s *ℤ a) (total-cons number_of x xs) ∙ sum-times (number_of x) (total number_of xs) a)
