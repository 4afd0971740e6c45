-- The integers modulo n form a ring: what an element type that wraps has to prove.
use Rattle.std.proofs.Common.{◌≡◌, ◌∙◌, sym, ap, ℕ, ◌+◌, ◌*◌, ◌%◌, ◌<◌, arith}
use Rattle.std.proofs.Math.Nat.{mod-eq_of_lt, mod-add-mod, add-mod-mod, mul_assoc, mul-add, add-mul}
use Rattle.std.proofs.lemmas.Nat.{mul-mod_first, mul-mod_second}
use mathlib.Core.HLevel.{is_prop→PathP}
use denote.Struct.Props.{props}
use Rattle.font_geom.specs.Ring.{RingLaws}

-- values that consist of a number below n are the same if their numbers are
pub same_made : {T : Type 0} {n : ℕ} (make : (k : ℕ) → k < n → T) {j k : ℕ} (p : j < n) (q : k < n) → j ≡ k
    → make j p ≡ make k q
same_made {n = n} make p q same =
    let prop : (k : ℕ) → IsProp (k < n) = λ k. hlevel props in
    λ i. make (same i) (is_prop→PathP (λ j. same j < n) (λ j. prop (same j)) p q i)

-- sums and products of values are those of their numbers, modulo n
pub record IsModular {T : Type 0} (n : ℕ) (number : T → ℕ) (zero one : T) (plus times : T → T → T) : Type 0 where
  pub below : (x : T) → number x < n
  pub same : (x y : T) → number x ≡ number y → x ≡ y
  pub number-zero : number zero ≡ 0
  pub number-one : number one ≡ 1
  pub number-plus : (x y : T) → number (plus x y) ≡ (number x + number y) % n
  pub number-times : (x y : T) → number (times x y) ≡ (number x * number y) % n

module _ {T : Type 0} {n : ℕ} {number : T → ℕ} {zero one : T} {plus times : T → T → T}
    (it : IsModular n number zero one plus times) where
  -- a sum of sums, and a product of products
  plus_sum : (x y z : T) → number (plus (plus x y) z) ≡ (number x + number y + number z) % n
  plus_sum x y z = grind (arith, mod-add-mod)

  sum_plus : (x y z : T) → number (plus x (plus y z)) ≡ (number x + (number y + number z)) % n
  sum_plus x y z = grind (arith, add-mod-mod (number x) (number y + number z) n)

  times_product : (x y z : T) → number (times (times x y) z) ≡ (number x * number y * number z) % n
  times_product x y z = grind (arith, mul-mod_first)

  product_times : (x y z : T) → number (times x (times y z)) ≡ (number x * (number y * number z)) % n
  product_times x y z = grind (arith, mul-mod_second)

  times_plus : (x y z : T) → number (times x (plus y z)) ≡ (number x * (number y + number z)) % n
  times_plus x y z = grind (arith, mul-mod_second)

  plus_times : (x y z : T) → number (times (plus x y) z) ≡ ((number x + number y) * number z) % n
  plus_times x y z = grind (arith, mul-mod_first)

  both_products : (j k a b : T) → number (plus (times j k) (times a b))
      ≡ (number j * number k + number a * number b) % n
  both_products j k a b =
      it.number-plus (times j k) (times a b)
      ∙ ap (λ m. (m + number (times a b)) % n) (it.number-times j k) ∙ mod-add-mod (number j * number k) n
      (number (times a b))
      ∙ ap (λ m. (number j * number k + m) % n) (it.number-times a b) ∙ add-mod-mod (number j * number k)
      (number a * number b) n

  -- a number below n is its own remainder
  kept : (x : T) (k : ℕ) → k ≡ number x → k % n ≡ number x
  kept x k is = let below = it.below x in mod-eq_of_lt (omega arith) ∙ is

  pub modular_ring : RingLaws zero one plus times
  modular_ring = record {
    sums_associate = λ x y z. it.same _ _ (plus_sum x y z ∙ ap (λ k. k % n) (omega arith) ∙ sym (sum_plus x y z));
    sums_commute = λ x y. it.same _ _ (it.number-plus x y ∙ ap (λ k. k % n) (omega arith) ∙ sym (it.number-plus y x));
    plus_zero = λ x. it.same _ _ (it.number-plus x zero ∙ kept x _ (omega (arith, it.number-zero)));
    products_associate = λ x y z. it.same _ _
        (times_product x y z ∙ ap (λ k. k % n) (mul_assoc (number x) (number y) (number z))
        ∙ sym (product_times x y z));
    one_times = λ x. it.same _ _
        (it.number-times one x ∙ ap (λ k. (k * number x) % n) it.number-one ∙ kept x _ (omega arith));
    times_one = λ x. it.same _ _
        (it.number-times x one ∙ ap (λ k. (number x * k) % n) it.number-one ∙ kept x _ (omega arith));
    times_sum = λ x y z. it.same _ _
        (times_plus x y z ∙ ap (λ k. k % n) (mul-add (number x) (number y) (number z)) ∙ sym (both_products x y x z));
    sum_times = λ x y z. it.same _ _
        (plus_times x y z ∙ ap (λ k. k % n) (add-mul (number x) (number y) (number z)) ∙ sym (both_products x z y z));
    zero_times = λ x. it.same _ _
        (it.number-times zero x ∙ ap (λ k. (k * number x) % n) it.number-zero
        ∙ kept zero _ (omega (arith, it.number-zero)));
    times_zero = λ x. it.same _ _
        (it.number-times x zero ∙ ap (λ k. (number x * k) % n) it.number-zero
        ∙ kept zero _ (omega (arith, it.number-zero)));
  }
