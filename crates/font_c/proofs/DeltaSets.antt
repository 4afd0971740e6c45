-- The sum over a delta set, product by product.
use Rattle.std.proofs.Common.{◌≡◌, ◌∙◌, ap, ◌+◌, ◌-◌, ◌*◌, ◌^◌, ◌<◌, ◌≤◌, ℕ, zero, List, [], ◌∷◌, ℤ, pos, ◌+ℤ◌, ◌*ℤ◌}
use Rattle.std.proofs.Common.{get_or, refl, suc, arith, unsigned_abs, length, take, drop}
use Rattle.std.proofs.lemmas.List.{drop-drop, drop-take, get_or-drop, get_or-take, take-take}
use Rattle.std.proofs.lemmas.Grind.{common_steps}
use Rattle.font_types.specs.Bytes.{signed_numeral}
use Rattle.font_c.specs.DeltaSets.{delta_at, first_products}

pub no_products : (wide narrow words : ℕ) (set : List ℕ) (scalars : List ℤ)
    → pos 0 ≡ first_products wide narrow words set scalars 0
unfolding first_products
no_products wide narrow words set scalars = refl

after : (wide narrow words : ℕ) (set : List ℕ) (scalars : List ℤ) (n : ℕ)
    → first_products wide narrow words set scalars (suc n)
    ≡ (first_products wide narrow words set scalars n
    +ℤ (get_or scalars n (pos 0) *ℤ delta_at wide narrow words set n))
unfolding first_products
after wide narrow words set scalars n = refl

pub next_product : (wide narrow words : ℕ) (set : List ℕ) (scalars : List ℤ) (n : ℕ)
    → first_products wide narrow words set scalars (n + 1)
    ≡ (first_products wide narrow words set scalars n
    +ℤ (get_or scalars n (pos 0) *ℤ delta_at wide narrow words set n))
next_product wide narrow words set scalars n = grind (arith, common_steps, after)

-- an accumulator of 128 bits holds a sum with one product more
pub sum_grows : (n : ℕ) (first product sum term next : ℤ) → n < 2 ^ 64
    → (sum ≡ first) × (unsigned_abs sum ≤ n * 2 ^ 62) → term ≡ product
    → (unsigned_abs sum ≤ 2 ^ 126 → (next ≡ (sum +ℤ term)) × (unsigned_abs next ≤ unsigned_abs sum + 2 ^ 62))
    → (next ≡ (first +ℤ product)) × (unsigned_abs next ≤ (n + 1) * 2 ^ 62)
sum_grows n first product sum term next few so_far is small = grind arith

-- ---- the scalars and the bytes at either end

pub one_byte : (set : List ℕ) (k : ℕ) → k < length set → (get_or set k 0 ∷ []) ≡ take 1 (drop k set)
one_byte [] k within = absurd (omega (arith, within))
one_byte (byte ∷ set) zero within = refl
one_byte (byte ∷ set) (suc k) within = one_byte set k (omega (arith, within))

-- m bytes from index n on, of a set and of its first k bytes
front_bytes : (m n k : ℕ) (set : List ℕ) → n + m ≤ k → take m (drop n (take k set)) ≡ take m (drop n set)
front_bytes m n k set within =
    let more : ℕ = k - n - m in
    let is : k ≡ n + (m + more) = omega (arith, within) in
    ap (λ j. take m (drop n (take j set))) is ∙ ap (take m) (drop-take n (m + more) set)
    ∙ take-take m (m + more) (drop n set) (omega arith)

pub wide_product : (m n k words i : ℕ) (set wide : List ℕ) (scalars front : List ℤ) (product : ℤ) → i < words
    → n + m ≤ k → front ≡ take words scalars → wide ≡ take k set
    → product ≡ (get_or front i (pos 0) *ℤ signed_numeral m (take m (drop n wide)))
    → product ≡ (get_or scalars i (pos 0) *ℤ signed_numeral m (take m (drop n set)))
wide_product m n k words i set wide scalars front product within fits one two is =
    is ∙ rw (one, two, get_or-take words scalars i (pos 0) within, front_bytes m n k set fits) refl

pub narrow_product : (m n k p words i : ℕ) (set narrow : List ℕ) (scalars back : List ℤ) (product : ℤ)
    → k + n ≡ p → back ≡ drop words scalars → narrow ≡ drop k set
    → product ≡ (get_or back i (pos 0) *ℤ signed_numeral m (take m (drop n narrow)))
    → product ≡ (get_or scalars (words + i) (pos 0) *ℤ signed_numeral m (take m (drop p set)))
narrow_product m n k p words i set narrow scalars back product place one two is = grind (arith, get_or-drop, drop-drop)
