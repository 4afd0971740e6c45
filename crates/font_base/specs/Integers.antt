-- Integers: multiplication distributes over addition and is associative. (std has that it commutes, `*ℤ_comm`.)
use Rattle.std.proofs.Common.{◌≡◌, ◌∙◌, sym, ap, ℕ, ◌+◌, ◌*◌, ℤ, ◌+ℤ◌, ◌*ℤ◌, arith}
use Rattle.std.proofs.Math.Nat.{add-mul}
use borrow.Author.Differences.{up, down, same_in, sum_is_lem, product_is}

-- (x + y) * z, if s and t are the parts of x + y
parts_times : (s t a b c d m n : ℕ) → s + b + d ≡ t + a + c
    → (s * m + t * n) + ((a * n + b * m) + (c * n + d * m)) ≡ ((a * m + b * n) + (c * m + d * n)) + (s * n + t * m)
parts_times s t a b c d m n same =
    grind (arith, add-mul (s + b) d m, add-mul (t + a) c m, add-mul (s + b) d n, add-mul (t + a) c n)

-- (x + y) * z is x * z + y * z
pub sum-times : (x y z : ℤ) → ((x +ℤ y) *ℤ z) ≡ ((x *ℤ z) +ℤ (y *ℤ z))
sum-times x y z =
    let parts = parts_times (up (x +ℤ y)) (down (x +ℤ y)) (up x) (down x) (up y) (down y) (up z) (down z)
    (sum_is_lem x y) in
    same_in ((x +ℤ y) *ℤ z) ((x *ℤ z) +ℤ (y *ℤ z))
    (omega (arith, parts, product_is (x +ℤ y) z, product_is x z, product_is y z, sum_is_lem (x *ℤ z) (y *ℤ z)))

-- of the parts a - b, c - d and m - n of three numbers
parts_product : (a b c d m n : ℕ) → (a * c + b * d) * m + (a * d + b * c) * n ≡ a * (c * m + d * n) + b
    * (c * n + d * m)
parts_product a b c d m n = grind arith

-- (x * y) * z is x * (y * z)
pub product-times : (x y z : ℤ) → ((x *ℤ y) *ℤ z) ≡ (x *ℤ (y *ℤ z))
product-times x y z =
    let first = product_is x y in
    let second = product_is y z in
    let positive : up ((x *ℤ y) *ℤ z) ≡ up (x *ℤ (y *ℤ z)) =
    (product_is (x *ℤ y) z).0 ∙ ap (λ k. k * up z + down (x *ℤ y) * down z) first.0
    ∙ ap (λ k. (up x * up y + down x * down y) * up z + k * down z) first.1
    ∙ parts_product (up x) (down x) (up y) (down y) (up z) (down z)
    ∙ sym ((product_is x (y *ℤ z)).0 ∙ ap (λ k. up x * k + down x * down (y *ℤ z)) second.0
    ∙ ap (λ k. up x * (up y * up z + down y * down z) + down x * k) second.1) in
    let negative : down ((x *ℤ y) *ℤ z) ≡ down (x *ℤ (y *ℤ z)) =
    (product_is (x *ℤ y) z).1 ∙ ap (λ k. k * down z + down (x *ℤ y) * up z) first.0
    ∙ ap (λ k. (up x * up y + down x * down y) * down z + k * up z) first.1
    ∙ parts_product (up x) (down x) (up y) (down y) (down z) (up z)
    ∙ sym ((product_is x (y *ℤ z)).1 ∙ ap (λ k. up x * k + down x * up (y *ℤ z)) second.1
    ∙ ap (λ k. up x * (up y * down z + down y * up z) + down x * k) second.0) in
    same_in ((x *ℤ y) *ℤ z) (x *ℤ (y *ℤ z)) (omega (arith, positive, negative))
