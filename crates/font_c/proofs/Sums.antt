-- A sum of products over two lists of one length, item by item.
use Rattle.std.proofs.Common.{◌≡◌, ℕ, ◌+◌, ◌<◌, ◌≤◌, List, length, take, get_or, ℤ, pos, ◌+ℤ◌, ◌*ℤ◌, arith, ◌*◌, ◌^◌}
use Rattle.std.proofs.Common.{unsigned_abs, fold}
use Rattle.std.proofs.lemmas.Slice.Zip.{length-zip, get_or-zip}
use Rattle.std.proofs.{lemmas.List.Sums.fold_more, lemmas.Grind.common_steps}
use Rattle.std.specs.List.{zip}
use Rattle.font_c.specs.Sums.{sum_of_products}

-- a sum and one product more
abbrev plus_product : ℤ → ℤ × ℤ → ℤ
plus_product sum term = sum +ℤ (term.0 *ℤ term.1)

-- the sum of the first n products
abbrev pub sum_of_first : ℕ → List ℤ → List ℤ → ℤ
sum_of_first n xs ys = fold plus_product (pos 0) (take n (zip xs ys))

pub sum_of_all : (xs ys : List ℤ) (n : ℕ) → length xs ≡ length ys → length xs ≤ n
    → sum_of_first n xs ys ≡ sum_of_products xs ys
sum_of_all xs ys n same all = grind (arith, common_steps, length-zip)

-- the sum with one product more fits in 128 bits
pub sum_grows : (xs ys : List ℤ) (n : ℕ) (sum term next : ℤ) → length xs ≡ length ys → n < length xs → n < 2 ^ 64
    → (sum ≡ sum_of_first n xs ys) × (unsigned_abs sum ≤ n * 2 ^ 62)
    → term ≡ (get_or xs n (pos 0) *ℤ get_or ys n (pos 0))
    → (unsigned_abs sum ≤ 2 ^ 126 → (next ≡ (sum +ℤ term)) × (unsigned_abs next ≤ unsigned_abs sum + 2 ^ 62))
    → (next ≡ sum_of_first (n + 1) xs ys) × (unsigned_abs next ≤ (n + 1) * 2 ^ 62)
sum_grows xs ys n sum term next same within few so_far is small = grind (
  arith,
  get_or-zip xs ys n (pos 0, pos 0) within (omega arith),
  fold_more plus_product (pos 0) (zip xs ys) n (pos 0, pos 0) (omega (arith, length-zip xs ys)),
)
