-- Where the segment maps of a table `avar` are: each is after the map before it.
use Rattle.std.proofs.Common.{◌≡◌, refl, ℕ, zero, suc, ◌+◌, ◌-◌, ◌*◌, ◌<◌, ◌≤◌, add-one, List, arith}
use Rattle.variations.specs.Evaluator.{map_offset, position_map_count}

pub first_map : (avar : List ℕ) → map_offset avar 0 ≡ 8
unfolding map_offset
first_map avar = refl

pub next_map : (avar : List ℕ) (n : ℕ)
    → map_offset avar (n + 1) ≡ (map_offset avar n + 2 + 4 * position_map_count avar (map_offset avar n))
unfolding map_offset
next_map avar n = rw (add-one n) refl

after_by : (avar : List ℕ) (n k : ℕ) → map_offset avar n + 2 ≤ map_offset avar (n + suc k)
after_by avar n zero = omega (arith, next_map avar n)
after_by avar n (suc k) =
    let one_more : n + suc (suc k) ≡ n + suc k + 1 = omega arith in
    rw one_more (omega (arith, next_map avar (n + suc k), after_by avar n k))

pub map_after : (avar : List ℕ) (n m : ℕ) → n < m → map_offset avar n + 2 ≤ map_offset avar m
map_after avar n m less =
    let is : n + suc (m - suc n) ≡ m = omega (arith, less) in
    rw is at (after_by avar n (m - suc n))

pub map_from : (avar : List ℕ) (n : ℕ) → 8 ≤ map_offset avar n
map_from avar zero = omega (arith, first_map avar)
map_from avar (suc n) = omega (arith, first_map avar, map_after avar 0 (suc n) (omega arith))

pub ruleset map_rules = (first_map, next_map, map_after, map_from)
