-- Sums over an index: the empty sum, and one term more; and hexadecimal text.
use Rattle.std.proofs.Common.{◌≡◌, refl, ℕ, ◌+◌, ℤ, pos, ◌+ℤ◌, add-one, arith}
use Rattle.std.proofs.Math.IntN.{+ℤ_assoc}
use Rattle.font_base.specs.{Wrap.wrap, Wrap.Laws.wrap-add_left}
use Rattle.font_types.specs.Delta.{total_below}

pub none_below : (number_at : ℕ → ℤ) → total_below number_at 0 ≡ pos 0
unfolding total_below
none_below number_at = refl

pub one_more_below : (number_at : ℕ → ℤ) (n : ℕ)
    → total_below number_at (n + 1) ≡ (total_below number_at n +ℤ number_at n)
unfolding total_below
one_more_below number_at n = rw (add-one n) refl

-- the same if each sum wraps; the left side is a loop's next sum, which a goal shows
pub running_below_32 : (base : ℤ) (number_at : ℕ → ℤ) (n : ℕ)
    → wrap 32 (base +ℤ total_below number_at (n + 1))
    ≡ wrap 32 (wrap 32 (base +ℤ total_below number_at n) +ℤ number_at n)
running_below_32 base number_at n = grind (arith, one_more_below, +ℤ_assoc, wrap-add_left)

pub running_below_64 : (base : ℤ) (number_at : ℕ → ℤ) (n : ℕ)
    → wrap 64 (base +ℤ total_below number_at (n + 1))
    ≡ wrap 64 (wrap 64 (base +ℤ total_below number_at n) +ℤ number_at n)
running_below_64 base number_at n = grind (arith, one_more_below, +ℤ_assoc, wrap-add_left)

-- the same from 0
pub running_32 : (number_at : ℕ → ℤ) (n : ℕ)
    → wrap 32 (total_below number_at (n + 1)) ≡ wrap 32 (wrap 32 (total_below number_at n) +ℤ number_at n)
running_32 number_at n = grind (arith, one_more_below, wrap-add_left)

pub running_64 : (number_at : ℕ → ℤ) (n : ℕ)
    → wrap 64 (total_below number_at (n + 1)) ≡ wrap 64 (wrap 64 (total_below number_at n) +ℤ number_at n)
running_64 number_at n = grind (arith, one_more_below, wrap-add_left)

pub running_128 : (number_at : ℕ → ℤ) (n : ℕ)
    → wrap 128 (total_below number_at (n + 1)) ≡ wrap 128 (wrap 128 (total_below number_at n) +ℤ number_at n)
running_128 number_at n = grind (arith, one_more_below, wrap-add_left)

pub ruleset below_calls = (
  none_below,
  one_more_below,
  running_below_32,
  running_below_64,
  running_32,
  running_64,
  running_128,
)
