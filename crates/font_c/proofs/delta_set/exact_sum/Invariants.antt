use Rattle.std.proofs.Common.{◌≡◌, ◌≤◌, ◌+◌, ◌*◌, ◌^◌, unsigned_abs}
use Rattle.font_c.specs.DeltaSets.{first_products}
use Rattle.font_c.proofs.delta_set.exact_sum.Given as goal

-- each product has a magnitude of at most 2^46
abbrev pub invariant-loop-i : goal.invariant-loop-i
invariant-loop-i l =
    (l.sum ≡ first_products 2 1 l.words l.set l.scalars l.i) × (unsigned_abs l.sum ≤ l.i * 2 ^ 46)

abbrev pub invariant-loop-i-2 : goal.invariant-loop-i-2
invariant-loop-i-2 l =
    (l.sum ≡ first_products 2 1 l.words l.set l.scalars (l.words + l.i))
    × (unsigned_abs l.sum ≤ (l.words + l.i) * 2 ^ 46)
