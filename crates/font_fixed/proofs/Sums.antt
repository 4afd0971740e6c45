-- For `omega`, to which products of two variables are unknowns here: sums of integers, and products with literals.
use Rattle.std.proofs.Common.{◌≡◌, ℕ, ◌*◌, ℤ, pos, ◌*ℤ◌, arith}
use borrow.Author.Differences.{up, down, same_in, same_out, below_in, at_most_in, lt_out, le_out, sum_is_lem, neg_is}
use borrow.Author.Differences.{abs_is, product_is}

pub times_literal : (z : ℤ) (d : ℕ) → (up (z *ℤ pos d) ≡ up z * d) × (down (z *ℤ pos d) ≡ down z * d)
times_literal z d = omega (arith, product_is z (pos d))

pub literal_times : (d : ℕ) (z : ℤ) → (up (pos d *ℤ z) ≡ d * up z) × (down (pos d *ℤ z) ≡ d * down z)
literal_times d z = omega (arith, product_is (pos d) z)

pub ruleset sums = (
  same_in,
  same_out,
  below_in,
  at_most_in,
  lt_out,
  le_out,
  sum_is_lem,
  neg_is,
  abs_is,
  times_literal,
  literal_times,
)
