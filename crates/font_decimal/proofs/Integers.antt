-- Products of integers, which std lacks: with an opposite, with the next number, in order, and by two factors.
use Rattle.std.proofs.Common.{◌≡◌, ℕ, suc, ◌*◌, ℤ, pos, negsuc, arith, neg_ℤ, ◌+ℤ◌, ◌*ℤ◌, ◌≤ℤ◌, mul-le-mul_right}
use Rattle.std.proofs.{lemmas.Bool.Decides.nat_tests, Math.IntN.+ℤ_one, Math.IntN.suc_ℤ-*ℤ, lemmas.Int.ints}

pub neg-times : (q : ℤ) (d : ℕ) → neg_ℤ q *ℤ pos d ≡ neg_ℤ (q *ℤ pos d)
neg-times q d = grind (arith, nat_tests)

pub times-next : (q : ℤ) (d : ℕ) → (q +ℤ pos 1) *ℤ pos d ≡ q *ℤ pos d +ℤ pos d
times-next q d = rw +ℤ_one (suc_ℤ-*ℤ q (pos d))

pub times_monotone : (a b : ℤ) (d : ℕ) → a ≤ℤ b → (a *ℤ pos d) ≤ℤ (b *ℤ pos d)
times_monotone a b d h = grind (arith, ints, mul-le-mul_right)

pub swap_factors : (n : ℤ) (t k : ℕ) → n *ℤ pos t *ℤ pos k ≡ n *ℤ pos k *ℤ pos t
swap_factors (pos n) t k = omega (arith, ints)
swap_factors (negsuc n) t k = rw (neg-times (pos (suc n * t)) k, neg-times (pos (suc n * k)) t) (omega (arith, ints))
