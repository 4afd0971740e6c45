-- The predefined name ids, one by one.
use Rattle.std.proofs.Common.{◌≡◌, ◌≢◌, ◌∙◌, sym, ap, refl, ℕ, ◌+◌, ◌≤◌, ◌⊎◌, inl, inr, Bool, true, ◌==◌, ◌||◌, nat_le}
use Rattle.std.proofs.Common.{nat_eq, List, ◌∷◌, filter, length, ◌-◌, ◌<◌, arith}
use Rattle.std.proofs.lemmas.Bool.{agree_below_at, or_cases, eqb-true}
use Rattle.std.proofs.{lemmas.Grind.common_steps, lemmas.Bool.Decides.nat_tests}
use Rattle.std.specs.Cmp.Lexicographic.{pointwise, bytes_decides}
use Rattle.font_ids.specs.NameId.{predefined_numbers}

-- the predefined numbers that are not below n
abbrev pub left_from : ℕ → List ℕ
left_from n = filter (λ number. nat_le n number) predefined_numbers

abbrev is_step : ℕ → Bool
is_step n = pointwise nat_eq (left_from n) (n ∷ left_from (n + 1)) || (n == 15)

-- each of them comes before those above it
pub left_from-step : (n : ℕ) → n ≤ 25 → n ≢ 15 → left_from n ≡ n ∷ left_from (n + 1)
left_from-step n small other = elim (or_cases _ _ (agree_below_at is_step (λ _. true) 26 n refl (omega arith))) [
  | inl same ↦ (bytes_decides (left_from n) (n ∷ left_from (n + 1))).0 same
  | inr gap ↦ absurd (other (eqb-true n 15 gap))
]

-- the next number: the one that is reached, or the one after the gap
pub left_from-next : (n k : ℕ) → ((n ≡ 15) × (k ≡ 16)) ⊎ ((n ≢ 15) × (k ≡ n)) → k ≤ 25
    → left_from n ≡ k ∷ left_from (k + 1)
left_from-next n k (inl gap) small = ap left_from gap.0 ∙ left_from-step 16 (omega arith) (λ same. omega (arith, same))
    ∙ sym (ap (λ m. m ∷ left_from (m + 1)) gap.1)
left_from-next n k (inr plain) small = left_from-step n (omega (arith, plain.1)) plain.0 ∙ sym
    (ap (λ m. m ∷ left_from (m + 1)) plain.1)

-- the number of those left: before the gap, after it, and after the last
pub left_from-low : (n : ℕ) → n ≤ 15 → length (left_from n) ≡ 25 - n
left_from-low n low =
    eqb-true _ _ (agree_below_at (λ m. length (left_from m) == 25 - m) (λ _. true) 16 n refl (omega arith))

pub left_from-high : (n : ℕ) → 15 < n → n ≤ 25 → length (left_from n) ≡ 26 - n
left_from-high n high small = grind (arith, nat_tests)

pub left_from-none : (n : ℕ) → 25 < n → length (left_from n) ≡ 0
left_from-none n large = grind (arith, common_steps)
