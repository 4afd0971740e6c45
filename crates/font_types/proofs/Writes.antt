-- The bytes of a table outside of a field that is written: those of other fields are as they were.
use Rattle.std.proofs.Common.{◌≡◌, ◌∙◌, sym, ap, ℕ, ◌+◌, ◌-◌, ◌≤◌, List, take, drop, arith, refl}
use Rattle.std.proofs.{lemmas.List.take-take, lemmas.List.drop-drop, lemmas.List.drop-take}
use Rattle.std.proofs.lemmas.Slice.{drop-put_mid}

dropped_on : (end m : ℕ) (xs : List ℕ) → end ≤ m → drop (m - end) (drop end xs) ≡ drop m xs
dropped_on end m xs within = grind (arith, drop-drop)

-- before the field at `at`
module _ (at : ℕ) (old new kept : List ℕ) where
  pub start_kept : (m : ℕ) → take at new ≡ take at old → m ≤ at → take m old ≡ kept → take m new ≡ kept
  start_kept m same within is =
      sym (take-take m at new within) ∙ (ap (take m) same ∙ (take-take m at old within ∙ is))

  pub field_kept_before : (k n : ℕ) → take at new ≡ take at old → k + n ≤ at → take n (drop k old) ≡ kept
      → take n (drop k new) ≡ kept
  field_kept_before k n same within is =
      let start : take (k + n) new ≡ take (k + n) old = sym (take-take (k + n) at new within)
      ∙ (ap (take (k + n)) same ∙ take-take (k + n) at old within) in
      sym (drop-take k n new) ∙ (ap (drop k) start ∙ (drop-take k n old ∙ is))

-- after the field that ends at `end`
module _ (end : ℕ) (old new kept : List ℕ) where
  pub rest_kept : (m : ℕ) → drop end new ≡ drop end old → end ≤ m → drop m old ≡ kept → drop m new ≡ kept
  rest_kept m same within is = grind (arith, dropped_on end m new within, dropped_on end m old within)

  pub field_kept_after : (k n : ℕ) → drop end new ≡ drop end old → end ≤ k → take n (drop k old) ≡ kept
      → take n (drop k new) ≡ kept
  field_kept_after k n same within is = grind (arith, dropped_on end k new within, dropped_on end k old within)

-- for `grind`, whose facts have both sides
pub rest_same : (end m : ℕ) (old new : List ℕ) → drop end new ≡ drop end old → end ≤ m → drop m new ≡ drop m old
rest_same end m old new same within = rest_kept end old new (drop m old) m same within refl

-- std's lemma: a part of any length that is written leaves what stands behind it
pub ruleset write_calls = (start_kept, field_kept_before, rest_kept, field_kept_after, rest_same, drop-put_mid)
