-- What an advance is varied to is one value: a sum of a set is, and so what it moves.
use Rattle.std.proofs.Common.{◌≡◌, refl, ℕ, zero, suc, ◌⊎◌, ◌<◌, ℤ, pos, ◌+ℤ◌, ◌*ℤ◌, List, Option, None, Some, inl, inr, arith}
use Rattle.std.proofs.Common.{sym, ap, ◌∙◌, MatchOption, IfSome, true, false, Bool, ◌&&◌, ◌==◌}
use Rattle.std.proofs.lemmas.{Int.ints, Bool.Decides.Decides-and, Bool.Decides.Decides-eqb, Bool.Decides.not_from_Decides}
use Rattle.font_types.specs.{F2Dot14.F2Dot14}
use Rattle.variations.specs.Advances.{HasData, regions_of, subtable_of}
use Rattle.variations.specs.Variations.{IsSumThrough, IsTermProduct, IsVaried, HasNoVaried, HasSet, IsNoVariation}
use Rattle.variations.specs.Variations.{region_scalar, region_index, region_bytes, axis_count, delta_of, moved}
use Rattle.variations.specs.Variations.{region_index_count}
use Rattle.variations.proofs.Scalars.{scalar_is}

product_is : (regions subtable : List ℕ) (coordinates : List F2Dot14) (set n : ℕ) (product : ℤ)
    → IsTermProduct regions subtable coordinates set n product
    → product ≡ (region_scalar regions (region_index subtable n) coordinates *ℤ delta_of subtable set n)
product_is regions subtable coordinates set n product is = rw (
  is.value,
  is.is_term.delta,
  scalar_is (region_bytes regions (region_index subtable n)) coordinates (axis_count regions) _
      is.is_term.scalar,
) refl

sum_unique : (regions subtable : List ℕ) (coordinates : List F2Dot14) (set n : ℕ) (a b : ℤ)
    → IsSumThrough regions subtable coordinates set n a → IsSumThrough regions subtable coordinates set n b → a ≡ b
unfolding IsSumThrough
sum_unique regions subtable coordinates set zero a b is also = is ∙ sym also
sum_unique regions subtable coordinates set (suc n) a b (before, product, so_far, next, is)
    (before', product', so_far', next', is') =
    let befores = sum_unique regions subtable coordinates set n before before' so_far so_far' in
    let products = product_is regions subtable coordinates set n product next
    ∙ sym (product_is regions subtable coordinates set n product' next') in
    is ∙ ap (λ x. x +ℤ product) befores ∙ ap (λ x. before' +ℤ x) products ∙ sym is'

varied_unique : (regions subtable : List ℕ) (coordinates : List F2Dot14) (set advance : ℕ) (a b : ℤ)
    → IsVaried regions subtable coordinates set advance a → IsVaried regions subtable coordinates set advance b
    → a ≡ b
varied_unique regions subtable coordinates set advance a b (sum, is_sum, is) (sum', is_sum', is') =
    is ∙ ap (moved advance) (sum_unique regions subtable coordinates set (region_index_count subtable) sum sum' is_sum
    is_sum') ∙ sym is'

-- ---- as a result: that of the advance if the set has no variation data

module _ {X : Type 0} (number : X → ℕ) (is_one : (x y : X) → number x ≡ number y → x ≡ y) (store : List ℕ)
    (coordinates : List F2Dot14) (outer inner : ℕ) (advance : X) where
  abbrev IsOut : Type 0
  IsOut = (¬ HasData store outer inner) ⊎ HasNoVaried (regions_of store) (subtable_of store outer) coordinates inner
      (number advance)

  abbrev IsIn : X → Type 0
  IsIn varied = HasData store outer inner × HasSet (regions_of store) (subtable_of store outer) inner
      × IsVaried (regions_of store) (subtable_of store outer) coordinates inner (number advance)
      (pos (number varied))

  not_both : (x : X) → number x < 65536 → IsOut → ¬ IsIn x
  not_both x small (inl no_data) (has, set, is) = no_data has
  not_both x small (inr (inl no_set)) (has, set, is) = no_set set
  not_both x small (inr (inr (other, is_other, out))) (has, set, is) =
      let same = varied_unique (regions_of store) (subtable_of store outer) coordinates inner (number advance)
      other (pos (number x)) is_other is in
      out (rw same (omega (arith, ints), omega (arith, ints, small)))

  same_number : (x y : X) → IsIn x → IsIn y → x ≡ y
  same_number x y (has, set, is) (has', set', is') =
      let same = varied_unique (regions_of store) (subtable_of store outer) coordinates inner (number advance)
      (pos (number x)) (pos (number y)) is is' in
      is_one x y (omega (arith, ints, same))

  matched : (r s : Option X) → IfSome r (λ x. number x < 65536) → IfSome s (λ x. number x < 65536)
      → MatchOption r IsOut IsIn → MatchOption s IsOut IsIn → r ≡ s
  matched None None _ _ _ _ = refl
  matched None (Some y) _ small out is = absurd (not_both y small out is)
  matched (Some x) None small _ is out = absurd (not_both x small out is)
  matched (Some x) (Some y) _ _ is is' = ap Some (same_number x y is is')

  decided : (test : Bool) → (outer == 0xFFFF && inner == 0xFFFF) ≡ test → (r s : Option X)
      → IfSome r (λ x. number x < 65536) → IfSome s (λ x. number x < 65536)
      → (IsNoVariation outer inner → r ≡ Some advance) → (IsNoVariation outer inner → s ≡ Some advance)
      → (¬ IsNoVariation outer inner → MatchOption r IsOut IsIn)
      → (¬ IsNoVariation outer inner → MatchOption s IsOut IsIn) → r ≡ s
  decided true is r s _ _ r_none s_none _ _ =
      let none = (Decides-and _ _ (Decides-eqb outer 0xFFFF) (Decides-eqb inner 0xFFFF)).0 is in
      r_none none ∙ sym (s_none none)
  decided false is r s r_small s_small _ _ r_is s_is =
      let some = not_from_Decides _ (Decides-and _ _ (Decides-eqb outer 0xFFFF) (Decides-eqb inner 0xFFFF)) is in
      matched r s r_small s_small (r_is some) (s_is some)

  pub one_advance : (r s : Option X)
      → IfSome r (λ x. number x < 65536) → IfSome s (λ x. number x < 65536)
      → (IsNoVariation outer inner → r ≡ Some advance) → (IsNoVariation outer inner → s ≡ Some advance)
      → (¬ IsNoVariation outer inner → MatchOption r IsOut IsIn)
      → (¬ IsNoVariation outer inner → MatchOption s IsOut IsIn) → r ≡ s
  one_advance r s = decided _ refl r s
