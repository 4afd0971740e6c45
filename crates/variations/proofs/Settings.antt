-- The value of an axis by the settings: none, and one more. The settings of no axis.
use Rattle.std.proofs.Common.{◌≡◌, ◌≢◌, refl, ℕ, ℤ, ◌+◌, ◌<◌, List, length, inl, inr, arith, get_or, ◌≤◌}
use Rattle.std.proofs.lemmas.List.{get_or_default}
use Rattle.font_types.specs.{Fixed.fixed_bits, Tag.tag_bytes}
use Rattle.variations.specs.declared.evaluator.Setting.{Setting}
use Rattle.variations.specs.Evaluator.{AreOfOthers, IsSetTo, HasAxis, HasTag, axis_tag_bytes}
use Rattle.variations.specs.Evaluator.{fvar_axis_count}

module _ (settings : List Setting) (tag : List ℕ) (default : ℤ) where
  pub no_setting : IsSetTo settings tag default 0 default
  no_setting = inl ((λ j d from before. absurd (omega (arith, before))), refl)

  pub own_setting : (n : ℕ) (value : ℤ) (e : Setting) → n < length settings
      → tag_bytes (get_or settings n e).axis ≡ tag → fixed_bits (get_or settings n e).value ≡ value
      → IsSetTo settings tag default (n + 1) value
  own_setting n value e within is_axis is = inr (
    n,
    record {
      within = omega arith;
      is_axis = λ d. rw (get_or_default settings n d e within) is_axis;
      is_value = λ d. rw (get_or_default settings n d e within) is;
      last = λ j d from before. absurd (omega (arith, from, before));
    },
  )

  one_more_of_others : (k n : ℕ) (e : Setting) → n < length settings → AreOfOthers settings tag k n
      → tag_bytes (get_or settings n e).axis ≢ tag → AreOfOthers settings tag k (n + 1)
  one_more_of_others k n e within so_far next j d from before =
      let same = get_or_default settings n d e within in
      grind (arith, same)

  pub other_setting : (n : ℕ) (value : ℤ) (e : Setting) → n < length settings
      → IsSetTo settings tag default n value → tag_bytes (get_or settings n e).axis ≢ tag
      → IsSetTo settings tag default (n + 1) value
  other_setting n value e within (inl (none, is)) next =
      inl (one_more_of_others 0 n e within none next, is)
  other_setting n value e within (inr (k, last)) next = inr (
    k,
    record {
      within = omega (arith, last.within);
      is_axis = last.is_axis;
      is_value = last.is_value;
      last = one_more_of_others (k + 1) n e within last.last next;
    },
  )

pub ruleset setting_rules = (no_setting, own_setting, other_setting)

-- ---- settings of no axis

pub no_tag : (fvar tag : List ℕ) (n : ℕ) → fvar_axis_count fvar ≤ n
    → ((k : ℕ) → k < n → HasAxis fvar k → axis_tag_bytes fvar k ≢ tag) → ¬ HasTag fvar tag
no_tag fvar tag n all none has = none has.axis (omega (arith, all, has.there.within)) has.there has.is_tag
