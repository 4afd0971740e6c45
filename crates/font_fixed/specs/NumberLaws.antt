-- Laws of products and quotients of w-bit numbers with f fraction bits, over their raw values.
use Rattle.std.specs.Prelude.{◌≡◌, ◌≢◌, ℕ, ◌^◌, List, [], ◌∷◌, ℤ, pos}
use Rattle.font_fixed.specs.Operations.{IsProduct, IsQuotient, IsMulDiv}

-- the list has four elements with this property
abbrev pub OnFour : {T : Type 0} → List T → (T → T → T → T → Type 0) → Type 0
OnFour (a ∷ b ∷ c ∷ d ∷ []) P = P a b c d
OnFour _ P = ⊥

-- the list has three elements with this property
abbrev pub OnThree : {T : Type 0} → List T → (T → T → T → Type 0) → Type 0
OnThree (a ∷ b ∷ c ∷ []) P = P a b c
OnThree _ P = ⊥

-- x * y, y * x and x * 1: multiplication commutes, and 1 is neutral
pub record ProductLaws (w f : ℕ) (x y product flipped by_one : ℤ) : Type 0 where
  pub is_product : IsProduct w f x y product
  pub is_flipped : IsProduct w f y x flipped
  pub is_by_one : IsProduct w f x (pos (2 ^ f)) by_one
  pub commutes : flipped ≡ product
  pub one_is_neutral : by_one ≡ x

-- `mul_div(x, y, 1)` is the product
pub record ProductInOneStep (w f : ℕ) (x y product in_one_step : ℤ) : Type 0 where
  pub is_in_one_step : IsMulDiv w x y (pos (2 ^ f)) in_one_step
  pub steps_agree : in_one_step ≡ product

-- x / y, x / 1 and x / x: x / 1 is x, and x / x is 1 unless x is 0
pub record QuotientLaws (w f : ℕ) (x y quotient by_one by_itself : ℤ) : Type 0 where
  pub is_quotient : IsQuotient w f x y quotient
  pub is_by_one : IsQuotient w f x (pos (2 ^ f)) by_one
  pub is_by_itself : IsQuotient w f x x by_itself
  pub one_is_neutral : by_one ≡ x
  pub itself_gives_one : x ≢ pos 0 → by_itself ≡ pos (2 ^ f)

-- `mul_div(x, 1, y)` is the quotient, even if y is 0
pub record QuotientInOneStep (w f : ℕ) (x y quotient in_one_step : ℤ) : Type 0 where
  pub is_in_one_step : IsMulDiv w x (pos (2 ^ f)) y in_one_step
  pub steps_agree : in_one_step ≡ quotient
