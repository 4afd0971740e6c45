-- The parts of a text, found from its start.
use Rattle.std.proofs.Common.{◌≡◌, ◌≢◌, ℕ, zero, suc, ◌<◌, ◌≤◌, Bool, true, false, List, [], ◌∷◌, ◌++◌, length, get_or}
use Rattle.std.proofs.Common.{take, drop, refl, arith, take-append-drop, length-take-le}
use Rattle.std.proofs.lemmas.Bool.Decides.{nat_tests}
use Rattle.std.specs.{Str.Parse.AllDigits, Char.digit_value, Fmt.sign_text}
use Rattle.font_decimal.specs.Grammar.{fraction_text, HasParts, IsNoDecimal}
use Rattle.font_decimal.proofs.Texts.{no_minus}

-- the text after the digits that have been found at its start
rest_found : (w rest : List ℕ) (len : ℕ) → AllDigits 10 w → 10 ≤ digit_value (get_or rest 0 0)
    → AllDigits 10 (take len (w ++ rest)) → len ≤ length (w ++ rest)
    → 10 ≤ digit_value (get_or (w ++ rest) len 0) → drop len (w ++ rest) ≡ rest
rest_found [] rest zero p q digits within end = refl
rest_found [] [] (suc len) p q digits within end = refl
rest_found [] (c ∷ rest) (suc len) p q digits within end = absurd (omega (arith, digits.0))
rest_found (c ∷ w) rest zero p q digits within end = absurd (omega (arith, p.0))
rest_found (c ∷ w) rest (suc len) p q digits within end = rest_found w rest len p.1 q digits.1 (omega arith) end

-- the text after the digits of the integer does not begin with a digit
no_digit : (e : List ℕ) → 10 ≤ digit_value (get_or (fraction_text e) 0 0)
no_digit e = grind (arith, nat_tests)

-- so a text with such parts has its fraction where its first digits end
pub fraction_found : {text w e : List ℕ} (len : ℕ) → HasParts text false w e → AllDigits 10 (take len text)
    → len ≤ length text → 10 ≤ digit_value (get_or text len 0) → drop len text ≡ fraction_text e
fraction_found {text = text} {w = w} {e = e} len parts digits within end =
    grind (arith, nat_tests, rest_found, no_digit)

-- the parts found from the start are parts of the text
pub parts_found : (text e : List ℕ) (len : ℕ) (s : Bool) → AllDigits 10 (take len text) → 0 < len → len ≤ length text
    → drop len text ≡ fraction_text e → AllDigits 10 e
    → HasParts (sign_text s ++ text) s (take len text) e
parts_found text e len s digits some within rest fraction = grind (arith, nat_tests, take-append-drop, length-take-le)

-- a text is not a decimal if the text after its sign has no such parts
pub no_decimal : (text digits : List ℕ) (s : Bool) → text ≡ sign_text s ++ digits
    → (s ≡ false → (rest : List ℕ) → text ≢ 45 ∷ rest)
    → ((w e : List ℕ) → ¬ (HasParts digits false w e)) → IsNoDecimal text
no_decimal text digits s is plain none n k d = differ s d.negative d.parts is plain where
  found : digits ≡ d.whole ++ fraction_text d.fraction → ⊥
  found e = none d.whole d.fraction
      (record { written = e; whole_digits = d.parts.whole_digits; fraction_digits = d.parts.fraction_digits })

  differ : (s t : Bool) → HasParts text t d.whole d.fraction → text ≡ sign_text s ++ digits
      → (s ≡ false → (rest : List ℕ) → text ≢ 45 ∷ rest) → ⊥
  differ true true p e h = found cc
  differ true false p e h = no_minus p e
  differ false true p e h = h refl (d.whole ++ fraction_text d.fraction) p.written
  differ false false p e h = found cc
