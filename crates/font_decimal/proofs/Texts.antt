-- A decimal text has its parts in one way only, and so is one number.
use Rattle.std.proofs.Common.{◌≡◌, ℕ, ◌<◌, Bool, true, false, List, [], ◌∷◌, ◌++◌, length, ℤ, refl, sym, ap, arith}
use Rattle.std.proofs.Common.{IsAscii}
use Rattle.std.proofs.{lemmas.Bool.Decides.nat_tests, lemmas.Str.IsAscii-append, lemmas.Str.Ascii.IsAscii-cons}
use Rattle.std.proofs.{lemmas.Str.Ascii.IsAscii-nil, lemmas.Fmt.IsAscii-from_digits}
use Rattle.std.specs.{Fmt.sign_text, Str.Parse.digits_value, Str.Parse.AllDigits, Char.digit_value}
use Rattle.font_decimal.specs.{Near.signed, Grammar.fraction_text, Grammar.HasParts, Grammar.Decimal}

-- a fraction is determined by its text
pub same_point : (e g : List ℕ) → fraction_text e ≡ fraction_text g → e ≡ g
same_point e g h = grind (arith, nat_tests)

no_point : (c : ℕ) (w e g : List ℕ) → digit_value c < 10 → fraction_text e ≡ c ∷ (w ++ fraction_text g) → ⊥
no_point c w e g small h = grind (arith, nat_tests)

pub record SameParts (s t : Bool) (v w e g : List ℕ) : Type 0 where
  pub negative : s ≡ t
  pub whole : v ≡ w
  pub fraction : e ≡ g

-- two texts that agree have the same digits on each side of the point
same_split : (s : Bool) (v w e g : List ℕ) → AllDigits 10 v → AllDigits 10 w
    → v ++ fraction_text e ≡ w ++ fraction_text g → SameParts s s v w e g
same_split s [] [] e g p q h = record { negative = refl; whole = refl; fraction = same_point e g h }
same_split s [] (c ∷ w) e g p q h = absurd (no_point c w e g q.0 h)
same_split s (c ∷ v) [] e g p q h = absurd (no_point c v g e p.0 (sym h))
same_split s (c ∷ v) (d ∷ w) e g p q h = grind (arith, same_split s v w e g p.1 q.1)

pub no_minus : {text w e rest : List ℕ} → HasParts text false w e → text ≡ 45 ∷ rest → ⊥
no_minus {w = []} p h = omega (arith, p.whole_digits.0)
no_minus {w = c ∷ w} p h = let minus : c ≡ 45 = cc in omega (arith, ap digit_value minus, p.whole_digits.1.0)

pub same_parts : {s t : Bool} {v w e g text : List ℕ} → HasParts text s v e → HasParts text t w g
    → SameParts s t v w e g
same_parts {s = false} {t = false} x y = same_split false _ _ _ _ x.whole_digits.1 y.whole_digits.1 cc
same_parts {s = false} {t = true} x y = absurd (no_minus x y.written)
same_parts {s = true} {t = false} x y = absurd (no_minus y x.written)
same_parts {s = true} {t = true} x y = same_split true _ _ _ _ x.whole_digits.1 y.whole_digits.1 cc

-- a text is one number with one number of places
pub record SameDecimal (n m : ℤ) (j k : ℕ) : Type 0 where
  pub numeral : n ≡ m
  pub places : j ≡ k

pub decimal_unique : (text : List ℕ) (n m : ℤ) (j k : ℕ) → Decimal text n j → Decimal text m k → SameDecimal n m j k
decimal_unique text n m j k x y = let same = same_parts x.parts y.parts in record { numeral = cc; places = cc }

-- a text that has these parts is their number
pub decimal_of : {text : List ℕ} {s : Bool} {w e : List ℕ} → HasParts text s w e
    → Decimal text (signed s (digits_value 10 (w ++ e))) (length e)
decimal_of p = record { negative = _; whole = _; fraction = _; parts = p; numeral = refl; places = refl }

ascii_point : (e : List ℕ) → AllDigits 10 e → IsAscii (fraction_text e)
ascii_point [] p = IsAscii-nil
ascii_point (d ∷ e) p = IsAscii-cons 46 (d ∷ e) (omega arith) (IsAscii-from_digits (d ∷ e) p)

ascii_sign : (s : Bool) → IsAscii (sign_text s)
ascii_sign s = grind (arith, nat_tests)

-- each byte of a decimal text is ASCII, so bytes that are not UTF-8 are not a decimal
pub decimal_is_ascii : (text : List ℕ) (n : ℤ) (k : ℕ) → Decimal text n k → IsAscii text
decimal_is_ascii text n k d =
    let p = d.parts in
    rw p.written (IsAscii-append _ _ (ascii_sign d.negative)
    (IsAscii-append _ _ (IsAscii-from_digits d.whole p.whole_digits.1)
    (ascii_point d.fraction p.fraction_digits)))
