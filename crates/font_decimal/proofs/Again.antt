-- A decimal without unnecessary zeros, and with so few places that a step is less than a unit of the last, is printed
-- again as it is.
use Rattle.std.proofs.Common.{◌≡◌, ◌≢◌, ◌∙◌, sym, ap, refl, ℕ, zero, suc, ◌+◌, ◌-◌, ◌*◌, ◌/◌, ◌%◌, ◌^◌, ◌<◌, ◌≤◌, Bool}
use Rattle.std.proofs.Common.{true, false, List, [], ◌∷◌, ◌++◌, length, ℤ, pos, neg_ℤ, unsigned_abs, arith, get_or, inl}
use Rattle.std.proofs.Common.{inr, subst, pow-suc, pow-add, mul-le-mul_left, IsTrue, ◌↔◌, ◌<ℤ◌, suc-mul}
use Rattle.std.proofs.lemmas.Bool.{cases_order, cases_lt}
use Rattle.std.proofs.lemmas.Str.Parse.{digit_from_value, numerals_by_value, tells_digits}
use Rattle.std.proofs.{lemmas.Bool.Decides.nat_tests, lemmas.Nat.div-mul-add, lemmas.Int.ints}
use Rattle.std.proofs.{lemmas.Int.Digits.digits_value-lt, lemmas.Fmt.decimal-digits_value, lemmas.Str.digit_value_digit}
use Rattle.std.specs.Str.Parse.{digits_value, AllDigits, IsNumeral}
use Rattle.std.specs.{Char.digit_value, Fmt.sign_text, Fmt.decimal, Int.abs_diff, Int.is_negative}
use Rattle.font_decimal.specs.Shortest.{shortest_text, decimal_text, last_digits, fewest_places}
use Rattle.font_decimal.specs.{Grammar.fraction_text, Grammar.Tidy, Near.signed, Near.Near, Reading.Rounds}
use Rattle.font_decimal.proofs.Fewest.{abs_diff_times, fewest_is, within_half, nearest_reads_back}
use Rattle.font_decimal.proofs.Near.{near_to, next_product, signed_times}
use Rattle.font_decimal.proofs.Printed.{shown_numeral, whole_fits}
use Rattle.font_decimal.proofs.{Digits.after_is, Digits.digits_value-append, Units.ten_pos, Texts.decimal_unique}

-- the digits after the point, by the number of all digits
last_digits_are : (w : ℕ) (e : List ℕ) → AllDigits 10 e
    → last_digits (length e) (w * 10 ^ length e + digits_value 10 e) ≡ e
last_digits_are w [] all = refl
last_digits_are w (c ∷ e) all =
    let k = length e in
    let d = digit_value c in
    let number : w * 10 ^ suc k + digits_value 10 (c ∷ e) ≡ (w * 10 + d) * 10 ^ k + digits_value 10 e =
    rw (after_is (0 * 10 + d) e, pow-suc 10 k) (omega arith) in
    let quotient = div-mul-add (w * 10 + d) (10 ^ k) (digits_value 10 e) (digits_value-lt 10 e all.1) in
    let glyph : 48 + d ≡ c = omega (arith, digit_value_digit c (digit_from_value c all.0), digit_from_value c all.0) in
    let digit : 48 + (w * 10 + d) % 10 ≡ c = omega (arith, all.0, glyph) in
    rw (number, quotient, digit, last_digits_are (w * 10 + d) e all.1) refl

-- two numerals of one value, the second with fewer places, if a step is less than a unit of the last place
same_numeral : (a d m t ten e : ℕ) → 2 * abs_diff (a * t) (m * (ten * e)) ≤ ten * e
    → 2 * abs_diff (d * t) (m * ten) < ten → ten * e < t → a ≡ e * d
same_numeral a d m t ten e first second few =
    let wider : 2 * abs_diff (e * (d * t)) (e * (m * ten)) ≤ ten * e =
    rw (abs_diff_times e (d * t) (m * ten)) (omega (arith, mul-le-mul_left e second)) in
    let apart : abs_diff (a * t) ((e * d) * t) ≤ ten * e = omega (arith, first, wider) in
    grind (arith, cases_order a (e * d), next_product a (e * d) t, next_product (e * d) a t, apart, few)

-- a numeral with k places that reads as m / 2^f is the one that is printed
numeral_again : (a k m f : ℕ) → 2 * abs_diff (a * 2 ^ f) (m * 10 ^ k) ≤ 10 ^ k → 10 ^ k < 2 ^ f
    → (0 < k → a % 10 ≢ 0) → (k ≡ fewest_places m f) × (a ≡ shown_numeral m f)
numeral_again a k m f close few last =
    let p = fewest_places m f in
    let fewest = fewest_is m f in
    let enough : p ≤ k = elim (cases_lt k p) [
      | inl less ↦ cc (nearest_reads_back m f k a (omega (arith, fewest.few)) close, fewest.before k less)
      | inr more ↦ more
    ] in
    let split : 10 ^ k ≡ 10 ^ p * 10 ^ (k - p) = ap (λ i. 10 ^ i) (let e : k ≡ p + (k - p) = omega arith in e)
    ∙ pow-add 10 p (k - p) in
    let number : a ≡ 10 ^ (k - p) * shown_numeral m f =
    same_numeral a (shown_numeral m f) m (2 ^ f) (10 ^ p) (10 ^ (k - p)) (rw split at close) (within_half fewest)
    (rw split at few) in
    elim (cases_lt p k) [
      | inl less ↦
          let tens : 10 ^ (k - p) ≡ 10 ^ (k - p - 1) * 10 = ap (λ i. 10 ^ i)
          (let e : k - p ≡ suc (k - p - 1) = omega arith in e) ∙ pow-suc 10 (k - p - 1) in
          absurd (last (omega arith) (omega (arith, number, ap (λ i. i * shown_numeral m f) tens)))
      | inr more ↦
          let same : k ≡ p = omega arith in
          let one : 10 ^ (k - p) ≡ 1 = ap (λ i. 10 ^ i) (let e : k - p ≡ 0 = omega arith in e) in
          (same, omega (arith, number, ap (λ i. i * shown_numeral m f) one))
    ]

-- and so is its text
text_again : (w e : List ℕ) (m f : ℕ) → IsNumeral 10 w → AllDigits 10 e → (get_or w 0 0 ≡ 48 → length w ≡ 1)
    → (0 < length e → digits_value 10 (w ++ e) % 10 ≢ 0) → 10 ^ length e < 2 ^ f → m ≤ 2 ^ 63
    → 2 * abs_diff (digits_value 10 (w ++ e) * 2 ^ f) (m * 10 ^ length e) ≤ 10 ^ length e
    → decimal_text (shown_numeral m f) (fewest_places m f) ≡ w ++ fraction_text e
text_again w e m f whole fraction first last few small close =
    let k = length e in
    let same = numeral_again (digits_value 10 (w ++ e)) k m f close few last in
    let number : shown_numeral m f ≡ digits_value 10 w * 10 ^ k + digits_value 10 e =
    sym same.1 ∙ digits_value-append w e in
    let quotient : shown_numeral m f / 10 ^ fewest_places m f ≡ digits_value 10 w =
    ap (λ i. shown_numeral m f / 10 ^ i) (sym same.0) ∙ ap (λ i. i / 10 ^ k) number
    ∙ div-mul-add (digits_value 10 w) (10 ^ k) (digits_value 10 e) (digits_value-lt 10 e fraction) in
    let digits : last_digits (fewest_places m f) (shown_numeral m f) ≡ e =
    ap (λ i. last_digits i (shown_numeral m f)) (sym same.0) ∙ ap (λ i. last_digits k i) number
    ∙ last_digits_are (digits_value 10 w) e fraction in
    let fits : digits_value 10 w < 2 ^ 64 = rw quotient at (whole_fits m f small) in
    let front = decimal-digits_value (numerals_by_value _ tells_digits) w whole.1 whole.0 first fits in
    ap (λ i. decimal i ++ fraction_text (last_digits (fewest_places m f) (shown_numeral m f))) quotient
    ∙ ap (λ ds. decimal (digits_value 10 w) ++ fraction_text ds) digits ∙ ap (λ ds. ds ++ fraction_text e) front

-- and the sign
size_of : (s : Bool) (m : ℕ) → unsigned_abs (signed s m) ≡ m
size_of false m = omega (arith, ints)
size_of true m = omega (arith, ints)

not_negative : (m : ℕ) → is_negative (pos m) ≡ false
not_negative m = grind (arith, nat_tests)

negative : (m : ℕ) → is_negative (neg_ℤ (pos (suc m))) ≡ true
negative m = grind (arith, nat_tests)

sign_again : (s : Bool) (a m f k : ℕ) (n b : ℤ) → 10 ^ k < 2 ^ f → 2 * abs_diff (a * 2 ^ f) (m * 10 ^ k) ≤ 10 ^ k
    → IsTrue s ↔ (n <ℤ pos 0) → n ≡ signed s a → b ≡ signed s m → is_negative b ≡ s
sign_again false a m f k n b few close minus number value = rw value (not_negative m)
sign_again true zero m f k n b few close minus number value =
    let below = minus.0 refl in absurd (omega (arith, ints, below, number))
sign_again true (suc a) zero f k n b few close minus number value =
    absurd (omega (arith, few, close, suc-mul a (2 ^ f)))
sign_again true (suc a) (suc m) f k n b few close minus number value = rw value (negative m)

-- sign and digits are the text
together : (text body : List ℕ) (s : Bool) (b : ℤ) (m f : ℕ) → unsigned_abs b ≡ m → is_negative b ≡ s
    → decimal_text (shown_numeral m f) (fewest_places m f) ≡ body → text ≡ sign_text s ++ body
    → shortest_text b f ≡ text
unfolding shortest_text
together text body s b m f size sign digits written =
    ap (λ i. sign_text (is_negative b) ++ decimal_text (shown_numeral i f) (fewest_places i f)) size
    ∙ ap (λ i. sign_text i ++ decimal_text (shown_numeral m f) (fewest_places m f)) sign
    ∙ ap (λ ds. sign_text s ++ ds) digits ∙ sym written

-- a tidy text that rounds to b is printed for b
pub printed_again : (text : List ℕ) (n b : ℤ) (k f : ℕ) → Tidy text n k → 10 ^ k < 2 ^ f → unsigned_abs b ≤ 2 ^ 63
    → Rounds text f b → shortest_text b f ≡ text
printed_again text n b k f tidy few small rounds =
    let x = tidy.plain.decimal in
    let a = digits_value 10 (x.whole ++ x.fraction) in
    let same = decimal_unique text _ _ _ _ rounds.decimal x in
    let nearest : Near (signed x.negative (a * 2 ^ f)) (10 ^ k) b =
    rw (same.numeral, same.places, x.numeral, signed_times x.negative a (2 ^ f)) at rounds.nearest in
    let near = near_to x.negative (a * 2 ^ f) (10 ^ k) b (ten_pos k) nearest in
    let m = near.magnitude in
    let size : unsigned_abs b ≡ m = ap unsigned_abs near.is ∙ size_of x.negative m in
    let units : unsigned_abs n ≡ a = ap unsigned_abs x.numeral ∙ size_of x.negative a in
    let close : 2 * abs_diff (a * 2 ^ f) (m * 10 ^ k) ≤ 10 ^ k = omega (arith, near.rounded.low, near.rounded.high) in
    let body = text_again x.whole x.fraction m f x.parts.whole_digits x.parts.fraction_digits
    tidy.plain.no_needless_zero (rw (x.places, units) at tidy.no_last_zero) (rw x.places at few) (rw size at small)
    (subst (λ j. 2 * abs_diff (a * 2 ^ f) (m * 10 ^ j) ≤ 10 ^ j) x.places close) in
    let sign = sign_again x.negative a m f k n b few close tidy.plain.minus x.numeral near.is in
    together text _ x.negative b m f size sign body x.parts.written
