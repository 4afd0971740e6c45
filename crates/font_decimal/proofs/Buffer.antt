-- Bytes of a text in a buffer.
use Rattle.font_decimal.specs.declared.shortest.TheConstants.{POINT, LEN}
use Rattle.font_decimal.specs.Grammar.{fraction_text}
use Rattle.font_decimal.specs.Shortest.{last_digits, nearest_numeral, fewest_places, shortest_text}
use Rattle.std.proofs.Common.{◌≡◌, ℕ, ◌+◌, ◌/◌, ◌%◌, ◌^◌, ◌<◌, ◌≤◌, List, [], ◌∷◌, ◌++◌, length, arith, length-append}
use Rattle.std.proofs.Common.{◌∙◌, length-drop, take_all, append_assoc, decimal, take, get_or, set, add-one, suc, zero}
use Rattle.std.proofs.Common.{drop, sym, ap, replicate, refl, min, ◌*◌, ◌-◌, ◌≢◌, pow_pos, append-nil, ℤ, unsigned_abs}
use Rattle.std.proofs.Common.{inl, inr, div-le_self, le_trans, pow-suc}
use Rattle.std.proofs.lemmas.Bool.Decides.{nat_tests}
use Rattle.std.proofs.lemmas.Fmt.{decimal_digit, decimal_step, length-decimal-le}
use Rattle.std.proofs.lemmas.List.{drop-set, take-set, take_more, length-set, get_or-set_same, same_from_push}
use Rattle.std.proofs.lemmas.List.{drop-take, take_at}
use Rattle.std.proofs.{Math.Nat.pow-le-pow_right, lemmas.Nat.one_shl, Math.Seq.take-append-add, lemmas.Bool.cases_lt}
use Rattle.std.specs.{Int.is_negative, Fmt.sign_text}
use Rattle.font_decimal.proofs.Fewest.{IsFewest, zero_drops, fewest_is}
use Rattle.font_decimal.proofs.Printed.{last_is, shown_whole, digits_fit, few_places}
use Rattle.font_decimal.proofs.Remainder.{HasRest, rounded_up, rounded_down, whole_kept, fails_here, stopped}

-- the digits of a number from the last two on
pub decimal_pair : (n : ℕ) → 100 ≤ n → n < 2 ^ 64
    → decimal n ≡ decimal (n / 100) ++ ((48 + n % 100 / 10) ∷ ((48 + n % 100 % 10) ∷ []))
decimal_pair n large small =
    let front : n / 10 / 10 ≡ n / 100 = omega arith in
    let tens : n / 10 % 10 ≡ n % 100 / 10 = omega arith in
    let ones : n % 10 ≡ n % 100 % 10 = omega arith in
    decimal_step n (omega arith) small
    ∙ rw (decimal_step (n / 10) (omega arith) (omega arith), front, tens, ones, append_assoc)

pub pair_length : (n : ℕ) → 100 ≤ n → n < 2 ^ 64 → length (decimal n) ≡ length (decimal (n / 100)) + 2
pair_length n large small = rw (decimal_pair n large small) (omega (arith, length-append {A = ℕ}))

pub two_digits : (n : ℕ) → 10 ≤ n → n < 100 → decimal n ≡ (48 + n / 10) ∷ ((48 + n % 10) ∷ [])
two_digits n large small = decimal_step n large (omega arith) ∙ rw (decimal_digit (n / 10) (omega arith))

-- a byte behind others
pub put_behind : (xs : List ℕ) (n b : ℕ) → n < length xs → take (n + 1) (set xs n b) ≡ take n xs ++ (b ∷ [])
put_behind xs n b within =
    take_more (set xs n b) n 0 (rw length-set within) ∙ rw (take-set, get_or-set_same xs n b 0 within)

-- a digit more
pub digit_more : (p q d : ℕ) → d < 10 → last_digits (p + 1) (10 * q + d) ≡ last_digits p q ++ ((48 + d) ∷ [])
digit_more p q d small =
    let front : (10 * q + d) / 10 ≡ q = omega arith in
    let last : (10 * q + d) % 10 ≡ d = omega arith in
    rw add-one (last_is p (10 * q + d) ∙ rw (front, last))

-- the last digit of the bytes, raised
pub record IsRaised (p : ℕ) (bytes front : List ℕ) (numeral : ℕ) : Type 0 where
  pub fits : get_or bytes (POINT + p) 0 < 57
  pub text : take (POINT + 1 + p) (set bytes (POINT + p) (get_or bytes (POINT + p) 0 + 1))
      ≡ front ++ last_digits p numeral

pub digit_raised : {m f q rest : ℕ} (p : ℕ) (bytes front : List ℕ) → IsFewest m f p → HasRest m f p q rest
    → 2 ^ f ≤ rest → min rest (2 * 2 ^ f - rest) < 10 ^ p → POINT + 1 + p ≤ length bytes
    → take (POINT + 1 + p) bytes ≡ front ++ last_digits p q
    → IsRaised p bytes front (q + 1)
digit_raised {f = f} zero bytes front fewest h high close long is = absurd (omega (arith, h.below, pow_pos f))
digit_raised {q = q} (suc k) bytes front fewest h high close long is =
    let n = POINT + 1 + k in
    let at : POINT + suc k ≡ n = omega arith in
    let end : POINT + 1 + suc k ≡ n + 1 = omega arith in
    let pushed : take n bytes ++ (get_or bytes n 0 ∷ []) ≡ (front ++ last_digits k (q / 10)) ++ ((48 + q % 10) ∷ []) =
    sym (take_more bytes n 0 (omega arith)) ∙ rw end at is ∙ rw (last_is k q, append_assoc) in
    let ends = same_from_push _ _ _ _ pushed in
    let kept = zero_drops fewest in
    let raised = rounded_up h high in
    let nine : (q + 1) % 10 ≢ 0 = rw raised at kept in
    let tens : (q + 1) / 10 ≡ q / 10 = omega (arith, nine) in
    let sum : 48 + q % 10 + 1 ≡ 48 + (q % 10 + 1) = omega arith in
    let ones : (q + 1) % 10 ≡ q % 10 + 1 = omega (arith, nine) in
    record {
      fits = rw (at, ends.1) (omega (arith, ones));
      text = rw (at, end) (put_behind bytes n (get_or bytes n 0 + 1) (omega arith)
          ∙ rw (ends.0, ends.1, last_is k (q + 1), tens, ones, sum, append_assoc) refl);
    }

-- the point and the digits after it
pub fraction_shown : (p n : ℕ) (bytes : List ℕ)
    → take (POINT + 1 + p) bytes ≡ take (POINT + 1) (replicate LEN 46) ++ last_digits p n
    → take (p + 1) (drop POINT bytes) ≡ 46 ∷ last_digits p n
fraction_shown p n bytes is =
    let end : POINT + (p + 1) ≡ POINT + 1 + p = omega arith in
    sym (drop-take POINT (p + 1) bytes) ∙ rw end (ap (drop POINT) is)

-- a text of bytes, its point and its digits
joined : (p n start end : ℕ) (front bytes fraction : List ℕ) → (0 < p → end ≡ POINT + 1 + p) → (p ≡ 0 → end ≡ POINT)
    → start + length front ≡ POINT → drop start bytes ≡ front ++ drop POINT fraction
    → take (POINT + 1 + p) fraction ≡ take (POINT + 1) (replicate LEN 46) ++ last_digits p n
    → take (end - start) (drop start bytes) ≡ front ++ fraction_text (last_digits p n)
joined zero n start end front bytes fraction some none place is after =
    let long : end - start ≡ length front = omega (arith, none refl) in
    rw (is, append-nil) (take_at front (drop POINT fraction) (end - start) (sym long))
joined (suc k) n start end front bytes fraction some none place is after =
    let long : end - start ≡ length front + (suc k + 1) = omega (arith, some (omega arith)) in
    rw (is, long, ← fraction_shown (suc k) n fraction after) (take-append-add front (drop POINT fraction) (suc k + 1))

-- the integer has at most 19 digits
pub whole_short : (m f : ℕ) → m ≤ 2 ^ 63 → length (decimal (m / 2 ^ f)) ≤ 19
whole_short m f small =
    let below : m / 2 ^ f ≤ 2 ^ 63 = le_trans (div-le_self m (2 ^ f)) small in
    length-decimal-le 19 (m / 2 ^ f) (omega arith) (omega (arith, below)) (omega (arith, below))

-- and the fraction at most 10
pub ten_places : (m f : ℕ) → f ≤ 30 → fewest_places m f ≤ 10
ten_places m f most = few_places m f 10
    (omega (arith, pow-le-pow_right {n = 2} (omega arith) {i = f} {j = 30} most))

-- the bytes from start to end are the shortest text
pub record IsText (b : ℤ) (f start end : ℕ) (bytes : List ℕ) : Type 0 where
  pub within : (start ≤ end) × (end ≤ LEN) × (end ≤ start + 22)
  pub text : take (end - start) (drop start bytes) ≡ shortest_text b f

pub text_made : {m f p end middle start : ℕ} {bytes : List ℕ} (b : ℤ) (first second : List ℕ) → f ≤ 30
    → m ≡ unsigned_abs b → m ≤ 2 ^ 63 → p ≡ fewest_places m f
    → take (POINT + 1 + p) first ≡ take (POINT + 1) (replicate LEN 46) ++ last_digits p (nearest_numeral m f p)
    → (0 < p → end ≡ POINT + 1 + p) → (p ≡ 0 → end ≡ POINT) → middle + length (decimal (m / 2 ^ f)) ≡ POINT
    → drop middle second ≡ decimal (m / 2 ^ f) ++ drop POINT first → start + length (sign_text (is_negative b)) ≡ middle
    → drop start bytes ≡ sign_text (is_negative b) ++ drop middle second → IsText b f start end bytes
unfolding shortest_text
text_made {m = m} {f = f} {p = p} {end = end} {start = start} {bytes = bytes} b first second most size small
    places digits some none whole_place whole sign_place sign =
    let minus = sign_text (is_negative b) in
    let whole_text = decimal (m / 2 ^ f) in
    let kept : m / 2 ^ f ≡ shown_whole m f = sym (whole_kept (fewest_is m f)) in
    let both = length-append minus whole_text in
    let room = rw (← kept, ← places) at (digits_fit m f small most) in
    let one : length minus ≤ 1 = grind (arith, nat_tests) in
    let close : (POINT ≤ end) × (end ≤ POINT + 1 + p) = elim (cases_lt 0 p) [
      | inl more ↦ omega (arith, some more)
      | inr fewer ↦ omega (arith, none (omega arith))
    ] in
    record {
      within = omega (arith, both, places, ten_places m f most, close, room, one);
      text = joined p _ start end (minus ++ whole_text) bytes first some none (omega (arith, both))
          (sign ∙ rw (whole, append_assoc) refl) digits ∙ rw (kept, places, ← size, append_assoc) refl;
    }

pub unit_is : (f : ℕ) → f ≤ 30 → 1 * 2 ^ (f + 1) % 18446744073709551616 ≡ 2 * 2 ^ f
unit_is f h = one_shl (f + 1) 64 (omega arith) ∙ rw add-one (omega (arith, pow-suc 2 f))

pub nine_places : (p f : ℕ) → f ≤ 30 → 10 ^ p ≤ 2 ^ f → p ≤ 9
nine_places p f most wide = elim (cases_lt 9 p) [
  | inl many ↦ absurd (omega (
    arith,
    wide,
    pow-le-pow_right {n = 10} (omega arith) {i = 10} {j = p} (omega arith),
    pow-le-pow_right {n = 2} (omega arith) {i = f} {j = 30} most,
  ))
  | inr few ↦ few
]

pub ruleset buffers = (
  length-drop,
  drop-set,
  take_all,
  pair_length,
  two_digits,
  decimal_digit,
  decimal_pair,
  append_assoc,
  rounded_down,
  unit_is,
  whole_short,
  ten_places,
)
