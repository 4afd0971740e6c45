-- A fraction in units of 1 / 2^n, rounded down.
use Rattle.std.proofs.Common.{◌≡◌, ℕ, zero, suc, ◌+◌, ◌-◌, ◌*◌, ◌/◌, ◌^◌, ◌<◌, ◌≤◌, inl, inr, arith, pow-add, pow-suc}
use Rattle.std.proofs.Common.{◌∙◌, refl, sym, ap, List, [], ◌∷◌, ◌++◌, length, length-append, ◌⊎◌, append-nil, min}
use Rattle.std.proofs.Common.{take, drop, mul-lt-mul_of_pos_right, length-take-le, pow_pos, replicate}
use Rattle.std.proofs.Math.Nat.{mul-div-mul_right, one-le-pow, div-div-eq-div-mul, add-mul-div_left, div-eq_of_lt}
use Rattle.std.proofs.{lemmas.Nat.mul-pow, lemmas.Nat.div_below, lemmas.Int.Digits.digits_value-lt}
use Rattle.std.proofs.lemmas.List.{drop_all, take_all, length-replicate, take-append-drop}
use Rattle.std.proofs.lemmas.Bool.{cases_lt}
use Rattle.std.specs.{Char.digit_value, Str.Parse.digits_value, Str.Parse.AllDigits}
use Rattle.font_decimal.specs.Reading.{HasUnits}
use Rattle.font_decimal.proofs.Digits.{after_is, digits-append, digits_value-append, digits_parts}

pub ten_pos : (k : ℕ) → 0 < 10 ^ k
ten_pos k = one-le-pow k 10 (omega arith)

-- a digit more, in front
pub units_more : {n units : ℕ} (d x : ℕ) (e : List ℕ) → digit_value d ≡ x → x < 10 → HasUnits n e units
    → HasUnits n (d ∷ e) ((x * 2 ^ n + units) / 10)
units_more {n = n} {units = units} d x e is digit found =
    let k = length e in
    let v = digits_value 10 e in
    let first : 0 * 10 + digit_value d ≡ x = omega (arith, is) in
    let all : (x * 10 ^ k + v) * 2 ^ n ≡ v * 2 ^ n + 10 ^ k * (x * 2 ^ n) = omega arith in
    let sum : (x * 10 ^ k + v) * 2 ^ n / 10 ^ k ≡ x * 2 ^ n + units =
    rw (all, found.floor) (add-mul-div_left (v * 2 ^ n) (x * 2 ^ n) (ten_pos k) ∙ omega arith) in
    record {
      digits = (omega (arith, is, digit), found.digits);
      floor = rw (after_is (0 * 10 + digit_value d) e, first, pow-suc 10 k, ← sum)
          (div-div-eq-div-mul _ (10 ^ k) 10 ∙ ap (λ t. (x * 10 ^ k + v) * 2 ^ n / t) (omega arith));
    }

-- n digits are enough for units of 1 / 2^n
pub units_cut : {n units : ℕ} (front rest : List ℕ) → HasUnits n front units → AllDigits 10 rest
    → (rest ≡ []) ⊎ (length front ≡ n) → HasUnits n (front ++ rest) units
units_cut front rest found late (inl none) = rw (none, append-nil) found
units_cut {n = n} front rest found late (inr full) =
    let x = digits_value 10 front in
    let y = digits_value 10 rest in
    let t = 10 ^ length rest in
    let ten : 10 ^ n ≡ 5 ^ n * 2 ^ n = mul-pow 5 2 n in
    let none : y / t ≡ 0 = div-eq_of_lt (omega (arith, digits_value-lt 10 rest late)) in
    let whole : (x * t + y) / t ≡ x = let all : x * t + y ≡ y + t * x = omega arith in
    rw (all, add-mul-div_left y x (ten_pos (length rest)), none) (omega arith) in
    let under : 10 ^ (n + length rest) ≡ t * 5 ^ n * 2 ^ n = rw (pow-add 10 n (length rest), ten) (omega arith) in
    record {
      digits = digits-append front rest found.digits late;
      floor = found.floor ∙ rw (
        full,
        ten,
        mul-div-mul_right x (5 ^ n) (pow_pos n),
        digits_value-append,
        length-append,
        full,
        under,
        mul-div-mul_right (x * t + y) (t * 5 ^ n) (pow_pos n),
        ← div-div-eq-div-mul (x * t + y) t (5 ^ n),
        whole,
      ) refl;
    }

-- exactly n digits of a fraction: later ones are left out, and missing ones are zeros
abbrev pub exactly : ℕ → List ℕ → List ℕ
exactly n e = take n e ++ replicate (n - length e) 48

zeros_are_none : (j : ℕ) → digits_value 10 (replicate j 48) ≡ 0
zeros_are_none zero = refl
zeros_are_none (suc j) = zeros_are_none j

-- units of 1 / 2^n are the number of exactly n digits, divided by 5^n
by_fives : (n : ℕ) (e : List ℕ) → length e ≤ n
    → digits_value 10 e * 2 ^ n / 10 ^ length e ≡ digits_value 10 (e ++ replicate (n - length e) 48) / 5 ^ n
by_fives n e few =
    let v = digits_value 10 e in
    let k = length e in
    let zeros = 10 ^ (n - k) in
    let ten : 10 ^ k * zeros ≡ 5 ^ n * 2 ^ n =
    sym (pow-add 10 k (n - k)) ∙ ap (λ t. 10 ^ t) (omega (arith, few)) ∙ mul-pow 5 2 n in
    let all : digits_value 10 (e ++ replicate (n - k) 48) ≡ v * zeros =
    rw (digits_value-append, length-replicate, zeros_are_none) (omega arith) in
    let moved : v * 2 ^ n * zeros ≡ v * zeros * 2 ^ n = omega arith in
    sym (mul-div-mul_right (v * 2 ^ n) (10 ^ k) (ten_pos (n - k))) ∙ rw (ten, moved, all)
    (mul-div-mul_right (v * zeros) (5 ^ n) (pow_pos n))

pub units_by_fives : {units : ℕ} (n : ℕ) (e : List ℕ) → HasUnits n e units
    → units ≡ digits_value 10 (exactly n e) / 5 ^ n
units_by_fives n e found = elim (cases_lt (length e) n) [
  | inl short ↦ let few : length e ≤ n = omega (arith, short) in rw (take_all n e few) (found.floor ∙ by_fives n e few)
  | inr long ↦
      let parts = digits_parts n e found.digits in
      let full : length (take n e) ≡ n = length-take-le n e (omega (arith, long)) in
      let none : n - length e ≡ n - length (take n e) = omega (arith, long, full) in
      let cut = units_cut (take n e) (drop n e) (record { digits = parts.0; floor = refl }) parts.1 (inr full) in
      rw none (found.floor ∙ sym (rw (take-append-drop n e) at cut.floor) ∙ by_fives n (take n e) (omega (arith, full)))
]

-- a fraction below 1 has fewer units than there are in 1
pub units_below : {units : ℕ} (n : ℕ) (e : List ℕ) → HasUnits n e units → units < 2 ^ n
units_below n e found = rw found.floor
    (div_below (digits_value 10 e * 2 ^ n) (10 ^ length e) (2 ^ n) (ten_pos (length e))
    (omega (arith, mul-lt-mul_of_pos_right (digits_value-lt 10 e found.digits) (pow_pos n))))

-- a list that is cut to n elements
pub at_cut : (n places : ℕ) {front rest : List ℕ} (e : List ℕ) → places ≡ min (length e) n → front ≡ take places e
    → rest ≡ drop places e → (rest ≡ []) ⊎ (length front ≡ n)
at_cut n places e is first second = elim (cases_lt (length e) n) [
  | inl short ↦ inl (second ∙ drop_all places e (omega arith))
  | inr long ↦ inr (omega (arith, ap length first, length-take-le places e (omega arith)))
]
