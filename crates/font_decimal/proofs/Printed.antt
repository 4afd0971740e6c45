-- The text of the shortest decimal: in the grammar, nearest, parsed back, with the fewest places, and at most 22 bytes
-- long; and lemmas on printed texts for callers.
use Rattle.std.proofs.Common.{◌≡◌, ℕ, zero, suc, ◌+◌, ◌-◌, ◌*◌, ◌/◌, ◌%◌, ◌^◌, ◌<◌, ◌≤◌, Bool, [], ◌∷◌, ◌++◌, length}
use Rattle.std.proofs.Common.{get_or, lit<, ℤ, pos, refl, sym, ap, subst, ◌∙◌, arith, ◌*ℤ◌, ◌<ℤ◌, ◌↔◌, IsTrue}
use Rattle.std.proofs.Common.{unsigned_abs, pow_pos, pow-add, append-nil, ◌≢◌, true, List, append_assoc, length-append}
use Rattle.std.proofs.Common.{◌≤ℤ◌, Result, Ok, decimal, mul-le-mul_right, pow-suc, div-mul-le_self, div-add-mod'}
use Rattle.std.proofs.Common.{le-mul_of_pos_right, mul-le-mul_left, lt_of_mul-lt-mul_right, div-one, lt_of_le_of_lt}
use Rattle.std.proofs.Math.Nat.{div-div-eq-div-mul, pow-le-pow_right}
use Rattle.std.proofs.lemmas.Fmt.{decimal_is_IsNumeral, decimal_digit, first_decimal, length-decimal-le}
use Rattle.std.proofs.{lemmas.Bool.Decides.nat_tests, lemmas.Int.ints, lemmas.Str.digit_value_digit}
use Rattle.std.proofs.{lemmas.List.same_from_push, lemmas.Str.Parse.digit_from_value}
use Rattle.std.specs.Str.Parse.{digits_value, AllDigits}
use Rattle.std.specs.{Int.is_negative, Int.abs_diff, Fmt.sign_text, Char.digit_value}
use Rattle.font_decimal.specs.{Near.signed, Near.Near, Near.near_magnitude, Grammar.fraction_text, Grammar.Decimal, Grammar.HasParts}
use Rattle.font_decimal.specs.{Shortest.IsShortest, Shortest.nearest_numeral, Shortest.fewest_places}
use Rattle.font_decimal.specs.{Shortest.last_digits, Shortest.decimal_text, Shortest.shortest_text, Reading.Rounds}
use Rattle.font_decimal.specs.{Reading.Parses, Padding.unsigned_body, declared.reader.DecimalFault.DecimalFault}
use Rattle.font_decimal.proofs.Fewest.{fewest_is, within_half, none_fewer, unit_is_below, rounded_at, IsFewest}
use Rattle.font_decimal.proofs.Fewest.{zero_drops}
use Rattle.font_decimal.proofs.{Near.near_from, Near.sign_and_magnitude, Near.signed_times, Digits.after_is}
use Rattle.font_decimal.proofs.{Digits.digits_value-append, Units.ten_pos, Readings.rounds_unique}
use Rattle.font_decimal.proofs.{Readings.reading_unique, Texts.same_parts, Texts.decimal_unique, Texts.decimal_of}

pub last_length : (p n : ℕ) → length (last_digits p n) ≡ p
last_length zero n = refl
last_length (suc p) n = ap suc (last_length p n)

glyph_value : (d : ℕ) → d < 10 → digit_value (48 + d) ≡ d
glyph_value d h = omega (arith, digit_value_digit (48 + d) (omega arith, omega arith))

pub last_all_digits : (p n : ℕ) → AllDigits 10 (last_digits p n)
last_all_digits zero n = tt
last_all_digits (suc p) n = (omega (arith, glyph_value (n / 10 ^ p % 10) (omega arith)), last_all_digits p n)

last_value : (p n : ℕ) → n / 10 ^ p * 10 ^ p + digits_value 10 (last_digits p n) ≡ n
last_value zero n = omega arith
last_value (suc p) n =
    let m = n / 10 ^ p in
    let digits = after_is (0 * 10 + digit_value (48 + m % 10)) (last_digits p n) in
    rw (digits, last_length p n, glyph_value (m % 10) (omega arith), pow-suc 10 p, ← div-div-eq-div-mul n (10 ^ p) 10)
    (omega (arith, last_value p n, ap (λ k. k * 10 ^ p) (div-add-mod' m 10)))

-- the digits before the point and after it are the numeral's
written_decimal : (s : Bool) (p n : ℕ) → n / 10 ^ p < 2 ^ 64 → Decimal (sign_text s ++ decimal_text n p) (signed s n) p
written_decimal s p n small = record {
  negative = s;
  whole = decimal (n / 10 ^ p);
  fraction = last_digits p n;
  parts = record {
    written = refl;
    whole_digits = (decimal_is_IsNumeral _ small).0;
    fraction_digits = last_all_digits p n;
  };
  numeral = rw (digits_value-append, (decimal_is_IsNumeral (n / 10 ^ p) small).1, last_length p n, last_value p n);
  places = sym (last_length p n);
}

no_zero_in_front : (n : ℕ) → n < 2 ^ 64 → get_or (decimal n) 0 0 ≡ 48 → length (decimal n) ≡ 1
no_zero_in_front n small e = grind (arith, first_decimal n, decimal_digit n)

-- the numeral that is printed is zero only if the value is
not_zero : (m d t ten : ℕ) → 2 * abs_diff (d * t) (m * ten) < ten → d ≡ 0 → m ≡ 0
not_zero m d t ten close e = grind (arith, ap (λ k. k * t) e, mul-le-mul_right {m = 1} {n = m} ten)

minus_shown : (b : ℤ) (d : ℕ) → (d ≡ 0 → unsigned_abs b ≡ 0)
    → IsTrue (is_negative b) ↔ (signed (is_negative b) d <ℤ pos 0)
minus_shown b d h = grind (arith, nat_tests)

-- the integer that is printed is at most the value's
whole_within : (m t ten d w : ℕ) → 2 * abs_diff (d * t) (m * ten) < ten → w * ten ≤ d → w * t ≤ m
whole_within m t ten d w close low =
    let scaled : w * ten * t ≤ d * t = mul-le-mul_right t low in
    let below : 2 * (w * t) * ten < (2 * m + 1) * ten = omega arith in
    omega (arith, lt_of_mul-lt-mul_right ten below)

-- the numeral of the shortest decimal, and its integer
abbrev pub shown_numeral : ℕ → ℕ → ℕ
shown_numeral m f = nearest_numeral m f (fewest_places m f)

abbrev pub shown_whole : ℕ → ℕ → ℕ
shown_whole m f = shown_numeral m f / 10 ^ fewest_places m f

pub whole_is_within : (m f : ℕ) → shown_whole m f * 2 ^ f ≤ m
whole_is_within m f = whole_within _ _ _ _ _ (within_half (fewest_is m f)) (div-mul-le_self (shown_numeral m f) _)

pub whole_fits : (m f : ℕ) → m ≤ 2 ^ 63 → shown_whole m f < 2 ^ 64
whole_fits m f small = omega (arith, whole_is_within m f, le-mul_of_pos_right (shown_whole m f) (pow_pos f))

-- the text of the fewest places is the shortest
pub shortest_is : (b : ℤ) (f : ℕ) → unsigned_abs b ≤ 2 ^ 63 → IsShortest b f (shortest_text b f)
unfolding shortest_text written_decimal
shortest_is b f small =
    let s = is_negative b in
    let m = unsigned_abs b in
    let p = fewest_places m f in
    let d = shown_numeral m f in
    let fewest = fewest_is m f in
    let whole = whole_fits m f small in
    let close = within_half fewest in
    let text = written_decimal s p d whole in
    record {
      numeral = signed s d;
      places = p;
      plain = record {
        decimal = text;
        no_needless_zero = no_zero_in_front _ whole;
        minus = minus_shown b d (not_zero _ _ _ _ close);
      };
      rounds = record {
        numeral = signed s d;
        places = p;
        decimal = text;
        nearest = subst (λ v. Near (signed s d *ℤ pos (2 ^ f)) (10 ^ p) v) (sym (sign_and_magnitude b))
            (rw signed_times (near_from s _ _ m (ten_pos p) (omega arith)));
      };
      nearest = subst (λ v. Near (v *ℤ pos (10 ^ p)) (2 ^ f) (signed s d)) (sym (sign_and_magnitude b))
          (rw signed_times (near_from s _ _ d (pow_pos f) (rounded_at m f p)));
      fewest = λ j n. none_fewer j n fewest;
    }

-- ---- the length of the text
pub point_length : (p n : ℕ) → length (fraction_text (last_digits p n)) ≤ p + 1
point_length zero n = omega arith
point_length (suc p) n = omega (arith, last_length p n)

-- with steps wider than `1 / 10 ^ places`
pub few_places : (m f places : ℕ) → 2 ^ f < 10 ^ places → fewest_places m f ≤ places
few_places m f places steps =
    let powers = pow-le-pow_right {n = 10} (lit< tt) {i = suc places} {j = fewest_places m f} in
    grind (arith, powers, pow-suc 10 places, unit_is_below m f)

-- room for at most 20 digits in all
pub digits_fit : (m f : ℕ) → m ≤ 2 ^ 63 → f ≤ 30 → length (decimal (shown_whole m f)) + fewest_places m f ≤ 20
digits_fit m f small few =
    let p = fewest_places m f in
    let w = shown_whole m f in
    let places : p ≤ 10 = few_places m f 10 (omega (arith, pow-le-pow_right {n = 2} (omega arith) few)) in
    let split : 10 ^ 20 ≡ 10 ^ (20 - p) * 10 ^ p = ap (λ n. 10 ^ n) (let e : 20 ≡ 20 - p + p = omega arith in e)
    ∙ pow-add 10 (20 - p) p in
    let below : w * 10 ^ p < 10 ^ (20 - p) * 10 ^ p =
    omega (arith, whole_is_within m f, mul-le-mul_left w (unit_is_below m f)) in
    omega (
      arith,
      length-decimal-le (20 - p) w (omega arith) (lt_of_mul-lt-mul_right (10 ^ p) below)
          (whole_fits m f small),
    )

-- ---- the digits are written from the first one on
pub last_is : (p n : ℕ) → last_digits (suc p) n ≡ last_digits p (n / 10) ++ ((48 + n % 10) ∷ [])
last_is zero n = rw div-one
last_is (suc p) n =
    let power : 10 ^ suc p ≡ 10 * 10 ^ p = omega (arith, pow-suc 10 p) in
    rw (power, ← div-div-eq-div-mul n 10 (10 ^ p), last_is p n)

-- ---- for callers
-- a printed text parses as its value and no other
pub printed_rounds : (b : ℤ) (f : ℕ) → unsigned_abs b ≤ 2 ^ 63 → Rounds (shortest_text b f) f b
printed_rounds b f small = (shortest_is b f small).rounds

pub printed_reads_once : (b c : ℤ) (f : ℕ) → unsigned_abs b ≤ 2 ^ 63 → Rounds (shortest_text b f) f c → c ≡ b
printed_reads_once b c f small x = rounds_unique _ _ c b x (printed_rounds b f small)

pub printed_is_read : (b : ℤ) (f : ℕ) (min max : ℤ) (r : Result ℤ DecimalFault) → unsigned_abs b ≤ 2 ^ 63 → min ≤ℤ b
    → b ≤ℤ max
    → Parses (shortest_text b f) f min max r → r ≡ Ok b
printed_is_read b f min max r small low high x = reading_unique _ f min max r (Ok b) x
    (record { rounds = printed_rounds b f small; low = low; high = high })

-- distinct values print distinct texts
pub same_value : (b c : ℤ) (f : ℕ) → unsigned_abs b ≤ 2 ^ 63 → unsigned_abs c ≤ 2 ^ 63
    → shortest_text b f ≡ shortest_text c f → b ≡ c
same_value b c f small smaller e = printed_reads_once c b f smaller (rw e at (printed_rounds b f small))

-- no value prints `-0`
minus_zero : HasParts (45 ∷ 48 ∷ []) true (48 ∷ []) []
minus_zero = record { written = refl; whole_digits = (omega arith, (omega arith, tt)); fraction_digits = tt }

pub printed_is_not_minus_zero : (b : ℤ) (f : ℕ) → unsigned_abs b ≤ 2 ^ 63 → shortest_text b f ≢ 45 ∷ 48 ∷ []
printed_is_not_minus_zero b f small e =
    let p = (shortest_is b f small).plain in
    let d = rw e at p.decimal in
    let below = p.minus.0 (same_parts d.parts minus_zero).negative in
    let none = (decimal_unique _ _ _ _ _ d (decimal_of minus_zero)).numeral in
    omega (arith, ints)

-- ---- no printed text with a point ends in 0
no_point_at : (ds : List ℕ) (i : ℕ) → AllDigits 10 ds → get_or ds i 0 ≢ 46
no_point_at [] i h e = omega arith
no_point_at (c ∷ cs) zero h e = omega (arith, digit_from_value c h.0)
no_point_at (c ∷ cs) (suc i) h e = no_point_at cs i h.1 e

no_point_signed : (s : Bool) (ds : List ℕ) (i : ℕ) → AllDigits 10 ds → get_or (sign_text s ++ (ds ++ [])) i 0 ≢ 46
no_point_signed s ds i h e = grind (arith, nat_tests, no_point_at, append-nil)

last_byte : (s : Bool) (whole : List ℕ) (p n : ℕ) (front : List ℕ)
    → sign_text s ++ (whole ++ fraction_text (last_digits (suc p) n)) ≡ front ++ (48 ∷ []) → n % 10 ≡ 0
last_byte s whole p n front e =
    let ends = same_from_push (sign_text s ++ (whole ++ (46 ∷ last_digits p (n / 10)))) front (48 + n % 10) 48
    (simp append_assoc (rw (← last_is p n) e)) in
    omega (arith, ends.1)

ends_or_whole : (s : Bool) (m f p i : ℕ) (front : List ℕ) → IsFewest m f p → nearest_numeral m f p / 10 ^ p < 2 ^ 64
    → sign_text s ++ decimal_text (nearest_numeral m f p) p ≡ front ++ (48 ∷ [])
    → get_or (sign_text s ++ decimal_text (nearest_numeral m f p) p) i 0 ≢ 46
ends_or_whole s m f zero i front fewest small e = no_point_signed s _ i (decimal_is_IsNumeral _ small).0.1
ends_or_whole s m f (suc p) i front fewest small e = absurd (zero_drops fewest (last_byte s _ p _ front e))

pub zero_ends_no_fraction : (b : ℤ) (f i : ℕ) (front : List ℕ) → unsigned_abs b ≤ 2 ^ 63
    → shortest_text b f ≡ front ++ (48 ∷ []) → get_or (shortest_text b f) i 0 ≢ 46
unfolding shortest_text
zero_ends_no_fraction b f i front small e =
    ends_or_whole (is_negative b) _ _ _ i front (fewest_is _ f) (whole_fits _ f small) e

-- ---- the length of a printed text without its `-`
length-signed_body-le : (s : Bool) (body : List ℕ) → length (unsigned_body (sign_text s ++ body)) ≤ length body
length-signed_body-le s body = grind (arith, nat_tests)

-- at most 21 bytes, whatever the fraction
pub length-shortest_body-lt : (b : ℤ) (f : ℕ) → unsigned_abs b ≤ 2 ^ 63 → f ≤ 30
    → length (unsigned_body (shortest_text b f)) < 22
unfolding shortest_text
length-shortest_body-lt b f small few =
    grind (arith, nat_tests, digits_fit, point_length, length-signed_body-le, length-append)

-- if the integer is below `10 ^ digits` and a step is wider than `1 / 10 ^ places`: the digits, a point, and the places
pub length-shortest_body-le : (b : ℤ) (f digits places : ℕ) → unsigned_abs b ≤ 2 ^ 63 → 0 < digits
    → unsigned_abs b < 10 ^ digits * 2 ^ f → 2 ^ f < 10 ^ places
    → length (unsigned_body (shortest_text b f)) ≤ digits + places + 1
unfolding shortest_text
length-shortest_body-le b f digits places small some within steps =
    let m = unsigned_abs b in
    let below = lt_of_mul-lt-mul_right (2 ^ f) (lt_of_le_of_lt (whole_is_within m f) within) in
    omega (
      arith,
      length-decimal-le digits (shown_whole m f) some below (whole_fits m f small),
      few_places m f places steps,
      point_length (fewest_places m f) (shown_numeral m f),
      length-signed_body-le (is_negative b),
      length-append {A = ℕ},
    )

-- without fraction bits, the text is the digits of the integer
itself : (n : ℕ) → near_magnitude (n * 10 ^ 0) (2 ^ 0) ≡ n
itself n = omega arith

no_fraction : (n : ℕ) → decimal_text n 0 ≡ decimal n
no_fraction n = append-nil (decimal (n / 10 ^ 0)) ∙ ap decimal (div-one n)

no_sign : (n : ℕ) → sign_text (is_negative (pos n)) ≡ []
no_sign n = grind (arith, nat_tests)

pub integer_text : (n : ℕ) → shortest_text (pos n) 0 ≡ decimal n
unfolding shortest_text fewest_places
integer_text n = ap (λ sign. sign ++ decimal_text (near_magnitude (n * 10 ^ 0) (2 ^ 0)) 0) (no_sign n)
    ∙ ap (λ m. decimal_text m 0) (itself n) ∙ no_fraction n
