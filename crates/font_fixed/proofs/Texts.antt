-- The result of parsing a decimal, from the number of the reader.
use Rattle.std.proofs.Common.{◌≡◌, ap, ℕ, ◌+◌, ◌*◌, ◌/◌, ◌^◌, ◌<◌, ◌≤◌, List, ℤ, ◌-◌, length, max, unsigned_abs, Option}
use Rattle.std.proofs.Common.{IsSome, Result, Ok, Err, IfOk, ◌↔◌, arith, Bool, IsTrue, nat_lt, ◌&&◌, pow_pos, SFits}
use Rattle.std.proofs.Common.{to_z, of_z, refl, zero, suc, true, inl, inr, pow-add, mul-lt-mul_of_pos_right, w64}
use Rattle.std.proofs.{lemmas.Bool.cases_lt, lemmas.Int.ints, lemmas.Bool.Decides.nat_tests}
use Rattle.font_fixed.specs.Operations.{least, greatest, ReadsBits, ParsesBits}
use Rattle.font_fixed.specs.{Longest.longest, Reading.ParsesFixedPoint}
use Rattle.std.specs.{Int.Width, Result.result_map_both}
use mir.Val.{bits, hbits}
use Rattle.font_base.proofs.Widths.{half_range-bits, signed_fits}
use Rattle.font_base.specs.Wrap.{FitsBits}
use Rattle.font_decimal.specs.declared.reader.DecimalFault.TheVariants.{Syntax, OutOfRange}
use Rattle.font_decimal.specs.{Reading.Reads, Shortest.shortest_text, declared.reader.DecimalFault.DecimalFault}
use Rattle.font_decimal.specs.{Padding.padded_text, declared.padding.Pad.Pad}
use Rattle.font_decimal.proofs.Printed.{length-shortest_body-le, printed_rounds}
use Rattle.font_decimal.proofs.{Padded.padded_fits, Readings.answers_as}

-- the number is cast to the type of the bits
pub cast_reads : (w : Width) (f : ℕ) (text : List ℕ) (b min max : ℤ) → 2 ^ hbits w ≤ 2 ^ 63 → min ≡ least (bits w)
    → max ≡ greatest (bits w) → Reads text f min max b
    → ReadsBits (bits w) f text (to_z w (of_z w (to_z w64 (of_z w64 b))))
cast_reads w f text b min max room low high reads = grind (arith, nat_tests)

-- the printed text of a number parses as that number
pub printed_reads : (w f : ℕ) (b : ℤ) → 2 ^ (w - 1) ≤ 2 ^ 63 → FitsBits w b → ReadsBits w f (shortest_text b f) b
printed_reads w f b room fits = grind (arith, ints, printed_rounds)

-- the greatest number of places that is printed: three for each ten fraction bits, and one
abbrev pub most_places : ℕ → ℕ
most_places f = f * 3 / 10 + 1

-- `room` bytes hold the text of each number of h bits and a sign, f of them fraction bits, unless a width asks for
-- more: besides a sign, a point and the places, there is room for the digits of the integer
abbrev pub is_room : ℕ → ℕ → ℕ → Bool
is_room h f room =
    nat_lt (2 ^ f) (10 ^ most_places f) && (nat_lt (2 ^ h) (10 ^ (room - (most_places f + 2)) * 2 ^ f)
    && nat_lt (most_places f + 2) room)

room_parts : (h f room : ℕ) → IsTrue (is_room h f room) → (2 ^ f < 10 ^ most_places f)
    × (2 ^ h < 10 ^ (room - (most_places f + 2)) * 2 ^ f)
    × (most_places f + 2 < room)
room_parts h f room test = grind (arith, nat_tests)

-- a buffer of `room` bytes, or of the requested width, is long enough
abbrev pub HasRoom : Width → Type 0
HasRoom w = (b : ℤ) (f room : ℕ) (pad : Pad) (old : List ℕ) (result : Option ℕ)
    → IsSome result ↔ (length (padded_text (shortest_text b f) pad) ≤ length old) → SFits w b
    → max room pad.width ≤ length old → IsTrue (is_room (hbits w) f room) → 2 ^ hbits w ≤ 2 ^ 63 → IsSome result

pub padded_has_room : (w : Width) → HasRoom w
padded_has_room w b f room pad old result long fits enough test small =
    let p : ℕ = most_places f in
    let parts = room_parts (hbits w) f room test in
    let magnitude : unsigned_abs b ≤ 2 ^ hbits w = omega (arith, ints, fits) in
    let body = length-shortest_body-le b f (room - (p + 2)) p (omega (arith, magnitude, small)) (omega (arith, parts))
    (omega (arith, magnitude, parts)) parts.0 in
    long.1 (padded_fits (shortest_text b f) pad room (length old) (omega (arith, body, parts)) enough)

-- ---- the longest text

-- n * 3 / 10 + 1 decimal digits are enough for n bits
abbrev enough : ℕ → Bool
enough n = nat_lt (2 ^ n) (10 ^ (n * 3 / 10 + 1))

abbrev enough_below : ℕ → Bool
enough_below zero = true
enough_below (suc n) = enough n && enough_below n

is_enough : (m n : ℕ) → IsTrue (enough_below m) → n < m → IsTrue (enough n)
is_enough zero n test less = absurd (omega (arith, less))
is_enough (suc m) n test less = elim (cases_lt n m) [
  | inl below ↦ is_enough m n (grind (arith, nat_tests, test)) below
  | inr above ↦ let is : n ≡ m = omega (arith, less, above) in rw is (grind (arith, nat_tests, test))
]

digits : (n : ℕ) → n < 64 → 2 ^ n < 10 ^ (n * 3 / 10 + 1)
digits n small = grind (arith, nat_tests, is_enough 64 n refl small)

pub has_room : (w f : ℕ) → f + 2 ≤ w → w ≤ 64 → IsTrue (is_room (w - 1) f (longest w f))
has_room w f few small = grind (arith, nat_tests, pow-add, digits, mul-lt-mul_of_pos_right, pow_pos)

-- ---- for a type: a result with the raw value in place of the number

abbrev pub as_bits : {T : Type 0} → (T → ℤ) → Result T DecimalFault → Result ℤ DecimalFault
as_bits bits_of result = result_map_both bits_of (λ fault. fault) result

same_result : {T : Type 0} (bits_of : T → ℤ) (of_bits : ℤ → T) → ((x : T) → of_bits (bits_of x) ≡ x)
    → (q r : Result T DecimalFault)
    → as_bits bits_of q ≡ as_bits bits_of r → q ≡ r
same_result bits_of of_bits back q r same = grind (arith, nat_tests)

if_ok_reads : {T : Type 0} (w f : ℕ) (bits_of : T → ℤ) (text : List ℕ) (q : Result T DecimalFault)
    → ParsesBits w f text (as_bits bits_of q)
    → IfOk q (λ x. ReadsBits w f text (bits_of x))
if_ok_reads w f bits_of text q gives = grind (arith, nat_tests)

-- the contract of parsing, from the result as a raw value
pub reads_by : {T : Type 0} (w : Width) (f : ℕ) (bits_of : T → ℤ) (of_bits : ℤ → T) (text : List ℕ)
    (q : Result T DecimalFault)
    → ((x : T) → of_bits (bits_of x) ≡ x) → 2 ^ hbits w ≤ 2 ^ 63 → ParsesBits (bits w) f text (as_bits bits_of q)
    → ParsesFixedPoint w f bits_of text q
reads_by {T} w f bits_of of_bits text q back room gives =
    let half : 2 ^ (bits w - 1) ≤ 2 ^ 63 = rw (half_range-bits w) room in
    let only : (r : Result T DecimalFault) → (q ≡ r) ↔ ParsesBits (bits w) f text (as_bits bits_of r)
    = λ r. let answer = answers_as text f (least (bits w)) (greatest (bits w)) (as_bits bits_of q)
    (as_bits bits_of r) gives in
    (λ same. answer.0 (ap (as_bits bits_of) same), λ other. same_result bits_of of_bits back q r (answer.1 other)) in
    record {
      ok = λ x. only (Ok x);
      reads = if_ok_reads (bits w) f bits_of text q gives;
      gives = gives;
      printed = λ x fits same. (only (Ok x)).1
          (rw same (printed_reads (bits w) f (bits_of x) half (signed_fits w (bits_of x) fits)));
      out_of_range = only (Err OutOfRange);
      syntax = only (Err Syntax);
    }
