-- Each text has exactly one result: a value, out of range, or not a decimal.
use Rattle.std.proofs.Common.{◌≡◌, ℕ, ◌+◌, ◌*◌, ◌/◌, ◌^◌, ◌<◌, ◌↔◌, ◌⊎◌, Bool, List, ◌++◌, length, min, ℤ, refl, ap}
use Rattle.std.proofs.Common.{arith, Option, Result, Ok, Err, SomeIff, FitsSigned, ◌≤ℤ◌, ok_or, w64, pow-add}
use Rattle.std.proofs.{lemmas.Bool.Decides.nat_tests, lemmas.Int.ints}
use Rattle.std.specs.Str.Parse.{digits_value}
use Rattle.font_decimal.specs.Reading.{Rounds, Reads, IsOutOfRange, Parses}
use Rattle.font_decimal.specs.declared.reader.DecimalFault.TheVariants.{Syntax, OutOfRange}
use Rattle.font_decimal.specs.{Near.signed, Grammar.HasParts, declared.reader.DecimalFault.DecimalFault}
use Rattle.font_decimal.proofs.Near.{near_from, near_unique, signed_times}
use Rattle.font_decimal.proofs.Texts.{decimal_of, decimal_unique}
use Rattle.font_decimal.proofs.{Digits.digits_value-append, Rounding.half_units_halved, Units.ten_pos}

-- a text rounds to one number
pub rounds_unique : (text : List ℕ) (f : ℕ) (b c : ℤ) → Rounds text f b → Rounds text f c → b ≡ c
rounds_unique text f b c x y =
    let same = decimal_unique text _ _ _ _ x.decimal y.decimal in
    near_unique _ _ b c (ten_pos x.places) x.nearest (rw (← same.numeral, ← same.places) at y.nearest)

-- the nearest number of units, by the half units of the fraction
pub rounds_by : {text : List ℕ} {s : Bool} {w e : List ℕ} (f : ℕ) → HasParts text s w e
    → Rounds text f (signed s (digits_value 10 w * 2 ^ f + (digits_value 10 e * 2 ^ (f + 1) / 10 ^ length e + 1) / 2))
rounds_by {s = s} {w = w} {e = e} f parts =
    let k = length e in
    let units : 2 ^ (f + 1) ≡ 2 * 2 ^ f = rw (pow-add 2 f 1) (omega arith) in
    let fraction = rw (← units) at (half_units_halved (digits_value 10 e) (10 ^ k) (2 ^ f) (ten_pos k)) in
    record {
      numeral = signed s (digits_value 10 (w ++ e));
      places = k;
      decimal = decimal_of parts;
      nearest = rw (digits_value-append w e, signed_times) (near_from s _ _ _ (ten_pos k) (omega arith));
    }

-- the number that is read is in range, and no other number is read
pub not_outside : (f : ℕ) (text : List ℕ) (min max b : ℤ) → Reads text f min max b → IsOutOfRange text f min max → ⊥
not_outside f text min max b x y =
    let same = rounds_unique text f b y.nearest x.rounds y.rounds in grind (arith, ints)

-- a text has one result
pub reading_unique : (text : List ℕ) (f : ℕ) (min max : ℤ) (q r : Result ℤ DecimalFault) → Parses text f min max q
    → Parses text f min max r → q ≡ r
reading_unique text f _ _ (Ok b) (Ok c) x y = ap Ok (rounds_unique text f b c x.rounds y.rounds)
reading_unique _ _ _ _ (Ok b) (Err Syntax) x y = absurd (y _ _ x.rounds.decimal)
reading_unique _ _ _ _ (Ok b) (Err OutOfRange) x y = absurd (not_outside _ _ _ _ _ x y)
reading_unique _ _ _ _ (Err Syntax) (Ok c) x y = absurd (x _ _ y.rounds.decimal)
reading_unique _ _ _ _ (Err Syntax) (Err Syntax) x y = refl
reading_unique _ _ _ _ (Err Syntax) (Err OutOfRange) x y = absurd (x _ _ y.rounds.decimal)
reading_unique _ _ _ _ (Err OutOfRange) (Ok c) x y = absurd (not_outside _ _ _ _ _ y x)
reading_unique _ _ _ _ (Err OutOfRange) (Err Syntax) x y = absurd (y _ _ x.rounds.decimal)
reading_unique _ _ _ _ (Err OutOfRange) (Err OutOfRange) x y = refl

-- and so the result determines whether it is a value
pub answers_as : (text : List ℕ) (f : ℕ) (min max : ℤ) (q r : Result ℤ DecimalFault) → Parses text f min max q
    → (q ≡ r) ↔ Parses text f min max r
answers_as text f min max q r x =
    (λ e. rw e at x, λ y. reading_unique text f min max q r x y)

-- the test of the range holds of both of two numbers of units that are equal or both above 2^63, or of neither
pub judged_by_range : (text : List ℕ) (f : ℕ) (s : Bool) (n units : ℕ) (min max : ℤ) (r : Option ℤ)
    → FitsSigned w64 min → FitsSigned w64 max → (n ≡ units) ⊎ ((2 ^ 63 < n) × (2 ^ 63 < units))
    → Rounds text f (signed s units)
    → SomeIff r ((min ≤ℤ signed s n) × (signed s n ≤ℤ max)) (signed s n) → Parses text f min max (ok_or r OutOfRange)
judged_by_range text f s n units min max r least most same rounds given = grind (arith, nat_tests)
