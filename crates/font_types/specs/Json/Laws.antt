-- JSON forms convert back.
use Rattle.std.proofs.Common.{◌≡◌, ap, ℕ, ◌-◌, ◌^◌, ◌≤◌, ℤ, pos, List, length, nat_lt, IsUtf8, IsTrue, Result, Ok, Err}
use Rattle.std.proofs.Common.{◌&&◌, arith, append-nil}
use Rattle.std.specs.Result.{result_map_both}
use Rattle.serde_json.specs.{Data.Data, Data.string, Find.as_str}
use Rattle.font_base.specs.{Wrap.fits_bits, Wrap.Laws.fits_bits-true, Bytes.are_bytes}
use Rattle.font_decimal.specs.Shortest.{shortest_text}
use Rattle.font_decimal.proofs.Readings.{rounds_unique, not_outside}
use Rattle.font_fixed.specs.Operations.{ReadsBits, least, greatest}
use Rattle.font_fixed.proofs.Texts.{printed_reads}
use Rattle.font_types.specs.declared.json.JsonFault.{JsonFault}
use Rattle.font_types.specs.declared.json.JsonFault.TheVariants.{Memory, WrongKind, OutOfRange, Syntax, NotUtf8}
use Rattle.font_types.specs.declared.json.JsonFault.TheVariants.{InvalidTag, MissingMember}
use Rattle.font_types.specs.Json.{JsonForm, IsTagRefused, IsNumber, is_within, ConvertsInteger, ConvertsDecimalText}
use Rattle.font_types.specs.Json.{ConvertsDecimal, ConvertsTagString, TagComesBack, version_form, ConvertsVersion}
use Rattle.font_tags.specs.{declared.tag.Tag.Tag, declared.version.MajorMinor.MajorMinor, Tag.tag_bytes, Tag.filled}

-- a printed value parses back
text_reads_back : (w f : ℕ) (text : List ℕ) (b : ℤ) (result : Result ℤ JsonFault) → ReadsBits w f text b
    → ConvertsDecimalText w f text result → result ≡ Ok b
text_reads_back w f text b (Ok c) reads read = ap Ok (rounds_unique text f c b read.rounds reads.rounds)
text_reads_back w f text b (Err Syntax) reads read = absurd
    (read reads.rounds.numeral reads.rounds.places reads.rounds.decimal)
text_reads_back w f text b (Err OutOfRange) reads read = absurd (not_outside f text (least w) (greatest w) b reads read)
text_reads_back w f text b (Err Memory) reads read = absurd read
text_reads_back w f text b (Err WrongKind) reads read = absurd read
text_reads_back w f text b (Err NotUtf8) reads read = absurd read
text_reads_back w f text b (Err InvalidTag) reads read = absurd read
text_reads_back w f text b (Err MissingMember) reads read = absurd read

-- parsing the raw value gives the value
same_read : {T : Type 0} (bits_of : T → ℤ) (of_bits : ℤ → T) → ((x : T) → of_bits (bits_of x) ≡ x)
    → (x : T) (result : Result T JsonFault)
    → result_map_both bits_of (λ fault. fault) result ≡ Ok (bits_of x) → result ≡ Ok x
same_read bits_of of_bits back x v4 same = grind arith

-- a fixed-point number
pub fixed_round_trip : {T : Type 0} (w f : ℕ) (bits_of : T → ℤ) (of_bits : ℤ → T) → ((x : T) → of_bits (bits_of x) ≡ x)
    → 2 ^ (w - 1) ≤ 2 ^ 63
    → (x : T) (d : Data) (result : Result T JsonFault) → IsTrue (fits_bits w (bits_of x))
    → d ≡ string (shortest_text (bits_of x) f)
    → ConvertsDecimal w f bits_of d result → result ≡ Ok x
fixed_round_trip w f bits_of of_bits back room x d result value shown read =
    let text : ConvertsDecimalText w f (shortest_text (bits_of x) f) (result_map_both bits_of (λ fault. fault) result) =
    rw shown at read in
    same_read bits_of of_bits back x result
    (text_reads_back w f (shortest_text (bits_of x) f) (bits_of x) _
    (printed_reads w f (bits_of x) room (fits_bits-true w (bits_of x) value)) text)

-- its shortest decimal
abbrev pub fixed_form : {T : Type 0} (w f : ℕ) (bits_of : T → ℤ) (of_bits : ℤ → T) → ((x : T) → of_bits (bits_of x) ≡ x)
    → 2 ^ (w - 1) ≤ 2 ^ 63 → JsonForm T
fixed_form w f bits_of of_bits back room = record {
  is_value = λ x. fits_bits w (bits_of x);
  shows = λ x d. d ≡ string (shortest_text (bits_of x) f);
  refuses = λ _ fault. fault ≡ Memory;
  reads = λ d result. ConvertsDecimal w f bits_of d result;
  comes_back = λ x result. result ≡ Ok x;
  round_trip = fixed_round_trip w f bits_of of_bits back room;
}

-- ---- integers

-- a value that is determined by its integer
pub number_round_trip : {T : Type 0} (number_of : T → ℤ) → ((x y : T) → number_of x ≡ number_of y → x ≡ y)
    → (min max : ℤ) (x : T) (d : Data) (result : Result T JsonFault)
    → IsTrue (is_within min max (number_of x)) → IsNumber (number_of x) d → ConvertsInteger min max number_of d result
    → result ≡ Ok x
number_round_trip number_of same min max x d v6 within shown read = grind arith

abbrev pub number_form : {T : Type 0} (min max : ℤ) (number_of : T → ℤ)
    → ((x y : T) → number_of x ≡ number_of y → x ≡ y) → JsonForm T
number_form min max number_of same = record {
  is_value = λ x. is_within min max (number_of x);
  shows = λ x d. IsNumber (number_of x) d;
  refuses = λ _ _. ⊥;
  reads = λ d result. ConvertsInteger min max number_of d result;
  comes_back = λ x result. result ≡ Ok x;
  round_trip = number_round_trip number_of same min max;
}

-- the forms of w-bit signed and unsigned integers
abbrev pub signed_form : {T : Type 0} (w : ℕ) (number_of : T → ℤ) → ((x y : T) → number_of x ≡ number_of y → x ≡ y)
    → JsonForm T
signed_form w = number_form (least w) (greatest w)

pub same_natural : {T : Type 0} (number_of : T → ℕ) → ((x y : T) → number_of x ≡ number_of y → x ≡ y) → (x y : T)
    → pos (number_of x) ≡ pos (number_of y) → x ≡ y
same_natural number_of same x y equal = let numbers : number_of x ≡ number_of y = cc in same x y numbers

abbrev pub unsigned_form : {T : Type 0} (w : ℕ) (number_of : T → ℕ) → ((x y : T) → number_of x ≡ number_of y → x ≡ y)
    → JsonForm T
unsigned_form w number_of same = number_form (pos 0) (pos (2 ^ w - 1)) (λ x. pos (number_of x))
    (same_natural number_of same)

-- ---- tags

-- four bytes need no padding
unfilled : (bytes : List ℕ) → length bytes ≡ 4 → filled bytes ≡ bytes
unfilled bytes many = grind (arith, append-nil)

pub tag_round_trip : (tag : Tag) (d : Data) (result : Result Tag JsonFault) → IsTrue (are_bytes 4 (tag_bytes tag))
    → (IsUtf8 (tag_bytes tag) × (d ≡ string (tag_bytes tag)))
    → ConvertsTagString (as_str d) result → TagComesBack tag result
tag_round_trip tag d result value shown read = grind (arith, unfilled)

abbrev pub tag_form : JsonForm Tag
tag_form = record {
  is_value = λ tag. are_bytes 4 (tag_bytes tag);
  shows = λ tag d. IsUtf8 (tag_bytes tag) × (d ≡ string (tag_bytes tag));
  refuses = λ tag fault. IsTagRefused (tag_bytes tag) fault;
  reads = λ d result. ConvertsTagString (as_str d) result;
  comes_back = TagComesBack;
  round_trip = tag_round_trip;
}

-- ---- versions

pub version_round_trip : (version : MajorMinor) (d : Data) (result : Result MajorMinor JsonFault)
    → IsTrue (nat_lt version.major (2 ^ 16) && nat_lt version.minor (2 ^ 16))
    → d ≡ version_form version.major version.minor → ConvertsVersion d result → result ≡ Ok version
version_round_trip version d result value shown read = grind arith

abbrev pub version_form_of : JsonForm MajorMinor
version_form_of = record {
  is_value = λ version. nat_lt version.major (2 ^ 16) && nat_lt version.minor (2 ^ 16);
  shows = λ version d. d ≡ version_form version.major version.minor;
  refuses = λ _ fault. fault ≡ Memory;
  reads = λ d result. ConvertsVersion d result;
  comes_back = λ x result. result ≡ Ok x;
  round_trip = version_round_trip;
}
