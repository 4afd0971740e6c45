-- The JSON form of each scalar, made of JSON's strings, numbers and objects. OpenType has no such form.
pub mod Laws
use Rattle.std.specs.Prelude.{◌≡◌, ℕ, ◌-◌, ◌^◌, ℤ, Bool, IsTrue, ◌&&◌, int_le, if◌then◌else◌, List, Option, Some, None}
use Rattle.std.specs.Prelude.{option_and_then, is_some, pos, IsUtf8, Result, Ok, Err, codes}
use Rattle.std.specs.Result.{result_map_both}
use Rattle.serde_json.specs.Data.{Data, object, member, no_members, number, unsigned}
use Rattle.serde_json.specs.Find.{as_number, as_integer, as_object, as_str, get, of_integer}
use Rattle.font_decimal.specs.{Grammar.IsNoDecimal, declared.reader.DecimalFault.DecimalFault}
use Rattle.font_fixed.specs.Operations.{ReadsBits, IsTooFar, least, greatest}
use Rattle.font_tags.specs.Tag.{tag_bytes, IsGood, IsAcceptable, filled}
use Rattle.font_tags.specs.{declared.tag.Tag.Tag, declared.version.MajorMinor.MajorMinor}
use Rattle.font_types.specs.declared.json.JsonFault.{JsonFault}
use Rattle.font_types.specs.declared.json.JsonFault.TheVariants.{Memory, WrongKind, OutOfRange, Syntax, NotUtf8}
use Rattle.font_types.specs.declared.json.JsonFault.TheVariants.{InvalidTag, MissingMember}

-- a JSON form of a type, which converts back to the value
pub record JsonForm (T : Type 0) : Type 1 where
  -- it is a value of the type
  pub is_value : T → Bool
  -- the JSON is the form of the value
  pub shows : T → Data → Type 0
  -- the conversion of the value may fail with this error
  pub refuses : T → JsonFault → Type 0
  -- the result of converting the JSON
  pub reads : Data → Result T JsonFault → Type 0
  -- the result of converting the form of a value back: the value, except for an invalid tag
  pub comes_back : T → Result T JsonFault → Type 0
  pub round_trip : (v : T) (d : Data) (result : Result T JsonFault) → IsTrue (is_value v) → shows v d → reads d result
      → comes_back v result

-- ---- integers

-- the JSON is the integer
abbrev pub IsNumber : ℤ → Data → Type 0
IsNumber z d = d ≡ number (of_integer z)

-- an integer is from `min` to `max` (decidable)
abbrev pub is_within : ℤ → ℤ → ℤ → Bool
is_within min max z = int_le min z && int_le z max

-- the integer if it is in that range
abbrev pub within_or_fault : ℤ → ℤ → ℤ → Result ℤ JsonFault
within_or_fault min max z = if is_within min max z then Ok z else Err OutOfRange

-- the integer if there is one and it is in range; none is `WrongKind`
abbrev pub number_or_fault : ℤ → ℤ → Option ℤ → Result ℤ JsonFault
number_or_fault min max None = Err WrongKind
number_or_fault min max (Some z) = within_or_fault min max z

-- the integer from `min` to `max` that the JSON is: anything else, including a float, is `WrongKind`
abbrev pub number_within : ℤ → ℤ → Data → Result ℤ JsonFault
number_within min max d = number_or_fault min max (option_and_then as_integer (as_number d))

-- the result of converting JSON to a type whose values are the integers from `min` to `max`
abbrev pub ConvertsInteger : {T : Type 0} → ℤ → ℤ → (T → ℤ) → Data → Result T JsonFault → Type 0
ConvertsInteger min max number_of d result = result_map_both number_of (λ fault. fault) result
    ≡ number_within min max d

-- an integer fits in w unsigned bits (decidable)
abbrev pub is_unsigned : ℕ → ℕ → Bool
is_unsigned w n = is_within (pos 0) (pos (2 ^ w - 1)) (pos n)

-- ---- decimals

-- the error of JSON for an error of parsing a decimal
abbrev pub json_fault : DecimalFault → JsonFault
json_fault DecimalFault.Syntax = Syntax
json_fault DecimalFault.OutOfRange = OutOfRange

-- the result of parsing a string as a w-bit type with f fraction bits
abbrev pub ConvertsDecimalText : ℕ → ℕ → List ℕ → Result ℤ JsonFault → Type 0
ConvertsDecimalText w f text (Ok b) = ReadsBits w f text b
ConvertsDecimalText w f text (Err Syntax) = IsNoDecimal text
ConvertsDecimalText w f text (Err OutOfRange) = IsTooFar w f text
ConvertsDecimalText w f text (Err _) = ⊥

-- the result of parsing the string, if there is one; otherwise `WrongKind`
abbrev pub ConvertsDecimalString : ℕ → ℕ → Option (List ℕ) → Result ℤ JsonFault → Type 0
ConvertsDecimalString w f None result = result ≡ Err WrongKind
ConvertsDecimalString w f (Some text) result = ConvertsDecimalText w f text result

-- the result of converting JSON to a w-bit type with f fraction bits
abbrev pub ConvertsDecimal : {T : Type 0} → ℕ → ℕ → (T → ℤ) → Data → Result T JsonFault → Type 0
ConvertsDecimal w f bits_of d result =
    ConvertsDecimalString w f (as_str d) (result_map_both bits_of (λ fault. fault) result)

-- ---- tags

-- how the conversion of a tag may fail: its bytes are not UTF-8, or out of memory
abbrev pub IsTagRefused : List ℕ → JsonFault → Type 0
IsTagRefused bytes Memory = IsUtf8 bytes
IsTagRefused bytes NotUtf8 = ¬ IsUtf8 bytes
IsTagRefused bytes _ = ⊥

-- the result of converting a string: the tag, if one can be created from its bytes
abbrev pub ConvertsTagText : List ℕ → Result Tag JsonFault → Type 0
ConvertsTagText text (Ok tag) = IsAcceptable text × (tag_bytes tag ≡ filled text)
ConvertsTagText text (Err InvalidTag) = ¬ IsAcceptable text
ConvertsTagText text (Err _) = ⊥

-- the result of converting the string, if there is one; otherwise `WrongKind`
abbrev pub ConvertsTagString : Option (List ℕ) → Result Tag JsonFault → Type 0
ConvertsTagString None result = result ≡ Err WrongKind
ConvertsTagString (Some text) result = ConvertsTagText text result

-- the result of converting the form of a tag back: the tag if it is valid
pub record TagComesBack (tag : Tag) (result : Result Tag JsonFault) : Type 0 where
  pub good : IsGood (tag_bytes tag) → result ≡ Ok tag
  pub other : ¬ IsGood (tag_bytes tag) → result ≡ Err InvalidTag

-- ---- versions

-- the form of a version: an object with two members
abbrev pub version_form : ℕ → ℕ → Data
version_form major minor = object
    (member (codes "major") (number (unsigned major)) (member (codes "minor") (number (unsigned minor)) no_members))

-- a member that is a 16-bit integer
abbrev pub member_or_fault : Option Data → Result ℤ JsonFault
member_or_fault None = Err MissingMember
member_or_fault (Some d) = number_within (pos 0) (pos 65535) d

abbrev pub member_number : List ℕ → Data → Result ℤ JsonFault
member_number name d = member_or_fault (get name d)

-- both numbers; an error of the first comes first
abbrev pub both_numbers : Result ℤ JsonFault → Result ℤ JsonFault → Result (ℤ × ℤ) JsonFault
both_numbers (Err fault) second = Err fault
both_numbers (Ok a) (Err fault) = Err fault
both_numbers (Ok a) (Ok b) = Ok (a, b)

-- the two numbers of an object, whose other members are ignored; other JSON is `WrongKind`
abbrev pub version_numbers : Data → Result (ℤ × ℤ) JsonFault
version_numbers d = if is_some (as_object d) then both_numbers (member_number (codes "major") d)
    (member_number (codes "minor") d) else Err WrongKind

-- the result of converting JSON to a `MajorMinor`
abbrev pub ConvertsVersion : Data → Result MajorMinor JsonFault → Type 0
ConvertsVersion d result = result_map_both {U = ℤ × ℤ} (λ version. (pos version.major, pos version.minor))
    (λ fault. fault) result ≡ version_numbers d
