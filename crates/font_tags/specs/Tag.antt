-- Four-byte tags (OpenType, data types: Tag, "Array of four uint8s (length = 32 bits) used to identify a table,
-- design-variation axis, script, language system, feature, or baseline").
pub mod Laws
use Rattle.std.specs.Prelude.{◌≡◌, ◌≢◌, ℕ, ◌+◌, ◌-◌, ◌/◌, ◌%◌, ◌<◌, ◌≤◌, ◌⊎◌, List, [], ◌∷◌, ◌++◌, length, take}
use Rattle.std.specs.Prelude.{replicate, All, slice_index, nat_le, ◌&&◌, true, if◌then◌else◌, Result, Ok, Err, codes}
use Rattle.std.specs.{List.flat_map, Fmt.digit_glyph}
use Rattle.font_tags.specs.declared.tag.InvalidTag.TheVariants.{InvalidLength, InvalidByte, ByteAfterSpace}
use Rattle.font_tags.specs.{declared.tag.Tag.Tag, declared.tag.InvalidTag.InvalidTag}

-- the four bytes of a tag
abbrev pub tag_bytes : Tag → List ℕ
tag_bytes tag = tag.0

-- the tag with these bytes
abbrev pub tag_of : List ℕ → Tag
tag_of bytes = record { 0 = bytes }

-- four spaces, which mean no tag
abbrev pub four_spaces : List ℕ
four_spaces = replicate 4 0x20

-- a printable byte other than the space
-- (OpenType: the bytes of a tag are printable ASCII characters, from 0x20, the space, to 0x7E)
abbrev pub IsVisible : ℕ → Type 0
IsVisible byte = (0x21 ≤ byte) × (byte ≤ 0x7E)

-- a valid list of bytes, of any length: one or more visible bytes, followed by any number of spaces
-- (OpenType: a tag has one to four printable characters, padded with trailing spaces)
pub record IsGood (bytes : List ℕ) : Type 0 where
  pub run : List ℕ
  pub spaces : ℕ
  pub nonempty : 0 < length run
  pub visible : All IsVisible run
  pub whole : bytes ≡ run ++ replicate spaces 0x20

-- the index of the first invalid byte: the least index such that the bytes up to and including it are not valid
pub record IsFault (bytes : List ℕ) (index : ℕ) : Type 0 where
  pub within : index < length bytes
  pub fails : ¬ IsGood (take (index + 1) bytes)
  pub least : (i : ℕ) → i < index → IsGood (take (i + 1) bytes)

-- a tag has one to four bytes
abbrev pub IsTagLength : ℕ → Type 0
IsTagLength n = (0 < n) × (n ≤ 4)

-- bytes from which a tag can be created
abbrev pub IsAcceptable : List ℕ → Type 0
IsAcceptable bytes = IsTagLength (length bytes) × IsGood bytes

-- bytes padded to four with spaces
abbrev pub filled : List ℕ → List ℕ
filled bytes = bytes ++ replicate (4 - length bytes) 0x20

-- the result of `new_checked`: the length is checked first, and then the first invalid byte is `InvalidByte`, whatever
-- it is
abbrev pub IsChecked : List ℕ → Result Tag InvalidTag → Type 0
IsChecked bytes (Ok tag) = IsAcceptable bytes × (tag_bytes tag ≡ filled bytes)
IsChecked bytes (Err (InvalidLength n)) = (¬ IsTagLength (length bytes)) × (n ≡ length bytes)
IsChecked bytes (Err (InvalidByte index byte)) = IsTagLength (length bytes) × IsFault bytes index
    × (byte ≡ slice_index bytes index)
IsChecked bytes (Err (ByteAfterSpace index)) = ⊥

-- the result of `validate`: four spaces have length 0, and if the first invalid byte is visible, it follows a space
abbrev pub IsValidated : List ℕ → Result (Unit {0}) InvalidTag → Type 0
IsValidated bytes (Ok _) = IsGood bytes
IsValidated bytes (Err (InvalidLength n)) = (bytes ≡ four_spaces) × (n ≡ 0)
IsValidated bytes (Err (InvalidByte index byte)) = (bytes ≢ four_spaces) × IsFault bytes index × (¬ IsVisible byte)
    × (byte ≡ slice_index bytes index)
IsValidated bytes (Err (ByteAfterSpace index)) = IsFault bytes index × IsVisible (slice_index bytes index)

-- the text of a byte: 0x20 to 0x7E as it is, any other as `{0xNN}` with two uppercase hexadecimal digits (own)
abbrev pub byte_text : ℕ → List ℕ
byte_text byte = if nat_le 0x20 byte && nat_le byte 0x7E then byte ∷ [] else codes "{0x" ++ digit_glyph true (byte / 16)
    ∷ digit_glyph true (byte % 16) ∷ codes "}"

-- the text of a tag
abbrev pub tag_text : List ℕ → List ℕ
tag_text bytes = flat_map byte_text bytes
