-- Tags of C: 32-bit numbers with the big-endian bytes of the tag. (OpenType, data types: a Tag is an array of four
-- uint8s.) OpenType has no statuses.
use Rattle.std.specs.Prelude.{◌≡◌, ◌≢◌, ℕ, pos, ◌⊎◌, List, length, slice_index}
use Rattle.font_c.specs.Status.{tag_length, tag_byte, tag_after_space}
use Rattle.font_types.specs.Bytes.{numeral, bytes_of}
use Rattle.font_types.specs.Tag.{IsAcceptable, IsTagLength, IsGood, IsFault, IsVisible, filled, four_spaces}

-- the four bytes of a tag
abbrev pub number_bytes : ℕ → List ℕ
number_bytes tag = bytes_of 4 (pos tag)

-- the tag of one to four bytes is stored and the status is 0 if they are valid; otherwise it says whether the number of
-- bytes is wrong, or a byte
pub record StoresTag (bytes : List ℕ) (status old new : ℕ) : Type 0 where
  pub made : status ≡ 0 → IsAcceptable bytes × (new ≡ numeral (filled bytes))
  pub count : status ≡ tag_length → ¬ IsTagLength (length bytes)
  pub byte : status ≡ tag_byte → IsTagLength (length bytes) × (¬ IsGood bytes)
  pub known : (status ≡ 0) ⊎ ((status ≡ tag_length) ⊎ (status ≡ tag_byte))
  pub kept : status ≢ 0 → new ≡ old

-- the status is 0 for a valid tag, and otherwise says whether all four bytes are spaces; the first invalid byte, whose
-- index is stored, is not visible; or it is, and follows a space
pub record ValidatesTag (bytes : List ℕ) (status old new : ℕ) : Type 0 where
  pub good : status ≡ 0 → IsGood bytes
  pub count : status ≡ tag_length → bytes ≡ four_spaces
  pub byte : status ≡ tag_byte
      → (bytes ≢ four_spaces) × IsFault bytes new × (¬ IsVisible (slice_index bytes new))
  pub after_space : status ≡ tag_after_space → IsFault bytes new × IsVisible (slice_index bytes new)
  pub known : (status ≡ 0) ⊎ ((status ≡ tag_length) ⊎ ((status ≡ tag_byte) ⊎ (status ≡ tag_after_space)))
  pub kept : (status ≡ 0) ⊎ (status ≡ tag_length) → new ≡ old
