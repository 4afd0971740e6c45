-- The printed text of tags.
use Rattle.std.proofs.Common.{◌≡◌, ℕ, ◌/◌, ◌%◌, ◌<◌, ◌⊎◌, true, arith, List, [], ◌∷◌, ◌+◌, length, take}
use Rattle.std.proofs.Common.{get_or, append-nil}
use Rattle.std.proofs.lemmas.List.{take_more}
use Rattle.std.proofs.{lemmas.Bool.Decides.nat_tests, lemmas.Grind.flat_map-append}
use Rattle.std.specs.Fmt.{digit_glyph, HasWrittenStyled}
use Rattle.font_tags.specs.Tag.{byte_text, tag_text}
use Rattle.font_tags.proofs.Written.{then_written}

-- a byte outside 0x20 to 0x7E
abbrev pub IsHidden : ℕ → Type 0
IsHidden byte = (byte < 0x20) ⊎ (0x7E < byte)

pub byte_text-hidden : (byte : ℕ) → IsHidden byte → byte_text byte ≡ 123 ∷ 48 ∷ 120 ∷ digit_glyph true (byte / 16)
    ∷ digit_glyph true (byte % 16) ∷ 125 ∷ []
byte_text-hidden byte hidden = grind (arith, nat_tests)

-- the parts of a hidden byte
pub hidden_written : {W : Type 0} (took : W → List ℕ → W → Type 0) (f g h i k : _) (byte : ℕ) → IsHidden byte
    → HasWrittenStyled {W = W} took f (123 ∷ 48 ∷ 120 ∷ []) g
    → HasWrittenStyled took g (digit_glyph true (byte / 16) ∷ []) h
    → HasWrittenStyled took h (digit_glyph true (byte % 16) ∷ []) i → HasWrittenStyled took i (125 ∷ []) k
    → HasWrittenStyled took f (byte_text byte) k
hidden_written took f g h i k byte hidden one two three four = rw (byte_text-hidden byte hidden)
    (then_written took f g k _ _ one (then_written took g h k _ _ two (then_written took h i k _ _ three four)))

-- one byte more of a tag
pub one_more_byte : {W : Type 0} (took : W → List ℕ → W → Type 0) (f g h : _) (bytes : List ℕ) (i : ℕ) → i < length bytes
    → HasWrittenStyled {W = W} took f (tag_text (take i bytes)) g → HasWrittenStyled took g (byte_text (get_or bytes i 0)) h
    → HasWrittenStyled took f (tag_text (take (i + 1) bytes)) h
one_more_byte took f g h bytes i inside first second =
    rw (take_more bytes i 0 inside, flat_map-append byte_text (take i bytes) (get_or bytes i 0 ∷ []), append-nil)
    (then_written took f g h _ _ first second)

pub ruleset styled_steps = (then_written, hidden_written, one_more_byte)
