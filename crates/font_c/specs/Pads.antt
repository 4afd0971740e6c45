-- A padding that a C program asks for: its fields, and the text that it gives. OpenType has no padding.
use Rattle.std.specs.Prelude.{◌≡◌, ◌<◌, ◌≤◌, ℕ, zero, suc, ℤ, List, length, max, Bool, true, false}
use Rattle.font_types.specs.declared.Align.TheVariants.{Left, Center, Right}
use Rattle.font_types.specs.{Padding.padded_text, Shortest.shortest_text, declared.Align.Align, declared.Pad.Pad}
use Rattle.font_c.specs.{declared.format.FontPad.FontPad, Status.bad_pad, Texts.WritesText}

-- the alignment is one of three, and the fill is ASCII
abbrev pub IsPad : FontPad → Type 0
IsPad pad = (pad.align < 3) × (pad.fill < 128)

-- 0 is left, 1 center, 2 right
abbrev pub align_of : ℕ → Align
align_of zero = Left
align_of (suc zero) = Center
align_of (suc (suc n)) = Right

-- a flag is set unless its byte is 0
abbrev pub flag_of : ℕ → Bool
flag_of zero = false
flag_of (suc n) = true

-- the fill byte; 0 is a space
abbrev pub fill_of : ℕ → ℕ
fill_of zero = 32
fill_of (suc n) = suc n

-- the padding
abbrev pub pad_of : FontPad → Pad
pad_of pad = record {
  width = pad.width;
  fill = fill_of pad.fill;
  align = align_of pad.align;
  plus = flag_of pad.plus;
  zeros = flag_of pad.zeros;
}

-- the padded shortest decimal of b / 2^f is written, for which 22 bytes, or the width if that is more, are enough; if
-- the padding is invalid, the status says so, and all is unchanged
pub record WritesPadded (b : ℤ) (f : ℕ) (pad : FontPad) (status old_count new_count : ℕ)
    (old new : List ℕ) : Type 0 where
  pub text : IsPad pad → WritesText (padded_text (shortest_text b f) (pad_of pad)) status old_count new_count old new
  pub enough : IsPad pad → max 22 pad.width ≤ length old → status ≡ 0
  pub refused : ¬ IsPad pad → status ≡ bad_pad
  pub kept : ¬ IsPad pad → (new_count ≡ old_count) × (new ≡ old)
