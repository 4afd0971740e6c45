-- A text that is padded to a width. OpenType has no such rule; std's format specifications have the same alignments.
use Rattle.std.specs.Prelude.{◌≡◌, ℕ, ◌+◌, ◌-◌, ◌/◌, Bool, List, [], ◌∷◌, ◌++◌, length, drop, replicate, slice_index}
use Rattle.std.specs.Prelude.{◌==◌, if◌then◌else◌}
use Rattle.font_decimal.specs.declared.padding.Align.TheVariants.{Left, Right, Center}
use Rattle.font_decimal.specs.{declared.padding.Align.Align, declared.padding.Pad.Pad}

-- the text begins with a `-`
abbrev pub has_minus : List ℕ → Bool
has_minus text = slice_index text 0 == 45

-- the sign to write: the text's own `-`, otherwise a `+` if requested
abbrev pub shown_sign : Bool → List ℕ → List ℕ
shown_sign plus text = if has_minus text then 45 ∷ [] else (if plus then 43 ∷ [] else [])

-- the text without its `-`
abbrev pub unsigned_body : List ℕ → List ℕ
unsigned_body text = if has_minus text then drop 1 text else text

-- how many padding bytes go on the left
abbrev pub spare_in_front : Align → ℕ → ℕ
spare_in_front Left spare = 0
spare_in_front Right spare = spare
spare_in_front Center spare = spare / 2

-- the sign and the body with `spare` padding bytes: zeros between the two, or fill around them
abbrev pub laid_out : Pad → List ℕ → List ℕ → ℕ → List ℕ
laid_out pad sign body spare =
    let front = spare_in_front pad.align spare in
    if pad.zeros then sign ++ (replicate spare 48 ++ body)
    else replicate front pad.fill ++ (sign ++ (body ++ replicate (spare - front) pad.fill))

-- the text, padded to the width if it is shorter
unfoldable pub padded_text : List ℕ → Pad → List ℕ
padded_text text pad =
    let sign = shown_sign pad.plus text in
    let body = unsigned_body text in
    laid_out pad sign body (pad.width - (length sign + length body))

-- the first n elements of the new list are the text, and the rest is unchanged
pub record FillsFront (text : List ℕ) (n : ℕ) (old new : List ℕ) : Type 0 where
  pub count : n ≡ length text
  pub bytes : new ≡ text ++ drop n old
