-- The buffer in which a C program gets the text of a tag.
use Rattle.std.specs.Prelude.{ℕ, List, take}
use Rattle.font_c.specs.declared.tag_text.TagText.{TagText}

-- the text written so far
abbrev pub made_text : TagText → List ℕ
made_text text = take text.len text.bytes
