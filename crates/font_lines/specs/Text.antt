-- The lines of an input and the words of a line, by the program's own rule.
use Rattle.std.specs.Prelude.{ℕ, ◌==◌, ◌||◌, Bool, true, false, if◌then◌else◌, List, [], ◌∷◌, filter, drop}
use Rattle.std.specs.List.{onto_first, position_or_len, slice_split}

-- whether a byte is a line feed, which ends a line
abbrev pub is_line_feed : ℕ → Bool
is_line_feed byte = byte == 10

-- The lines of an input, without their line feeds. The last line may lack its line feed, and after
-- the last line feed there is no line.
unfoldable pub lines_of : List ℕ → List (List ℕ)
lines_of [] = []
lines_of (byte ∷ rest) =
    if is_line_feed byte then [] ∷ lines_of rest else onto_first byte (lines_of rest)

-- whether a byte separates words: a space, a tab or a carriage return
abbrev pub is_blank : ℕ → Bool
is_blank byte = byte == 32 || byte == 9 || byte == 13

-- whether there is anything in a list of bytes
abbrev pub is_nonempty : List ℕ → Bool
is_nonempty [] = false
is_nonempty (byte ∷ rest) = true

-- the words of a line: its longest runs of bytes that are not blank
unfoldable pub words_of : List ℕ → List (List ℕ)
words_of line = filter is_nonempty (slice_split is_blank line)

-- the bytes from the first one on that passes the test
abbrev pub from_first : (ℕ → Bool) → List ℕ → List ℕ
from_first test bytes = drop (position_or_len test bytes) bytes
