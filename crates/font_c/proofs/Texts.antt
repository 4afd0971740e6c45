-- Buffers that are long enough for a decimal.
use Rattle.std.proofs.Common.{ℕ, ◌<◌, ◌≤◌, ℤ, max, List, length, arith, SFits}
use Rattle.std.specs.Int.{w64}
use borrow.Author.Differences.{ints, abs_is}
use Rattle.font_types.specs.{Padding.padded_text, Padding.unsigned_body, declared.Pad.Pad, Shortest.shortest_text}
use Rattle.font_decimal.proofs.{Padded.padded_fits, Printed.length-shortest_body-lt}

-- the text of a 64-bit number has fewer than 22 bytes after its `-`
pub printed_is_short : (b : ℤ) (f : ℕ) → SFits w64 b → f ≤ 30 → length (unsigned_body (shortest_text b f)) < 22
printed_is_short b f fits few = length-shortest_body-lt b f (omega (arith, ints, fits, abs_is b)) few

-- padded, it fits in 22 bytes, unless the width is greater
pub short_text_fits : (text : List ℕ) (pad : Pad) (n : ℕ) → length (unsigned_body text) < 22
    → max 22 pad.width ≤ n → length (padded_text text pad) ≤ n
short_text_fits text pad n short enough = padded_fits text pad 22 n short enough
