-- The text of a `Shortest`.
use Rattle.std.specs.Prelude.{ℕ, ◌-◌, List, take, drop}
use Rattle.font_decimal.specs.declared.shortest.Shortest.{Shortest}

-- its bytes from the start of the text to the end
unfoldable pub shown : Shortest → List ℕ
shown s = take (s.end - s.start) (drop s.start s.bytes)
