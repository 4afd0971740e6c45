use Rattle.std.proofs.Common.{◌-◌, ◌≤◌, ◌<◌, ℕ}
use Rattle.font_types.specs.Array.{array_len, element_bytes}
use Rattle.callers.specs.Reader.{first_character, last_character, AreInOrder}
use Rattle.callers.proofs.reader.group_index.Given as goal

abbrev pub invariant-loop-low : goal.invariant-loop-low
invariant-loop-low l = (l.low ≤ l.high) × (l.high ≤ array_len l.groups)
    × (AreInOrder (element_bytes l.groups) (array_len l.groups)
    → (k : ℕ) → k < l.low → last_character (element_bytes l.groups k) < l.character)
    × (AreInOrder (element_bytes l.groups) (array_len l.groups)
    → (k : ℕ) → l.high ≤ k → k < array_len l.groups → l.character < first_character (element_bytes l.groups k))

abbrev pub decreases-loop-low : goal.decreases-loop-low
decreases-loop-low l = l.high - l.low
