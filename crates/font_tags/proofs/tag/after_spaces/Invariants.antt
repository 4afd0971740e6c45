use Rattle.std.proofs.Common.{◌≡◌, ◌-◌, ◌<◌, ◌≤◌, ℕ, slice_index, length}
use Rattle.font_tags.proofs.tag.after_spaces.Given as goal

abbrev pub invariant-loop-pos : goal.invariant-loop-pos
invariant-loop-pos l = record {
  from : l.from ≤ l.pos;
  within : l.pos ≤ length l.bytes;
  spaces : (i : ℕ) → l.from ≤ i → i < l.pos → slice_index l.bytes i ≡ 32;
}

abbrev pub decreases-loop-pos : goal.decreases-loop-pos
decreases-loop-pos l = length l.bytes - l.pos
