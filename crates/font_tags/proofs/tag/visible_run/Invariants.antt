use Rattle.std.proofs.Common.{◌-◌, ◌<◌, ◌≤◌, ℕ, slice_index, length}
use Rattle.font_tags.specs.Tag.{IsVisible}
use Rattle.font_tags.proofs.tag.visible_run.Given as goal

abbrev pub invariant-loop-run : goal.invariant-loop-run
invariant-loop-run l = record {
  within : l.run ≤ length l.bytes;
  visible : (i : ℕ) → i < l.run → IsVisible (slice_index l.bytes i);
}

abbrev pub decreases-loop-run : goal.decreases-loop-run
decreases-loop-run l = length l.bytes - l.run
