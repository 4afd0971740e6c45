-- What an export writes to the buffer of a C program: a text and its length, or nothing.
use Rattle.std.specs.Prelude.{◌≡◌, ◌≢◌, ◌↔◌, ◌≤◌, ℕ, List, length}
use Rattle.font_types.specs.Padding.{FillsFront}
use Rattle.font_c.specs.Status.{buffer_too_small}

-- the text is written to the front of the buffer, its length is stored, and the status is 0, if there is room;
-- otherwise the status says so, and all is unchanged
pub record WritesText (text : List ℕ) (status old_count new_count : ℕ) (old new : List ℕ) : Type 0 where
  pub fits : (status ≡ 0) ↔ (length text ≤ length old)
  pub written : status ≡ 0 → FillsFront text new_count old new
  pub known : status ≢ 0 → status ≡ buffer_too_small
  pub kept : status ≢ 0 → (new_count ≡ old_count) × (new ≡ old)
