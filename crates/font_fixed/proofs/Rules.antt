-- The rules that the file of a fixed-point type names, so that its functions need no answers: the results of std's
-- calls and of steps of code, at each width and every fraction, in the form of goals.
use Rattle.std.proofs.Common.{w16, w32, w64}
use Rattle.font_fixed.proofs.{Texts.HasRoom, Texts.padded_has_room, Wrapped.wrapping_add-wrap}
use Rattle.font_fixed.proofs.{Wrapped.wrapping_sub-wrap, Wrapped.wrapping_neg-wrap, Wrapped.wrapping_abs-wrap}
use Rattle.font_fixed.proofs.{Wrapped.wrapping_mul-wrap, Narrowing.floor_is_nearest_whole, Narrowing.shr_is_narrowed}

-- `search` does not find the width of a column in its goal
pub cell_16 : HasRoom w16
cell_16 = padded_has_room w16

pub cell_32 : HasRoom w32
cell_32 = padded_has_room w32

pub cell_64 : HasRoom w64
cell_64 = padded_has_room w64

pub ruleset number_code = (
  wrapping_add-wrap,
  wrapping_sub-wrap,
  wrapping_neg-wrap,
  wrapping_abs-wrap,
  wrapping_mul-wrap,
  floor_is_nearest_whole,
  shr_is_narrowed,
  cell_16,
  cell_32,
  cell_64,
)
