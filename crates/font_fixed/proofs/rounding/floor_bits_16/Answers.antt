-- @generated from crates/font_fixed/proofs/rounding/floor_bits_32/Answers.antt by tools/erase
use Rattle.std.proofs.Common.{refl, w16}
use Rattle.font_fixed.proofs.Rounds.{shifted_is_floor}
use Rattle.font_fixed.proofs.rounding.floor_bits_16.Goals as goal

pub returns : goal.returns
returns c = shifted_is_floor w16 16 _ c.args.f c.args.bits refl refl c.ranges.bits c.requires
