use Rattle.std.proofs.Common.{refl, pos, to_z, of_z, w64}
use mir.Val.{bool_byte}
use lib.Signed.{lt_z}
use Rattle.font_fixed.proofs.Steps.{shifted_is_near}
use Rattle.font_fixed.proofs.products.rounded_shift.Goals as goal

pub returns : goal.returns
returns c = shifted_is_near c.args.n (pos (bool_byte (lt_z (to_z w64 (of_z w64 c.args.n)) (pos 0)))) c.args.f
    c.ranges.n c.requires.room c.requires.fraction.0 c.requires.fraction.1 refl
