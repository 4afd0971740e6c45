use Rattle.std.proofs.Common.{rules, lit<, lit≤, w16, w32}
use Rattle.font_fixed.proofs.Narrowing.{narrowed_low_bits}
use Rattle.font_fixed.proofs.fixed_i32.fixed.Fixed.to_f2dot14.Goals as goal

pub returns : goal.returns
returns c = narrowed_low_bits w32 w16 30 _ 4 _ _ _ (lit< tt) (lit≤ tt) c.quarter.ensures
    (search rules) c.low_half.ensures (search rules) c.from_bits.ensures
