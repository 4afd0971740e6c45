use Rattle.std.proofs.Common.{rules, lit<, lit≤, refl, w32, w64}
use Rattle.font_fixed.proofs.Narrowing.{narrowed_low_bits}
use Rattle.font_fixed.proofs.fixed_i64.f48dot16.F48Dot16.to_i32.Goals as goal

pub returns : goal.returns
returns c = narrowed_low_bits w64 w32 48 _ 65536 _ _ _ (lit< tt) (lit≤ tt) c.to_i64.ensures
    (search rules) c.low_bits.ensures (search rules) refl
