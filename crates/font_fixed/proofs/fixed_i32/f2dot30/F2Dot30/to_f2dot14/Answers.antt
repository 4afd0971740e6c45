use Rattle.std.proofs.Common.{rules, lit<, refl, arith, w16, w32, SFits, to_z, of_z}
use Rattle.std.proofs.lemmas.Int.{ints, to_z-of_z}
use lib.Signed.{shr_z}
use Rattle.font_base.specs.Wrap.Laws.{wrap_is}
use Rattle.font_fixed.proofs.Narrowing.{shr_is_narrowed}
use Rattle.font_fixed.proofs.fixed_i32.f2dot30.F2Dot30.to_f2dot14.Goals as goal

pub returns : goal.returns
returns c =
    let sum = c.wrapping_add.result.0 in
    let narrow = shr_is_narrowed w32 16 65536 32768 c.args.self.0 sum (search rules) c.wrapping_add.ensures.0 refl in
    let fits : SFits w16 (to_z w32 (of_z w32 (shr_z (to_z w32 (of_z w32 sum)) 65536))) =
    omega (arith, ints, (wrap_is 16 narrow.rounded (lit< tt)).fits, narrow.wrapped) in
    rw (c.from_bits.ensures, to_z-of_z w16 _ fits) narrow
