use Rattle.std.proofs.Common.{rules, lit<, pos, w32}
use Rattle.font_base.proofs.Widths.{signed_fits}
use Rattle.font_fixed.proofs.NumberLaws.{quotient_laws_hold, quotient_in_one_step}
use Rattle.font_fixed.proofs.laws.fixed.quotient_laws.Goals as goal

pub returns-clause-laws : goal.returns-clause-laws
returns-clause-laws c =
    quotient_laws_hold 32 16 _ _ _ _ _ (lit< tt) (signed_fits w32 c.args.x.0 (search rules))
    (signed_fits w32 (pos 65536) (search rules)) c.div.ensures c.div-2.ensures c.div-3.ensures

pub returns-clause-in_one_step : goal.returns-clause-in_one_step
returns-clause-in_one_step c = quotient_in_one_step 32 16 _ _ _ _ c.div.ensures c.mul_div.ensures
