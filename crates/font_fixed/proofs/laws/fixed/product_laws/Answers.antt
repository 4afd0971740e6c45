use Rattle.std.proofs.Common.{rules, lit<, w32}
use Rattle.font_base.proofs.Widths.{signed_fits}
use Rattle.font_fixed.proofs.NumberLaws.{product_laws_hold, product_in_one_step}
use Rattle.font_fixed.proofs.laws.fixed.product_laws.Goals as goal

pub returns-clause-laws : goal.returns-clause-laws
returns-clause-laws c = product_laws_hold 32 16 _ _ _ _ _ (lit< tt)
    (signed_fits w32 c.args.x.0 (search rules)) c.mul.ensures c.mul-2.ensures c.mul-3.ensures

pub returns-clause-in_one_step : goal.returns-clause-in_one_step
returns-clause-in_one_step c = product_in_one_step 32 16 _ _ _ _ c.mul.ensures c.mul_div.ensures
