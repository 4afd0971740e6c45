use Rattle.std.proofs.Common.{rules, lit<, w32}
use Rattle.font_base.proofs.Widths.{signed_fits}
use Rattle.font_fixed.proofs.NumberLaws.{product_laws_hold}
use Rattle.font_fixed.proofs.laws.f26dot6.product_laws.Goals as goal

pub returns : goal.returns
returns c = product_laws_hold 32 6 _ _ _ _ _ (lit< tt)
    (signed_fits w32 c.args.x.0 (search rules)) c.mul.ensures c.mul-2.ensures c.mul-3.ensures
