use Rattle.std.proofs.Common.{rules, lit<, pos, w32}
use Rattle.font_base.proofs.Widths.{signed_fits}
use Rattle.font_fixed.proofs.NumberLaws.{quotient_laws_hold}
use Rattle.font_fixed.proofs.laws.f26dot6.quotient_laws.Goals as goal

pub returns : goal.returns
returns c =
    quotient_laws_hold 32 6 _ _ _ _ _ (lit< tt) (signed_fits w32 c.args.x.0 (search rules))
    (signed_fits w32 (pos 64) (search rules)) c.div.ensures c.div-2.ensures c.div-3.ensures
