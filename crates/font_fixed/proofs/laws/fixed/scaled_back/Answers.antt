use Rattle.std.proofs.Common.{rules, lit<, w32}
use Rattle.font_base.proofs.Widths.{signed_fits}
use Rattle.font_fixed.proofs.Orders.{scaled_back}
use Rattle.font_fixed.proofs.laws.fixed.scaled_back.Goals as goal

pub returns-clause-back : goal.returns-clause-back
returns-clause-back c = λ some most fits. scaled_back 32 _ _ _ _ _ (lit< tt)
    (signed_fits w32 c.args.x.0 (search rules)) c.mul_div-scaled.ensures c.mul_div.ensures some most fits
