use Rattle.std.proofs.{Common.arith, lemmas.Int.to_z-of_z}
use Rattle.font_fixed.proofs.Quotients.{wrapped_is_mul_div}
use Rattle.font_fixed.proofs.products.mul_div.Goals as goal

pub returns : goal.returns
returns c = grind (arith, to_z-of_z, wrapped_is_mul_div)
