use Rattle.std.proofs.{Common.arith, Common.pow_pos, lemmas.Int.to_z-of_z}
use Rattle.font_fixed.proofs.Steps.{near_is_wrapped_near}
use Rattle.font_fixed.proofs.products.product.Goals as goal

pub returns : goal.returns
returns c = grind (arith, to_z-of_z, near_is_wrapped_near, pow_pos)
