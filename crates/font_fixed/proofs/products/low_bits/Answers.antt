use Rattle.std.proofs.Common.{refl, rules, w32, w64}
use Rattle.font_fixed.proofs.Narrowing.{shifts-wrap}
use Rattle.font_fixed.proofs.products.low_bits.Goals as goal

pub returns : goal.returns
returns c = shifts-wrap w64 w32 _ 4294967296 c.args.n refl refl c.ranges.n (search rules)
