-- The formula of `lerp` is that of `is_lerp`.
use Rattle.std.proofs.Common.{rules}
use Rattle.font_types.specs.Fixed.{fixed_bits}
use Rattle.font_types.proofs.Callers.{calls}
use Rattle.variations.proofs.Lerps.{is_lerp}
use Rattle.variations.proofs.evaluator.lerp.Goals as goal

pub returns-clause-value : goal.returns-clause-value
returns-clause-value c = is_lerp c.args.coordinate c.args.start c.args.end c.add.result (fixed_bits c.mul_div.result)
    (search (rules, calls)) (search (rules, calls)) (search (rules, calls))
