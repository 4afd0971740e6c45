use Rattle.std.proofs.Common.{rules}
use Rattle.font_types.proofs.Callers.{calls}
use Rattle.variations.proofs.evaluator.to_stored.Goals as goal

pub returns-clause-value : goal.returns-clause-value
returns-clause-value c =
    record { inside = search (rules, calls); below = search (rules, calls); above = search (rules, calls) }
