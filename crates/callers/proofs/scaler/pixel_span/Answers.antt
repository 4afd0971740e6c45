use Rattle.std.proofs.Common.{arith, rules}
use Rattle.std.proofs.lemmas.Int.{ints}
use Rattle.font_types.proofs.Callers.{numbers}
use Rattle.callers.proofs.scaler.pixel_span.Goals as goal

pub returns-clause-to : goal.returns-clause-to
returns-clause-to c = first_of (search rules, grind (arith, ints, numbers))
