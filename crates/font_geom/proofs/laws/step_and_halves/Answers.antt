use Rattle.std.proofs.Common.{rules}
use Rattle.font_geom.specs.FixedMatrix.Laws.{step_halved_twice, step_quartered, not_associative}
use Rattle.font_geom.proofs.laws.step_and_halves.Goals as goal

pub returns-clause-first : goal.returns-clause-first
returns-clause-first c = search (rules, step_halved_twice)

pub returns-clause-second : goal.returns-clause-second
returns-clause-second c = search (rules, step_quartered)

pub returns-clause-apart : goal.returns-clause-apart
returns-clause-apart c = not_associative
