use Rattle.std.proofs.Common.{rules}
use Rattle.font_geom.proofs.Bounds.{composed_is_close}
use Rattle.font_geom.proofs.laws.composed.Goals as goal

pub returns-clause-value : goal.returns-clause-value
returns-clause-value c = search rules

pub returns-clause-close : goal.returns-clause-close
returns-clause-close c = composed_is_close _ _ _ _ (returns-clause-value c)
