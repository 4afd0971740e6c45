use Rattle.font_geom.proofs.Bounds.{composed_is_close}
use Rattle.font_c.proofs.laws.composed.Goals as goal

pub returns-clause-close : goal.returns-clause-close
returns-clause-close c = composed_is_close _ _ _ _ (cc)
