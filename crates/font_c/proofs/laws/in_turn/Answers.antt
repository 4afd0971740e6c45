use Rattle.font_geom.proofs.Bounds.{in_turn_is_close}
use Rattle.font_c.proofs.laws.in_turn.Goals as goal

pub returns-clause-close : goal.returns-clause-close
returns-clause-close c = in_turn_is_close _ _ _ _ (cc)
