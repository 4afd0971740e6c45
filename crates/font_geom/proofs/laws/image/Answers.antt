use Rattle.font_geom.proofs.Bounds.{image_is_close}
use Rattle.font_geom.proofs.laws.image.Goals as goal

pub returns-clause-close : goal.returns-clause-close
returns-clause-close c = image_is_close _ _ _ (cc)
