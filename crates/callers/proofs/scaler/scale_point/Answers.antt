use Rattle.std.proofs.Common.{refl}
use Rattle.font_types.proofs.Callers.{fits_composed}
use Rattle.callers.proofs.scaler.scale_point.Goals as goal

pub composed-requires : goal.composed-requires
composed-requires c = fits_composed _ _ _ _ _ _ _ _ c.requires.scale c.requires.place c.requires.point refl
