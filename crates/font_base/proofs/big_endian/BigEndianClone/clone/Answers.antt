use Rattle.std.proofs.Common.{refl}
use Rattle.font_base.specs.BigEndian.Laws.{same_field}
use Rattle.font_base.proofs.big_endian.BigEndianClone.clone.Goals as goal

pub returns : goal.returns
returns g c = record { cases = same_field _ c.args.self.now refl }
