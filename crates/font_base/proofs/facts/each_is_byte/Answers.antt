use Rattle.std.proofs.Common.{refl}
use Rattle.font_base.specs.Bytes.Laws.{are_bytes_in}
use Rattle.font_base.proofs.facts.each_is_byte.Goals as goal

pub returns : goal.returns
returns c = are_bytes_in _ c.args.slice.now refl (λ i. (c.type_inv.slice i).fits)
