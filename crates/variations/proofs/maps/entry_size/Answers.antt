use Rattle.std.proofs.{Common.◌∙◌, Common.ap, Common.◌+◌, Common.◌/◌, lemmas.Nat.and_shr, lemmas.Nat.and_mask}
use Rattle.variations.proofs.maps.entry_size.Goals as goal

pub returns : goal.returns
returns c = ap (λ n. n + 1) (c.from.ensures ∙ and_shr c.args.format 0x30 4 ∙ and_mask (c.args.format / 16) 2)
