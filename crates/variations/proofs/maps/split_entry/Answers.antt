use Rattle.std.proofs.Common.{◌∙◌, ap, ◌-◌, bit_and, arith}
use Rattle.std.proofs.lemmas.Nat.{and_mask, one_shl}
use Rattle.variations.proofs.maps.split_entry.Goals as goal

pub returns-clause-inner : goal.returns-clause-inner
returns-clause-inner c = ap (λ n. bit_and c.args.entry (n - 1)) (one_shl c.args.bits 32 (omega (arith, c.requires)))
    ∙ and_mask c.args.entry c.args.bits
