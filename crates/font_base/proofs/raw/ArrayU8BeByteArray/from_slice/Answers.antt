use Rattle.font_base.proofs.Chunks.{front_is_bytes}
use Rattle.font_base.proofs.raw.ArrayU8BeByteArray.from_slice.Goals as goal

pub returns-clause-value : goal.returns-clause-value
returns-clause-value g c =
    let front = c.in_ok-first_chunk in
    front_is_bytes g.row.N c.args.slice.now front.field-0.now front.ensures.cases.enough front.ensures.cases.same
    (λ i. (c.type_inv.slice i).fits)
