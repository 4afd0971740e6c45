use Rattle.std.proofs.Common.{rules, ◌<◌}
use Rattle.font_base.proofs.Chunks.{chunks_are, chunks_flat}
use Rattle.font_base.proofs.raw.ArrayU8ByteChunks.as_chunks.Goals as goal

pub returns-clause-are_raw : goal.returns-clause-are_raw
returns-clause-are_raw g c =
    let some : 0 < g.row.N = search rules in
    chunks_are g.row.N c.args.bytes.now c.as_chunks.result.0.now some (λ i. (c.type_inv.bytes i).fits)
    c.as_chunks.ensures.front

pub returns-clause-bytes : goal.returns-clause-bytes
returns-clause-bytes g c = chunks_flat g.row.N c.args.bytes.now c.as_chunks.result.1.now c.as_chunks.result.0.now
    c.as_chunks.ensures.front c.as_chunks.ensures.back
