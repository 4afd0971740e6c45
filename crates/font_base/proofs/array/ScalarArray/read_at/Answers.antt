use Rattle.std.proofs.Common.{rules, ◌≡◌}
use Rattle.font_base.proofs.Elements.{read_bytes, read_elements}
use Rattle.font_base.proofs.array.ScalarArray.read_at.Goals as goal

pub returns-clause-bytes : goal.returns-clause-bytes
returns-clause-bytes g c =
    let raw = g.T.Raw.BeByteArray in
    let same : raw.LEN ≡ g.T.FixedSize.RAW_BYTE_LEN = search rules in
    let are = rw same at c.as_chunks.ensures.are_raw in
    read_bytes raw.is_value raw.bytes g.T.FixedSize.RAW_BYTE_LEN c.args.count
    c.args.offset c.as_chunks.result.0.now c.in_ok-get-2.field-0.now c.args.bytes.now c.in_ok-get.field-0.now
    c.as_chunks.result.1.now are c.in_ok-get-2.ensures.lookup.0.1 c.as_chunks.ensures.bytes
    (search rules) c.in_ok-get-2.ensures.lookup.0.2

pub returns-clause-elements : goal.returns-clause-elements
returns-clause-elements g c =
    read_elements g.T.Raw.BeByteArray.is_value g.T.Raw.BeByteArray.bytes g.T.FixedSize.RAW_BYTE_LEN c.args.count
    c.args.offset c.in_ok-get-2.field-0.now c.args.bytes.now (returns-clause-bytes g c)
