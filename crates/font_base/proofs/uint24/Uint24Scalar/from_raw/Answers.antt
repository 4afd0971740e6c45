use Rattle.font_base.specs.Uint24.Laws.{uint24_read}
use Rattle.font_base.proofs.uint24.Uint24Scalar.from_raw.Goals as goal

pub returns : goal.returns
returns c = uint24_read c.from_be_bytes.result c.args.raw c.from_be_bytes.ensures.bytes
