use Rattle.font_base.specs.Int24.Laws.{int24_read}
use Rattle.font_base.proofs.int24.Int24Scalar.from_raw.Goals as goal

pub returns : goal.returns
returns c = int24_read c.from_be_bytes.result c.args.raw c.from_be_bytes.ensures.bytes
