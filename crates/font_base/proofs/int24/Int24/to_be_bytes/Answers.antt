use Rattle.std.proofs.Common.{rules}
use Rattle.font_base.specs.Bytes.Laws.{bytes_of_gives}
use Rattle.font_base.proofs.ThreeBytes.{last_three_signed}
use Rattle.font_base.proofs.int24.Int24.to_be_bytes.Goals as goal

pub returns : goal.returns
returns c = bytes_of_gives 3 c.args.self.value _
    (last_three_signed c.args.self.value c.to_be_bytes.result (search rules) c.to_be_bytes.ensures)
