use Rattle.std.proofs.Common.{pos}
use Rattle.font_base.specs.Bytes.Laws.{bytes_of_gives}
use Rattle.font_base.proofs.ThreeBytes.{last_three}
use Rattle.font_base.proofs.uint24.Uint24.to_be_bytes.Goals as goal

pub returns : goal.returns
returns c = bytes_of_gives 3 (pos c.args.self.value) _
    (last_three c.args.self.value c.to_be_bytes.result c.to_be_bytes.ensures)
