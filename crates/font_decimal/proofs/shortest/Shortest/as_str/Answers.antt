use Rattle.std.proofs.lemmas.Str.{IsUtf8-from_ascii}
use Rattle.font_decimal.proofs.shortest.Shortest.as_str.Goals as goal

pub from_utf8_unchecked-requires : goal.from_utf8_unchecked-requires
from_utf8_unchecked-requires c = IsUtf8-from_ascii _ c.args.self.now.ascii
