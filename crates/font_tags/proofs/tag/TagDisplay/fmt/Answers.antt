use Rattle.std.proofs.Common.{rules}
use Rattle.font_tags.proofs.TagText.{one_more_byte}
use Rattle.font_tags.proofs.tag.TagDisplay.fmt.Goals as goal

pub loop-byte-preserved : goal.loop-byte-preserved
loop-byte-preserved g c = λ flush. one_more_byte _ _ _ _ c.args.self.now.0 c.loop-byte.byte-index (search rules)
    (c.loop-byte.invariant flush) (search rules)
