use Rattle.std.proofs.Common.{take}
use Rattle.std.specs.Fmt.{HasWrittenStyled, IsFlush}
use Rattle.font_tags.specs.Tag.{tag_text}
use Rattle.font_tags.proofs.tag.TagDisplay.fmt.Given as goal

abbrev pub invariant-loop-byte : goal.invariant-loop-byte
invariant-loop-byte g l =
    IsFlush l.initial.f → HasWrittenStyled g.W.Write.write_str_gives l.initial.f
    (tag_text (take l.byte-index l.byte-items)) l.f
