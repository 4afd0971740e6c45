use Rattle.std.proofs.Common.{ap, sym, lit<}
use Rattle.font_base.specs.{Uint24.uint24_of, Uint24.Laws.same_uint24, Uint24.Laws.uint24_number-of}
use Rattle.font_ids.specs.Offset.{offset24_of}
use Rattle.font_ids.proofs.offset.Offset24OffsetValue.NULL.Goals as goal

pub returns : goal.returns
returns c = ap offset24_of (same_uint24 _ (uint24_of 0) (sym (uint24_number-of 0 (lit< tt))))
