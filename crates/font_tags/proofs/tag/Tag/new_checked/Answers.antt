-- A tag of one to four good bytes is those bytes filled with spaces.
use Rattle.std.proofs.Common.{arith}
use Rattle.font_tags.proofs.Good.{tag_judgements, filled_valid, filled_one, filled_two, filled_three, filled_four}
use Rattle.font_tags.proofs.tag.Tag.new_checked.Goals as goal
use Rattle.font_tags.proofs.tag.Tag.new_checked.Goals.{in-len1, in-len2, in-len3, in-len4}

pub returns-clause-valid : goal.returns-clause-valid
returns-clause-valid c =
    grind (arith, filled_valid, filled_one, filled_two, filled_three, filled_four, tag_judgements)
