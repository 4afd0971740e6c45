use Rattle.std.proofs.Common.{rules, ◌∙◌, append_assoc}
use Rattle.callers.proofs.words.range_again.Goals as goal

pub returns : goal.returns
returns c =
    c.parsed_range.ensures.printed c.args.range (search rules) (search rules) (search rules)
    c.show_no_space.ensures c.show_no_space-2.ensures
    (c.put_range-end.ensures.bytes ∙ search (rules, append_assoc))
