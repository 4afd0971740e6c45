use Rattle.std.proofs.Common.{rules, ◌∙◌, ap, drop, ◌++◌, ◌∷◌, [], length-append}
use Rattle.std.proofs.lemmas.List.{drop_at}
use Rattle.font_types.specs.{Tag.tag_bytes, Fixed.fixed_text}
use Rattle.callers.proofs.dumper.line_round_trip.Goals as goal

pub returns : goal.returns
returns c = c.value_of.ensures.printed c.args.value (search rules)
    (ap (drop 5) c.labeled-end.ensures.bytes
    ∙ drop_at (tag_bytes c.args.tag ++ (61 ∷ [])) (fixed_text c.args.value) 5 (search (rules, length-append)))
