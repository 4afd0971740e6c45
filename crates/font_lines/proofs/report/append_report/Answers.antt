use Rattle.std.proofs.Common.{rules, refl}
use Rattle.font_types.specs.Tag.{tag_bytes, tag_text}
use Rattle.font_lines.proofs.Commands.{given_after}
use Rattle.font_lines.proofs.report.append_report.Goals as goal

pub returns : goal.returns
returns g c = given_after (tag_text (tag_bytes c.args.tag)) _ _ _ (search rules)
    (record { validation = c.validate.result; is_validation = c.validate.ensures.judged; shows = refl })
    c.append_validation.ensures
