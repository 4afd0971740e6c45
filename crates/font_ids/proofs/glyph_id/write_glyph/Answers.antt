use Rattle.std.proofs.Common.{codes, rules}
use Rattle.font_tags.proofs.Written.{number_written}
use Rattle.font_ids.proofs.glyph_id.write_glyph.Goals as goal

pub returns : goal.returns
returns g c = λ flush written. number_written g.W.Write.write_str_gives c.args.f.now c.write_str.new.self
    c.write_str-2.new.self (codes "GID_") c.as_str.result.now c.args.number
    (search rules) (search rules) (search rules)
