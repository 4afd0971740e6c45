use Rattle.std.proofs.Common.{codes, rules}
use Rattle.font_tags.proofs.Written.{numbers_written}
use Rattle.font_tags.proofs.version.write_version.Goals as goal

pub returns : goal.returns
returns g c = λ flush written. numbers_written g.W.Write.write_str_gives c.args.f.now c.write_str.new.self
    c.write_str-2.new.self c.write_str-3.new.self c.as_str.result.now (codes ".") c.as_str-2.result.now c.args.major
    c.args.minor (search rules) (search rules) (search rules) (search rules) (search rules)
