use Rattle.std.proofs.Common.{rules}
use Rattle.font_lines.specs.Text.{words_of}
use Rattle.font_lines.proofs.Commands.{given_varied}
use Rattle.font_lines.proofs.command.append_varied.Goals as goal

pub returns : goal.returns
returns g c = given_varied (words_of c.args.words.rest.now) (words_of c.next.new.self.rest.now) c.in_ok-base.base.now
    c.in-Ok.units c.in_ok-terms.terms.items c.args.output.now.items c.append_signed.new.output.items
    c.append_signed.result (search rules) (search rules) (search rules) (search rules)
