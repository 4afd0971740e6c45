use Rattle.std.proofs.Common.{rules}
use Rattle.font_lines.proofs.InTurn.{answered_to_the_end, longer}
use Rattle.font_lines.proofs.serve.answer_all.Goals as goal

pub returns-then-count-eq0-clause-ok : goal.returns-then-count-eq0-clause-ok
returns-then-count-eq0-clause-ok g c = answered_to_the_end (g.S.Source.left c.args.source.now)
    (g.S.Source.left c.loop-count.source) (g.S.Source.left c.read.new.self) c.loop-count.begun.items
    c.loop-count.output.items c.append_answers.new.output.items c.loop-count.invariant.answered
    (search rules) (search rules) (search rules)

pub loop-count-smaller : goal.loop-count-smaller
loop-count-smaller g c = longer _ _ _ _ _ c.in_ok-append_ended.ensures (search rules) (search rules) (search rules)
