use Rattle.font_lines.proofs.Commands.{IsAnsweredUpTo}
use Rattle.font_lines.proofs.answers.append_answers.Given as goal

abbrev pub invariant-loop-line : goal.invariant-loop-line
invariant-loop-line g l = IsAnsweredUpTo l.input l.line-iterator.rest.now l.fn.output.items l.output.items
