use Rattle.std.proofs.Common.{rules}
use Rattle.font_lines.proofs.WordByWord.{one_more_number}
use Rattle.font_lines.proofs.numbers.fixed_numbers.Goals as goal

pub loop-word-preserved : goal.loop-word-preserved
loop-word-preserved g c =
    one_more_number g.row.N _ _ _ _ c.loop-word.invariant _ c.in-Some.word.now (search rules) c.in-Ok.number
    (search rules) (search rules)
