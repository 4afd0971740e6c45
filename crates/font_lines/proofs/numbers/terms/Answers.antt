use Rattle.std.proofs.Common.{rules}
use Rattle.font_lines.specs.Text.{words_of}
use Rattle.font_lines.proofs.WordByWord.{one_more_term, all_terms}
use Rattle.font_lines.proofs.numbers.terms.Goals as goal

pub loop-scalar-preserved : goal.loop-scalar-preserved
loop-scalar-preserved g c =
    one_more_term _ _ (words_of c.next.new.self.rest.now) c.in-Some.scalar.now _ c.loop-scalar.invariant (search rules)
    (words_of c.next-in-Some.new.self.rest.now) c.in_ok-delta.delta.now (search rules) c.in-Ok.term _ (search rules)
    (search rules)

pub returns : goal.returns
returns g c = all_terms _ _ _ c.loop-scalar.invariant (search rules)
