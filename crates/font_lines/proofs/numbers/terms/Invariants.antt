use Rattle.font_lines.specs.Text.{words_of}
use Rattle.font_lines.proofs.WordByWord.{AreTermsUpTo}
use Rattle.font_lines.proofs.numbers.terms.Given as goal

abbrev pub invariant-loop-scalar : goal.invariant-loop-scalar
invariant-loop-scalar g l =
    AreTermsUpTo (words_of l.fn.words.rest.now) (words_of l.words.rest.now) l.terms.items
