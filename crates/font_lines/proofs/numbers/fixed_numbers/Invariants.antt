use Rattle.font_lines.specs.Text.{words_of}
use Rattle.font_lines.proofs.WordByWord.{AreNumbersUpTo}
use Rattle.font_lines.proofs.numbers.fixed_numbers.Given as goal

abbrev pub invariant-loop-word : goal.invariant-loop-word
invariant-loop-word g l =
    AreNumbersUpTo g.row.N (words_of l.fn.words.rest.now) (words_of l.words.rest.now) l.numbers l.at
