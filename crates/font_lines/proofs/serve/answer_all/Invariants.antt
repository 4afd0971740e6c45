use Rattle.std.proofs.Common.{◌≡◌, ◌-◌, ◌+◌, ◌*◌, ◌^◌, false, length}
use Rattle.font_lines.proofs.InTurn.{IsAnsweredSoFar}
use Rattle.font_lines.specs.Serve.{HasNoEnd}
use Rattle.font_lines.proofs.serve.answer_all.Given as goal

abbrev pub invariant-loop-count : goal.invariant-loop-count
invariant-loop-count g l = record {
  works : g.S.Source.failed l.source ≡ false;
  answered : IsAnsweredSoFar (g.S.Source.left l.fn.source) (g.S.Source.left l.source) l.begun.items l.output.items;
  begun : HasNoEnd l.begun.items;
}

-- a block without a line feed makes `begun` longer, and any other makes the output longer
abbrev pub decreases-loop-count : goal.decreases-loop-count
decreases-loop-count g l = (2 ^ 64 - length l.output.items) * 2 ^ 65 + (2 ^ 64 - length l.begun.items)
