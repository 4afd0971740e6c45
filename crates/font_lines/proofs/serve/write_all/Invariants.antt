use Rattle.std.proofs.Common.{◌≡◌, false, length}
use Rattle.font_lines.proofs.Writes.{IsWrittenUpTo}
use Rattle.font_lines.proofs.serve.write_all.Given as goal

abbrev pub invariant-loop-rest : goal.invariant-loop-rest
invariant-loop-rest g l = record {
  works : g.K.Sink.failed l.sink ≡ false;
  written : IsWrittenUpTo (g.K.Sink.taken l.fn.sink) (g.K.Sink.taken l.sink) l.bytes l.rest;
}

abbrev pub decreases-loop-rest : goal.decreases-loop-rest
decreases-loop-rest g l = length l.rest
