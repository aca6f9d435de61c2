use Rattle.std.proofs.Common.{◌≡◌, ◌+◌, ◌≤◌}
use Rattle.plan_copies.specs.Bytes.{AreMoved}
use Rattle.plan_copies.proofs.bytes.copy_all.Given as goal

-- each call so far read at least one byte, no call failed, and the sink has the bytes that were read
abbrev pub invariant-loop : goal.invariant-loop
invariant-loop g l = record {
  calls : g.R.Source.calls l.reader ≡ g.R.Source.calls l.fn.reader + l.counter;
  read : g.R.Source.faults l.reader ≡ g.R.Source.faults l.fn.reader;
  written : g.W.Sink.faults l.writer ≡ g.W.Sink.faults l.fn.writer;
  moved : AreMoved (g.R.Source.remaining l.fn.reader) (g.R.Source.remaining l.reader)
      (g.W.Sink.taken l.fn.writer) (g.W.Sink.taken l.writer);
}
