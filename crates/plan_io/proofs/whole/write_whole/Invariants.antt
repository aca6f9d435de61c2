use Rattle.std.proofs.Common.{◌≡◌, ◌+◌, ◌≤◌, length, take}
use Rattle.std.specs.Io.KnownBytes.{Appends}
use Rattle.plan_io.proofs.whole.write_whole.Given as goal

-- no call failed, and the sink has taken the first `sent` bytes
abbrev pub invariant-loop : goal.invariant-loop
invariant-loop g l = record {
  calls : g.W.Sink.calls l.writer ≡ g.W.Sink.calls l.fn.writer + l.counter;
  faults : g.W.Sink.faults l.writer ≡ g.W.Sink.faults l.fn.writer;
  within : l.sent ≤ length l.bytes;
  written : Appends (g.W.Sink.taken l.fn.writer) (g.W.Sink.taken l.writer) (take l.sent l.bytes);
}
