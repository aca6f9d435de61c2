use Rattle.std.proofs.Common.{◌≡◌, ◌+◌, ◌≤◌, ◌++◌, length, take}
use Rattle.std.specs.Io.KnownBytes.{Appends}
use Rattle.plan_http.proofs.output.send_parts.Given as goal

-- no call failed, and the sink took the front of both texts
abbrev pub invariant-loop : goal.invariant-loop
invariant-loop g l = record {
  calls : g.W.Sink.calls l.writer ≡ g.W.Sink.calls l.fn.writer + l.counter;
  faults : g.W.Sink.faults l.writer ≡ g.W.Sink.faults l.fn.writer;
  within : l.sent ≤ length l.first + length l.second;
  written : Appends (g.W.Sink.taken l.fn.writer) (g.W.Sink.taken l.writer) (take l.sent (l.first ++ l.second));
}
