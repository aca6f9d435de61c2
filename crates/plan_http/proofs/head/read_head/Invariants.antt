use Rattle.std.proofs.Common.{◌≡◌, ℕ, ◌+◌, ◌<◌, ◌≤◌, List, take}
use Rattle.plan_http.specs.Pieces.{Reads, IsSplit}
use Rattle.plan_http.proofs.head.read_head.Given as goal

-- each read so far returned a byte, and the client lost the front of the buffer
abbrev pub invariant-loop : goal.invariant-loop
invariant-loop g l = record {
  short : l.filled < 8192;
  each : l.counter ≤ l.filled;
  calls : g.R.Client.calls l.reader ≡ g.R.Client.calls l.fn.reader + l.counter;
  faults : g.R.Client.faults l.reader ≡ g.R.Client.faults l.fn.reader;
  split : Reads (g.R.Client.known l.fn.reader) (g.R.Client.known l.reader)
      (λ had left. (bytes : List ℕ) → IsSplit bytes (take l.from l.fn.buf) had → IsSplit bytes (take l.filled l.buf) left);
}
