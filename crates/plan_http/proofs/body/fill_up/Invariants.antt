use Rattle.std.proofs.Common.{◌≡◌, ℕ, ◌+◌, ◌≤◌, List, length, take}
use Rattle.plan_http.specs.Pieces.{Reads, IsSplit}
use Rattle.plan_http.proofs.body.fill_up.Given as goal

-- each read so far returned a byte, and the client lost the front of the body
abbrev pub invariant-loop : goal.invariant-loop
invariant-loop g l = record {
  within : l.filled ≤ length l.body;
  each : l.counter ≤ l.filled;
  calls : g.R.Client.calls l.reader ≡ g.R.Client.calls l.fn.reader + l.counter;
  faults : g.R.Client.faults l.reader ≡ g.R.Client.faults l.fn.reader;
  split : Reads (g.R.Client.known l.fn.reader) (g.R.Client.known l.reader)
      (λ had left. (bytes : List ℕ) → IsSplit bytes (take l.from l.fn.body) had → IsSplit bytes (take l.filled l.body) left);
}
