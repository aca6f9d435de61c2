use Rattle.std.proofs.Common.{◌≡◌, ℕ, ◌+◌, ◌≤◌, length}
use Rattle.plan_http.specs.Pieces.{Reads}
use Rattle.plan_http.specs.BodyPieces.{HasLeft}
use Rattle.plan_http.proofs.body.skip_body.Given as goal

-- each read so far returned a byte, and the client lost the skipped bytes
abbrev pub invariant-loop : goal.invariant-loop
invariant-loop g l = record {
  each : l.counter ≤ l.filled;
  calls : g.R.Client.calls l.reader ≡ g.R.Client.calls l.fn.reader + l.counter;
  faults : g.R.Client.faults l.reader ≡ g.R.Client.faults l.fn.reader;
  left : Reads (g.R.Client.known l.fn.reader) (g.R.Client.known l.reader)
      (λ had left. (total : ℕ) → HasLeft total (length l.fn.got) had → HasLeft total l.filled left);
}
