use Rattle.std.proofs.Common.{◌≡◌, ◌+◌, ◌≤◌, vec_len}
use Rattle.std.specs.Io.KnownBytes.{Consumes}
use Rattle.plan_io.proofs.whole.read_beyond.Given as goal

-- each call so far read at least one byte, no call failed, and the bytes read are those that left
-- the source
abbrev pub invariant-loop : goal.invariant-loop
invariant-loop g l = record {
  calls : g.R.Source.calls l.reader ≡ g.R.Source.calls l.fn.reader + l.counter;
  faults : g.R.Source.faults l.reader ≡ g.R.Source.faults l.fn.reader;
  short : vec_len l.bytes ≤ l.limit + 1;
  each : l.counter ≤ vec_len l.bytes;
  read : Consumes (g.R.Source.remaining l.fn.reader) (g.R.Source.remaining l.reader) l.bytes.items;
}
