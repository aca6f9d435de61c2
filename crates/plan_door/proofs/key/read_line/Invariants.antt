use Rattle.std.proofs.Common.{◌≡◌, ◌+◌, length}
use Rattle.std.specs.Io.KnownBytes.{Consumes}
use Rattle.plan_door.proofs.key.read_line.Given as goal

-- each call so far returned a byte, and the source lost the bytes that were read
abbrev pub invariant-loop : goal.invariant-loop
invariant-loop g l = record {
  calls : g.R.Source.calls l.reader ≡ g.R.Source.calls l.fn.reader + l.counter;
  faults : g.R.Source.faults l.reader ≡ g.R.Source.faults l.fn.reader;
  each : length l.line.items ≡ l.counter;
  read : Consumes (g.R.Source.remaining l.fn.reader) (g.R.Source.remaining l.reader) l.line.items;
}
