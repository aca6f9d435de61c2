use Rattle.std.proofs.Common.{◌≡◌, ◌≤◌, ◌+◌, [], take}
use Rattle.plan_table.specs.Csv as spec
use Rattle.plan_table.specs.Entries.{filled_from}
use Rattle.plan_table.proofs.records.scanned_to_content.Given as goal

-- the machine after the bytes so far, of which each ends at most one line; no record has content
abbrev pub invariant-loop-byte : goal.invariant-loop-byte
invariant-loop-byte l = record {
  scanned : spec.machine_of l.machine ≡ spec.scanned l.delimiter (take l.byte-index l.text);
  lines : l.machine.line ≤ l.byte-index + 1;
  blank : filled_from (spec.machine_of l.machine).rows ≡ [];
}
