use Rattle.std.proofs.Common.{◌≡◌, ◌≤◌, ◌+◌, take}
use Rattle.plan_table.specs.Csv as spec
use Rattle.plan_table.proofs.records.scanned.Given as goal

-- the machine after the bytes so far, of which each ends at most one line
abbrev pub invariant-loop-byte : goal.invariant-loop-byte
invariant-loop-byte l = (spec.machine_of l.machine ≡ spec.scanned l.delimiter (take l.byte-index l.text)) × (l.machine.line ≤ l.byte-index + 1)
