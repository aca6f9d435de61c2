use Rattle.std.proofs.Common.{◌≡◌, drop}
use Rattle.std.specs.List.{list_any}
use Rattle.plan_report.specs.JsonTable.{ends_cell}
use Rattle.plan_report.proofs.json_table.is_no_cell.Given as goal

-- the bytes that are left decide
abbrev pub invariant-loop-byte : goal.invariant-loop-byte
invariant-loop-byte l = list_any ends_cell (drop l.byte-index l.id) ≡ list_any ends_cell l.id
