use Rattle.std.proofs.Common.{◌≡◌, map, drop}
use Rattle.plan_table.specs.Csv.{row_of}
use Rattle.plan_table.specs.Header.{head_of}
use Rattle.plan_spreadsheet.specs.Waits.{wait_of, waiting_from}
use Rattle.plan_spreadsheet.proofs.waiting.with_waiting.Given as goal

-- the waits that are left, behind the rows so far, give all rows
abbrev pub invariant-loop-k : goal.invariant-loop-k
invariant-loop-k l =
    waiting_from (map head_of l.heads) l.line (map row_of l.all.items) l.k (map wait_of (drop l.k l.waits))
    ≡ waiting_from (map head_of l.heads) l.line (map row_of l.fn.rows.items) 0 (map wait_of l.waits)
