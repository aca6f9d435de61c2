use Rattle.std.proofs.Common.{◌≡◌, map, drop}
use Rattle.plan_table.specs.Csv.{row_of}
use Rattle.plan_table.specs.Entries.{filled_from}
use Rattle.plan_table.proofs.entries.filled_from.Given as goal

-- the rows so far are blank
abbrev pub invariant-loop-k : goal.invariant-loop-k
invariant-loop-k l = filled_from (map row_of (drop l.k l.rows)) ≡ filled_from (map row_of l.rows)
