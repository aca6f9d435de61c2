use Rattle.std.proofs.Common.{◌≡◌, [], map, drop}
use Rattle.plan_table.specs.Csv.{row_of}
use Rattle.plan_table.specs.Header.{head_of}
use Rattle.plan_weeklist.specs.Rows.{shortage_of, shortages_from}
use Rattle.plan_weeklist.proofs.rows.read_shortages.Given as goal

-- the columns that are left, behind what is absent so far, give all that is absent
abbrev pub invariant-loop-k : goal.invariant-loop-k
invariant-loop-k l =
    shortages_from l.columns (row_of l.row) (map shortage_of l.shortages.items) l.k (map head_of (drop l.k l.heads))
    ≡ shortages_from l.columns (row_of l.row) [] 0 (map head_of l.heads)
