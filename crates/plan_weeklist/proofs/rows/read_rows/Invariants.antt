use Rattle.std.proofs.Common.{◌≡◌, map, drop}
use Rattle.plan_table.specs.Csv.{row_of}
use Rattle.plan_table.specs.Header.{head_of}
use Rattle.plan_weeklist.specs.Rows.{no_rows, rows_from, week_rows_of}
use Rattle.plan_weeklist.proofs.rows.read_rows.Given as goal

-- the rows that are left, behind what has been read, give all
abbrev pub invariant-loop-row : goal.invariant-loop-row
invariant-loop-row l =
    rows_from l.today l.columns (map head_of l.heads) (week_rows_of l.read) (map row_of (drop l.row-index l.rows))
    ≡ rows_from l.today l.columns (map head_of l.heads) no_rows (map row_of l.rows)
