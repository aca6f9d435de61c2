use Rattle.std.proofs.Common.{◌≡◌, map, drop}
use Rattle.std.specs.List.{list_any}
use Rattle.plan_table.specs.Csv.{row_of}
use Rattle.plan_weeklist.specs.Columns.{is_absence}
use Rattle.plan_weeklist.proofs.plain.any_absence.Given as goal

-- the absence is among the rows that are left
abbrev pub invariant-loop-row : goal.invariant-loop-row
invariant-loop-row l =
    list_any (is_absence l.columns.ids) (map row_of (drop l.row-index l.rows))
    ≡ list_any (is_absence l.columns.ids) (map row_of l.rows)
