use Rattle.std.proofs.Common.{◌≡◌, [], map, drop}
use Rattle.plan_table.specs.Table.{resource_of}
use Rattle.plan_weeklist.specs.ListedWeeks.{absences_in}
use Rattle.plan_weeklist.specs.Rows.{absence_of}
use Rattle.plan_weeklist.proofs.absences.absences_of.Given as goal

-- those of the rows that are left, behind the absences so far, are all of them
abbrev pub invariant-loop-row : goal.invariant-loop-row
invariant-loop-row l =
    absences_in (map resource_of l.resources) l.absences.items (map absence_of (drop l.row-index l.rows))
    ≡ absences_in (map resource_of l.resources) [] (map absence_of l.rows)
