use Rattle.std.proofs.Common.{◌≡◌, map, drop}
use Rattle.plan_table.specs.Table.{resource_of}
use Rattle.plan_weeklist.specs.ListedWeeks.{shortages_in}
use Rattle.plan_weeklist.specs.Rows.{absence_of, shortage_of}
use Rattle.plan_weeklist.proofs.absences.push_absences.Given as goal

-- those that are left, behind the absences so far, are all of them
abbrev pub invariant-loop-shortage : goal.invariant-loop-shortage
invariant-loop-shortage l =
    shortages_in (map resource_of l.resources) (absence_of l.row) l.absences.items
    (map shortage_of (drop l.shortage-index l.row.shortages.items))
    ≡ shortages_in (map resource_of l.resources) (absence_of l.row) l.fn.absences.items
    (map shortage_of l.row.shortages.items)
