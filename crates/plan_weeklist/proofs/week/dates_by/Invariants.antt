use Rattle.std.proofs.Common.{◌≡◌, map, drop}
use Rattle.plan_weeklist.specs.ListedWeeks.{dates_by}
use Rattle.plan_weeklist.specs.Rows.{dated_of}
use Rattle.plan_weeklist.proofs.week.dates_by.Given as goal

-- the row is among those that are left
abbrev pub invariant-loop-row : goal.invariant-loop-row
invariant-loop-row l = dates_by l.id (map dated_of (drop l.row-index l.rows)) ≡ dates_by l.id (map dated_of l.rows)
