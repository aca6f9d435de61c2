use Rattle.std.proofs.Common.{◌≡◌, map, drop}
use Rattle.std.specs.List.{find}
use Rattle.plan_weekback.specs.Entries.{began_if, has_id}
use Rattle.plan_weekback.proofs.plans.began_by.Given as goal
use Rattle.plan_weeklist.specs.Rows.{dated_of}

-- the row is among those that are left
abbrev pub invariant-loop-row : goal.invariant-loop-row
invariant-loop-row l =
    began_if (find (has_id l.id) (map dated_of (drop l.row-index l.rows))) ≡ began_if (find (has_id l.id) (map dated_of l.rows))
