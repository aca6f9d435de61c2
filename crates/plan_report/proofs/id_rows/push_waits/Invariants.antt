use Rattle.std.proofs.Common.{◌≡◌, ◌++◌, map, take}
use Rattle.plan_report.specs.IdRows.{end_at}
use Rattle.plan_report.specs.Sheet.{id_entry_of}
use Rattle.plan_report.proofs.id_rows.push_waits.Given as goal

-- the starts of the waits so far are appended
abbrev pub invariant-loop-place : goal.invariant-loop-place
invariant-loop-place l = l.all.items ≡ l.initial.all.items
    ++ map (end_at (map id_entry_of l.entries) l.starts) (take l.place-index l.waits)
