use Rattle.std.proofs.Common.{◌≡◌, take}
use Rattle.plan_sheet.specs.Changes.{change_after}
use Rattle.plan_sheet.proofs.changes.change_after.Given as goal

-- the first change of the uses so far
abbrev pub invariant-loop-one : goal.invariant-loop-one
invariant-loop-one l = l.next ≡ change_after l.t l.makespan (take l.one-index l.uses)
