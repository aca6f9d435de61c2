use Rattle.std.proofs.Common.{◌≡◌, take}
use Rattle.plan_sheet.specs.Uses.{used_at}
use Rattle.plan_sheet.proofs.uses.used_at.Given as goal

-- the amount of the uses so far
abbrev pub invariant-loop-one : goal.invariant-loop-one
invariant-loop-one l = l.used ≡ used_at (take l.one-index l.uses) l.t
