use Rattle.std.proofs.Common.{◌≡◌, take}
use Rattle.plan_weeksheet.proofs.amounts.wide.Given as goal

-- the amounts so far
abbrev pub invariant-loop-need : goal.invariant-loop-need
invariant-loop-need l = l.list.items ≡ take l.need-index l.needs
