use Rattle.std.proofs.Common.{◌≡◌, take}
use Rattle.plan_sheet.specs.Bars.{greatest_end}
use Rattle.plan_sheet.proofs.bars.last_end.Given as goal

-- the greatest end of the bars so far
abbrev pub invariant-loop-bar : goal.invariant-loop-bar
invariant-loop-bar l = l.latest ≡ greatest_end (take l.bar-index l.bars)
