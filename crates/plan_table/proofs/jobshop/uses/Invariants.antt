use Rattle.std.proofs.Common.{◌≡◌, map, drop}
use Rattle.std.specs.List.{list_any}
use Rattle.plan_table.specs.ShopTable.{is_on, step_of}
use Rattle.plan_table.proofs.jobshop.uses.Given as goal

-- the machine is used by a step that is left
abbrev pub invariant-loop-step : goal.invariant-loop-step
invariant-loop-step l = list_any (is_on l.machine) (map step_of (drop l.step-index l.job)) ≡ list_any (is_on l.machine) (map step_of l.job)
