use Rattle.std.proofs.Common.{◌≡◌, ◌++◌, map, drop}
use Rattle.plan_table.specs.ShopTable.{step_of, steps_of}
use Rattle.plan_table.proofs.jobshop.steps_of.Given as goal

-- the steps so far, with those that are left, are all steps
abbrev pub invariant-loop-step : goal.invariant-loop-step
invariant-loop-step l = map step_of l.job.items ++ steps_of l.order (drop l.step-index l.steps) ≡ steps_of l.order l.steps
