use Rattle.std.proofs.Common.{◌≡◌, ◌++◌, map, drop}
use Rattle.plan_orlib.specs.Says.{job_numbers}
use Rattle.plan_table.specs.ShopTable.{step_of}
use Rattle.plan_table.proofs.jobshop.numbers_of.Given as goal

-- the numbers so far, with those that are left, are all numbers
abbrev pub invariant-loop-step : goal.invariant-loop-step
invariant-loop-step l = l.numbers.items ++ job_numbers (map step_of (drop l.step-index l.job)) ≡ job_numbers (map step_of l.job)
