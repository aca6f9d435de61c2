use Rattle.std.proofs.Common.{◌≡◌, ◌≤◌, ◌-◌, ◌+◌, []}
use Rattle.plan_orlib.specs.Shop.{time_of}
use Rattle.plan_orlib.specs.ShopText.{steps_at}
use Rattle.plan_orlib.proofs.steps.next_job.Given as goal

-- reading the rest after the steps so far gives the total result, and total is the sum of the times
-- up to them
abbrev pub invariant-loop : goal.invariant-loop
invariant-loop g l = record {
  reads : steps_at l.machines l.before (l.machines - l.counter) l.steps.items l.words ≡ steps_at l.machines l.before l.machines [] l.fn.words;
  total : l.total ≡ l.before + time_of l.steps.items;
  fits : l.total ≤ 1000000;
}
