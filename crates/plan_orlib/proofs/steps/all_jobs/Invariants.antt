use Rattle.std.proofs.Common.{◌≡◌, ◌≤◌, ◌-◌, [], map}
use Rattle.plan_orlib.specs.Shop.{total_time}
use Rattle.plan_orlib.specs.ShopText.{jobs_at}
use Rattle.plan_orlib.proofs.steps.all_jobs.Given as goal

-- reading the rest after the jobs so far gives the total result, and total is the sum of their
-- times
abbrev pub invariant-loop : goal.invariant-loop
invariant-loop g l = record {
  reads : jobs_at l.machines (l.jobs - l.counter) (map (λ row. row.items) l.rows.items) l.words ≡ jobs_at l.machines l.jobs [] l.fn.words;
  total : l.total ≡ total_time (map (λ row. row.items) l.rows.items);
  fits : l.total ≤ 1000000;
}
