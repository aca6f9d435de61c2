use Rattle.std.proofs.Common.{◌≡◌, ◌≤◌}
use Rattle.plan_sgs.specs.Problem.{total}
use Rattle.plan_sgs.proofs.StartLemmas.{amount_at}
use Rattle.plan_shop.specs.Shop.{problem_of}
use Rattle.plan_shop.proofs.checks.overloads.usage_at.Given as goal

-- those so far
abbrev pub invariant-loop-x : goal.invariant-loop-x
invariant-loop-x l = record {
  sum : l.used ≡ total l.x (amount_at (problem_of l.shop) l.starts l.t l.machine);
  few : l.used ≤ l.x;
}
