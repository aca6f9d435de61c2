use Rattle.std.proofs.Common.{ℕ, ◌<◌}
use Rattle.plan_sgs.specs.Verdicts.{IsOver}
use Rattle.plan_shop.specs.Shop.{problem_of}
use Rattle.plan_shop.proofs.checks.overloads.first_overloaded.Given as goal

-- no machine so far is overloaded
abbrev pub invariant-loop-machine : goal.invariant-loop-machine
invariant-loop-machine l = (k : ℕ) → k < l.machine → IsOver (problem_of l.shop) l.starts l.t k → ⊥
