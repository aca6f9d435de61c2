use Rattle.std.proofs.Common.{ℕ, ◌<◌}
use Rattle.plan_week.specs.Overloads.{IsOverload}
use Rattle.plan_week.proofs.overload.least_at.Given as goal

-- the resources so far have no overload
abbrev pub invariant-loop-resource : goal.invariant-loop-resource
invariant-loop-resource l = (k : ℕ) → k < l.resource → IsOverload l.week k l.instant → ⊥
