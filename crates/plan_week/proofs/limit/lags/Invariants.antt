use Rattle.std.proofs.Common.{◌≡◌, min, take}
use Rattle.std.specs.List.{sum_by}
use Rattle.plan_solve.specs.declared.plans.TheConstants.{LATEST_COST}
use Rattle.plan_week.proofs.limit.lags.Given as goal

-- the sum so far
abbrev pub invariant-loop-arc : goal.invariant-loop-arc
invariant-loop-arc l = l.sum ≡ min (sum_by (λ arc. arc.lag) (take l.arc-index l.week.arcs.items)) LATEST_COST
