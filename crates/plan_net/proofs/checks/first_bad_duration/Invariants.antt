use Rattle.std.proofs.Common.{ℕ, ◌≡◌, ◌≤◌, sum, take, []}
use Rattle.plan_net.specs.Network.{unlagged}
use Rattle.plan_net.specs.Limits.{IsGoodDuration}
use Rattle.plan_net.specs.declared.limits.TheConstants.{LONGEST_SUM}
use Rattle.plan_net.proofs.checks.first_bad_duration.Given as goal

-- the durations so far are good, and `sum` is their sum
abbrev pub invariant-loop-k : goal.invariant-loop-k
invariant-loop-k l = record {
  total : l.sum ≡ sum (take l.k l.durations);
  within : l.sum ≤ LONGEST_SUM;
  each : (j : ℕ) → 1 ≤ j → j ≤ l.k → IsGoodDuration (unlagged l.durations []) j;
}
