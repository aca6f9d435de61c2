use Rattle.std.proofs.Common.{ℕ, ◌≡◌, ◌+◌, ◌<◌, length, get_or}
use Rattle.plan_cpm.specs.Successors.{IsCountOf, IsTotalSuccessor}
use Rattle.plan_cpm.proofs.successors.total_successors.Given as goal

-- the numbers so far
abbrev pub invariant-loop-k : goal.invariant-loop-k
invariant-loop-k l = record {
  whole : length l.list.items ≡ l.k;
  each : (i : ℕ) → i < l.k → IsCountOf (IsTotalSuccessor l.network (i + 1)) (get_or l.list.items i 0);
}
