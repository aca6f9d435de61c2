use Rattle.std.proofs.Common.{ℕ, ◌≡◌, ◌≤◌, List, length}
use Rattle.plan_net.specs.Network.{ListsRising}
use Rattle.plan_net.specs.Placed.{IsPlaced}
use Rattle.plan_cpm.proofs.successors.marks_set.Given as goal

-- `count` is the number of the marks so far that are set
abbrev pub invariant-loop-mark : goal.invariant-loop-mark
invariant-loop-mark l = record {
  counted : (members : List ℕ) × ListsRising (λ k. (1 ≤ k) × (k ≤ l.mark-index) × IsPlaced l.row k) members × (length members ≡ l.count);
  small : l.count ≤ l.mark-index;
}
