use Rattle.std.proofs.Common.{ℕ, ◌≡◌, ◌-◌, ◌<◌, List, [], ◌∷◌, ◌++◌, length, get_or}
use Rattle.plan_sgs.specs.Problem.{Problem}
use Rattle.plan_report.specs.Chain.{AreAllReached}
use Rattle.plan_report.proofs.ChainLemmas.{IsStretch}
use Rattle.plan_report.proofs.chain.chain_from.Given as goal

-- the activities so far and the next one are the beginning of a chain
abbrev pub invariant-loop-at : goal.invariant-loop-at
invariant-loop-at l = record {
  inside : l.at < length l.reached;
  stretch : (p : Problem) (s slacks : List ℕ) → AreAllReached p s slacks l.reached l.nexts → get_or s (get_or l.reached l.first 0 - 1) 0 ≡ 0
      → IsStretch p s slacks (l.chain.items ++ get_or l.reached l.at 0 ∷ []);
}

abbrev pub decreases-loop-at : goal.decreases-loop-at
decreases-loop-at l = l.at
