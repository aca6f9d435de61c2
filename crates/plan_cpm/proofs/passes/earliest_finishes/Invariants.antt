use Rattle.std.proofs.Common.{ℕ, ◌≡◌, ◌*◌, ◌≤◌, length, get_or}
use Rattle.plan_net.specs.Network.{count_of, IsGreatest}
use Rattle.plan_cpm.specs.Lengths.{IsLengthTo}
use Rattle.plan_cpm.proofs.PassLemmas.{RightBetween}
use Rattle.plan_cpm.proofs.passes.earliest_finishes.Given as goal

-- the finishes of the activities so far are greatest lengths
abbrev pub invariant-loop-j : goal.invariant-loop-j
invariant-loop-j l = record {
  whole : length l.finishes.items ≡ count_of l.network;
  done : RightBetween (λ j. IsGreatest (IsLengthTo l.network j)) l.j-items l.finishes.items 0 l.j-index;
  bound : (k : ℕ) → get_or l.finishes.items k 0 ≤ 20000 * l.j-index;
}
