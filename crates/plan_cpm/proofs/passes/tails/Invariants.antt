use Rattle.std.proofs.Common.{ℕ, ◌≡◌, ◌*◌, ◌-◌, ◌≤◌, length, get_or}
use Rattle.plan_net.specs.Network.{count_of}
use Rattle.plan_cpm.proofs.BackLemmas.{AreRests}
use Rattle.plan_cpm.proofs.passes.tails.Given as goal

-- the tails from `left` on are greatest lengths; the other entries are the times after the
-- activities by these tails
abbrev pub invariant-loop-left : goal.invariant-loop-left
invariant-loop-left l = record {
  whole : length l.tails.items ≡ count_of l.network;
  low : l.left ≤ length l.order;
  rests : AreRests l.network l.order l.tails.items l.left;
  bound : (k : ℕ) → get_or l.tails.items k 0 ≤ 20000 * (length l.order - l.left);
}

abbrev pub decreases-loop-left : goal.decreases-loop-left
decreases-loop-left l = l.left
