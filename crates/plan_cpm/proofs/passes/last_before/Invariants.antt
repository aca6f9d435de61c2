use Rattle.std.proofs.Common.{ℕ, ◌≡◌, ◌+◌, ◌-◌, ◌≤◌, ◌<◌, ◌⊎◌, get_or}
use Rattle.plan_net.specs.Network.{IsArc, lag_of}
use Rattle.plan_cpm.proofs.passes.last_before.Given as goal

-- `latest` is the greatest of the predecessors so far
abbrev pub invariant-loop-k : goal.invariant-loop-k
invariant-loop-k l = record {
  above : (m : ℕ) → m < l.k → get_or l.finishes (get_or l.i-items m 0 - 1) 0 + lag_of l.network (get_or l.i-items m 0) l.j ≤ l.latest;
  reached : (l.latest ≡ 0) ⊎ ((i : ℕ) × IsArc l.network i l.j × (l.latest ≡ get_or l.finishes (i - 1) 0 + lag_of l.network i l.j));
}
