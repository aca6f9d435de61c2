-- `from` is the greatest that the predecessors so far allow.
use Rattle.std.proofs.Common.{ℕ, ◌≡◌, ◌+◌, ◌-◌, ◌≤◌, ◌<◌, ◌⊎◌, get_or}
use Rattle.plan_net.specs.Network.{IsArc, lag_of}
use Rattle.plan_sgs.specs.Serial.{end_of}
use Rattle.plan_sgs.specs.Instances.{problem_of}
use Rattle.plan_sgs.proofs.placement.release_of.Given as goal

abbrev pub invariant-loop-k : goal.invariant-loop-k
invariant-loop-k l = record {
  above : (m : ℕ) → m < l.k → end_of (problem_of l.instance) l.placed (get_or l.i-items m 0 - 1) + lag_of l.instance.project.network (get_or l.i-items m 0) l.j ≤ l.from;
  reached : (l.from ≡ 0) ⊎ ((i : ℕ) × IsArc l.instance.project.network i l.j × (l.from ≡ end_of (problem_of l.instance) l.placed (i - 1) + lag_of l.instance.project.network i l.j));
}
