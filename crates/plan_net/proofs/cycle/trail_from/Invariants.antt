use Rattle.std.proofs.Common.{ℕ, ◌≡◌, ◌↔◌, length}
use Rattle.std.specs.List.{Contains}
use Rattle.plan_net.specs.Network.{count_of, IsActivity}
use Rattle.plan_net.specs.Cycle.{IsCaught}
use Rattle.plan_net.specs.Placed.{IsPlaced, open_count}
use Rattle.plan_net.specs.Trails.{IsTrail}
use Rattle.plan_net.proofs.cycle.trail_from.Given as goal

-- the trail is a walk to `at`, and the marks are those of its members
abbrev pub invariant-loop-met : goal.invariant-loop-met
invariant-loop-met l = record {
  trail : IsTrail l.arcs l.trail.items l.at;
  caught : IsCaught l.arcs l.at;
  whole : length l.met.items ≡ count_of l.arcs;
  marks : (j : ℕ) → IsActivity l.arcs j → IsPlaced l.met.items j ↔ Contains l.trail.items j;
}

abbrev pub decreases-loop-met : goal.decreases-loop-met
decreases-loop-met l = open_count l.met.items
