-- The room behind the end of an activity gives its slack.
use Rattle.std.proofs.Common.{ℕ, ◌+◌, ◌≤◌, ◌<◌, List, get_or, arith}
use Rattle.plan_sgs.specs.Problem.{Problem, count, duration, IsFeasible}
use Rattle.plan_report.specs.Slack.{CanWait, IsSlack, IsDue}
use Rattle.plan_report.proofs.MoveLemmas.{length_moved, arcs_moved, ends_from_arcs, ends_earlier, makespan_moved, ends_by_makespan}
use Rattle.plan_report.proofs.MoveLemmas.{HasRoomAfter, room_from_after, after_from_room}

-- after each delay up to x the others leave room for the activity
abbrev pub LeavesRoom : Problem → List ℕ → ℕ → ℕ → Type 0
LeavesRoom p s j x = (z : ℕ) → z ≤ x → HasRoomAfter p s j (get_or s j 0 + z)

-- the longest delay with room, up to the latest end, is the slack
pub slack_is : (p : Problem) (s : List ℕ) (j due x : ℕ) → IsFeasible p s → j < count p → IsDue p s j due
    → get_or s j 0 + duration p j + x ≤ due → LeavesRoom p s j x
    → ((y : ℕ) → get_or s j 0 + duration p j + y ≤ due → LeavesRoom p s j y → y ≤ x) → IsSlack p s j x
slack_is p s j due x feasible inside is ends room most = (
  can,
  λ y waits.
      let whole = feasible.each_started in
      let last = waits y (omega arith) in
      let within = is.latest (get_or s j 0 + y + duration p j) (ends_by_makespan p s j (get_or s j 0 + y) whole inside last.no_longer)
      (ends_from_arcs p s j (get_or s j 0 + y) whole inside last.feasible.arcs) in
      most y (omega (arith, within)) (λ z below. after_from_room p s j (get_or s j 0 + z) whole inside (waits z below).feasible.capacities),
) where
  can : CanWait p s j x
  can z below = record {
    since = omega arith;
    feasible = record {
      each_started = length_moved p s j (get_or s j 0 + z) feasible.each_started;
      arcs = arcs_moved p s j (get_or s j 0 + z) feasible.each_started inside feasible.arcs (omega arith)
          (ends_earlier p s j (get_or s j 0 + z + duration p j) due (omega (arith, below, ends)) is.arcs);
      capacities = room_from_after p s j (get_or s j 0 + z) feasible.each_started inside feasible.capacities (omega arith) (room z below);
    };
    no_longer = makespan_moved p s j (get_or s j 0 + z) feasible.each_started inside (omega (arith, below, ends, is.no_longer));
  }
