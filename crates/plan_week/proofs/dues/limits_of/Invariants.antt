use Rattle.std.proofs.Common.{◌≡◌, ◌+◌, ◌<◌, ℕ, length, get_or}
use Rattle.plan_week.specs.Weeks.{rest_of}
use Rattle.plan_week.specs.Inputs.{no_window}
use Rattle.plan_week.specs.Tardiness.{due_of, IsWindowBy}
use Rattle.plan_week.proofs.dues.limits_of.Given as goal

-- the limits so far
abbrev pub invariant-loop-place : goal.invariant-loop-place
invariant-loop-place l = record {
  whole : length l.limits.items ≡ l.place;
  each : (i : ℕ) → i < l.place → IsWindowBy i (rest_of l.week i) (due_of l.week i + l.late) (get_or l.limits.items i no_window);
}
