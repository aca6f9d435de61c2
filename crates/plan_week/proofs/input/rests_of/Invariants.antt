use Rattle.std.proofs.Common.{◌≡◌, ◌<◌, ℕ, length, get_or}
use Rattle.plan_week.specs.Weeks.{rest_of}
use Rattle.plan_week.proofs.input.rests_of.Given as goal

-- the remaining durations of the activities so far
abbrev pub invariant-loop-place : goal.invariant-loop-place
invariant-loop-place l = record {
  whole : length l.rests.items ≡ l.place;
  each : (i : ℕ) → i < l.place → get_or l.rests.items i 0 ≡ rest_of l.week i;
}
