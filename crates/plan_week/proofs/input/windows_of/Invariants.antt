use Rattle.std.proofs.Common.{◌≡◌, ◌<◌, ℕ, length, get_or}
use Rattle.plan_week.specs.Weeks.{state_of}
use Rattle.plan_week.specs.Inputs.{IsWindowOf, no_window}
use Rattle.plan_week.proofs.input.windows_of.Given as goal

-- the windows so far
abbrev pub invariant-loop-place : goal.invariant-loop-place
invariant-loop-place l = record {
  whole : length l.windows.items ≡ l.place;
  each : (i : ℕ) → i < l.place → IsWindowOf l.week.today i (state_of l.week i) (get_or l.windows.items i no_window);
}
