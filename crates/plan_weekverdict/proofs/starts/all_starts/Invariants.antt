use Rattle.std.proofs.Common.{◌≡◌, ◌≤◌, ◌<◌, ℕ, length, get_or}
use Rattle.plan_week.specs.Weeks.{state_of}
use Rattle.plan_weekverdict.specs.Starts.{open_before, start_by}
use Rattle.plan_weekverdict.proofs.starts.all_starts.Given as goal

-- the starts so far, and how many activities so far are open
abbrev pub invariant-loop-place : goal.invariant-loop-place
invariant-loop-place l = record {
  whole : length l.starts.items ≡ l.place;
  opened : l.next ≡ open_before l.week l.place;
  few : l.next ≤ l.place;
  each : (i : ℕ) → i < l.place
      → get_or l.starts.items i 0 ≡ start_by l.week.today (get_or l.given (open_before l.week i) 0) (state_of l.week i);
}
