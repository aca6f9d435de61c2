use Rattle.std.proofs.Common.{◌≡◌, ◌<◌, ℕ, length, get_or}
use Rattle.plan_week.specs.Tardiness.{tail_of}
use Rattle.plan_week.proofs.dues.tails_of.Given as goal

-- the tails so far
abbrev pub invariant-loop-place : goal.invariant-loop-place
invariant-loop-place l = record {
  whole : length l.tails.items ≡ l.place;
  each : (i : ℕ) → i < l.place → get_or l.tails.items i 0 ≡ tail_of l.week i;
}
