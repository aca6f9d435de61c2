use Rattle.std.proofs.Common.{◌≡◌, ◌<◌, ℕ, length, get_or, None}
use Rattle.plan_week.specs.declared.week.State.TheVariants.{Open}
use Rattle.plan_week.specs.Weeks.{state_of}
use Rattle.plan_weekverdict.specs.Pins.{pin}
use Rattle.plan_weekverdict.proofs.pins.pinned_states.Given as goal

-- the states so far
abbrev pub invariant-loop-place : goal.invariant-loop-place
invariant-loop-place l = record {
  whole : length l.states.items ≡ l.place;
  each : (i : ℕ) → i < l.place → get_or l.states.items i (Open 0 None) ≡ pin (get_or l.starts i 0) (state_of l.week i);
}
