use Rattle.std.proofs.Common.{◌≡◌, ◌<◌, ◌+◌, ℕ, length, get_or, pos, ◌+ℤ◌}
use Rattle.jiff_core.specs.Date.{epoch_day}
use Rattle.jiff_core.specs.declared.civil.date.Date.{Date}
use Rattle.plan_holidays.proofs.days.days_of.Given as goal

-- the days so far are those from the first on
abbrev pub invariant-loop-day : goal.invariant-loop-day
invariant-loop-day l = record {
  long : l.first + length l.days.items ≡ l.day;
  each : (k : ℕ) (d : Date) → k < length l.days.items → epoch_day (get_or l.days.items k d) +ℤ pos 4371587 ≡ pos (l.first + k);
}
