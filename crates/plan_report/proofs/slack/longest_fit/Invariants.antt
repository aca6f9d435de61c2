use Rattle.std.proofs.Common.{ℕ, ◌<◌, get_or}
use Rattle.plan_profile.specs.InUse.{in_use, capacities}
use Rattle.plan_profile.specs.Usage.{Fits}
use Rattle.plan_report.proofs.slack.longest_fit.Given as goal

-- the needs fit at the changes so far
abbrev pub invariant-loop-change : goal.invariant-loop-change
invariant-loop-change l = (m : ℕ) → m < l.change-index → l.from < get_or l.change-items m 0
    → Fits (capacities l.profile) (in_use l.profile) (get_or l.change-items m 0) 1 l.needs
