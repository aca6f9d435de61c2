use Rattle.std.proofs.Common.{ℕ, ◌+◌, ◌-◌, ◌≤◌, ◌<◌, get_or}
use Rattle.plan_net.specs.Network.{lag_of}
use Rattle.plan_sgs.specs.Problem.{duration, makespan}
use Rattle.plan_sgs.specs.Instances.{problem_of}
use Rattle.plan_report.specs.Slack.{LetEnd}
use Rattle.plan_report.proofs.slack.due_of.Given as goal

-- the latest end that the successors so far and the makespan allow
abbrev pub invariant-loop-h : goal.invariant-loop-h
invariant-loop-h l = record {
  ended : get_or l.starts (l.j - 1) 0 + duration (problem_of l.instance) (l.j - 1) ≤ l.due;
  no_longer : l.due ≤ makespan (problem_of l.instance) l.starts;
  arcs : (m : ℕ) → m < l.h-index → l.due + lag_of l.instance.project.network l.j (get_or l.h-items m 0) ≤ get_or l.starts (get_or l.h-items m 0 - 1) 0;
  latest : (end : ℕ) → end ≤ makespan (problem_of l.instance) l.starts → LetEnd (problem_of l.instance) l.starts (l.j - 1) end → end ≤ l.due;
}
