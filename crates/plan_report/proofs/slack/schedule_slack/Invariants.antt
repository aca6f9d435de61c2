use Rattle.std.proofs.Common.{ℕ, ◌≡◌, ◌<◌, length, get_or}
use Rattle.plan_sgs.specs.Instances.{problem_of}
use Rattle.plan_report.specs.Slack.{IsSlack}
use Rattle.plan_report.proofs.slack.schedule_slack.Given as goal

-- the slacks of the activities so far
abbrev pub invariant-loop-k : goal.invariant-loop-k
invariant-loop-k l = record {
  whole : length l.slacks.items ≡ l.k;
  each : (h : ℕ) → h < l.k → IsSlack (problem_of l.instance) l.starts h (get_or l.slacks.items h 0);
}
