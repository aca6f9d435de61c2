-- The exit statuses of the program (docs/errors.md).
use Rattle.std.specs.Prelude.{ℕ}
use Rattle.plan_sgs.specs.declared.verdict.Verdict.{Verdict}
use Rattle.plan_sgs.specs.declared.verdict.Verdict.TheVariants as verdict
use Rattle.plan_weekverdict.specs.declared.verdict.WeekVerdict.{WeekVerdict}
use Rattle.plan_weekverdict.specs.declared.verdict.WeekVerdict.TheVariants as week_verdict
use Rattle.plan_program.specs.declared.status.Status.{Status}
use Rattle.plan_program.specs.declared.status.Status.TheVariants as status

-- the number that the program exits with
abbrev pub code_of : Status → ℕ
code_of status.Done = 0
code_of status.Failed = 1
code_of status.Misused = 2
code_of status.NotActive = 3

-- the outcome of `plan check --status` for the verdict on a schedule
abbrev pub status_of : Verdict → Status
status_of verdict.Active = status.Done
status_of _ = status.NotActive

-- the same for the verdict on the starts of a list with dates
abbrev pub week_status_of : WeekVerdict → Status
week_status_of week_verdict.Feasible = status.Done
week_status_of _ = status.NotActive
