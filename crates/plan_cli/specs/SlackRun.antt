-- The output of `plan slack` for the bytes that it reads (docs/definitions.md, "Runs").
use Rattle.std.specs.Prelude.{◌≡◌, ◌⊎◌, ℕ, List, codes}
use Rattle.plan_sgs.specs.Problem.{NeedsFit}
use Rattle.plan_sgs.specs.Instances.{Planned, problem_of}
use Rattle.plan_report.specs.Slack.{RefusesSlack}
use Rattle.plan_report.specs.SlackText.{IsSlackText}
use Rattle.plan_report.specs.IdSheets.{id_sheet}
use Rattle.plan_report.specs.StartsText.{SaysStarts}
use Rattle.plan_table.specs.Names.{Name}
use Rattle.plan_report.specs.VerdictText.{sentence_of}
use Rattle.plan_report.specs.declared.slack.SlackFault.{SlackFault}
use Rattle.plan_report.specs.declared.slack.SlackFault.TheVariants as slack
use Rattle.plan_documents.specs.ScheduleRun.{TellsNeed}
use Rattle.plan_documents.specs.Starts.{TellsNoStarts}
use Rattle.plan_documents.specs.VerdictText.{infeasible_line}

-- a text is the table of slacks of the schedule with the starts in a text, for a project with ids
abbrev pub IsSlackOf : List Name → List ℕ → Planned → List ℕ → Type 0
IsSlackOf ids listed i text =
    (starts : List ℕ) × SaysStarts (id_sheet ids i.project.network) listed starts
    × IsSlackText i starts text

-- a line gives the reason why starts have no slack
abbrev pub TellsSlackFault : SlackFault → List ℕ → Type 0
TellsSlackFault slack.NoMemory line = ⊥
TellsSlackFault (slack.NotFeasible verdict) line = line ≡ infeasible_line (sentence_of verdict)
TellsSlackFault slack.Late line = line ≡ codes "S9 late"

-- a line gives the first check that a text of starts fails, for an instance whose needs are within
-- its capacities
abbrev pub TellsBadStarts : List Name → List ℕ → Planned → List ℕ → Type 0
TellsBadStarts ids listed i line =
    NeedsFit (problem_of i) × TellsNoStarts (id_sheet ids i.project.network) listed line

-- a line refuses the slacks of the starts in a text: the text fails a check, or else the starts
-- aren't feasible or end too late
abbrev pub TellsBadSlack : List Name → List ℕ → Planned → List ℕ → Type 0
TellsBadSlack ids listed i line = TellsBadStarts ids listed i line
    ⊎ ((starts : List ℕ) × SaysStarts (id_sheet ids i.project.network) listed starts
    × ((first : SlackFault) × RefusesSlack (problem_of i) starts first
    × TellsSlackFault first line))

-- the same, behind a need that is above its capacity
abbrev pub TellsNoSlack : List Name → List ℕ → Planned → List ℕ → Type 0
TellsNoSlack ids listed i line = TellsNeed i line ⊎ TellsBadSlack ids listed i line
