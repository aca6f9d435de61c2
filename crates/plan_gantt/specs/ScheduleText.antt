-- The text of an instance's schedule by the rule of a name, or its error line (docs/definitions.md,
-- "Texts").
use Rattle.std.specs.Prelude.{◌≡◌, ◌⊎◌, ℕ, List}
use Rattle.plan_sgs.specs.Problem.{IsActive, NeedsFit, makespan}
use Rattle.plan_sgs.specs.Instances.{Planned, problem_of, RefusesInstance}
use Rattle.plan_sgs.specs.Keys.{rule_text, RefusesWord, IsRuleSchedule}
use Rattle.plan_sgs.specs.declared.rule.Rule.{Rule}
use Rattle.plan_sgs.specs.declared.fault.SgsFault.{SgsFault}
use Rattle.plan_gantt.specs.ScheduleTable.{schedule_table_text}
use Rattle.plan_gantt.specs.ScheduleFaultText.{schedule_fault_text_of}

-- the starts are those of the rule's serial schedule of an instance, which is active
pub record IsSchedule (i : Planned) (rule : Rule) (starts : List ℕ) : Type 0 where
  pub scheduled : IsRuleSchedule i rule starts
  pub active : IsActive (problem_of i) starts

-- a text is the schedule table of an instance by a rule
pub record IsTableOf (i : Planned) (rule : Rule) (text : List ℕ) : Type 0 where
  pub starts : List ℕ
  pub schedule : IsSchedule i rule starts
  pub shown : text ≡ schedule_table_text i.project.network starts (makespan (problem_of i) starts)

-- a text is the schedule table of an instance by the rule of a name
abbrev pub IsScheduleTextOf : List ℕ → Planned → List ℕ → Type 0
IsScheduleTextOf name i text = (rule : Rule) × (name ≡ rule_text rule) × IsTableOf i rule text

-- the error of a project with capacities: the first need that exceeds a capacity, or else that no
-- rule has the name
abbrev pub RefusesSchedule : List ℕ → Planned → SgsFault → Type 0
RefusesSchedule name i first =
    RefusesInstance i first ⊎ (NeedsFit (problem_of i) × RefusesWord name first)

-- a line reports the error of a project with capacities
abbrev pub TellsRefusal : List ℕ → Planned → List ℕ → Type 0
TellsRefusal name i line =
    (first : SgsFault) × RefusesSchedule name i first × (line ≡ schedule_fault_text_of first)
