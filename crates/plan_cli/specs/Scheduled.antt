-- Schedules that texts can show (docs/definitions.md, "Runs").
use Rattle.std.specs.Prelude.{◌≡◌, ◌⊎◌, ℕ, ◌≤◌, List, Option, Some, None, length, EachIndex}
use Rattle.std.specs.Prelude.{slice_index}
use Rattle.plan_sgs.specs.Problem.{Problem, IsActive, IsFeasible, IsShortest, makespan}
use Rattle.plan_sgs.specs.Instances.{Planned}
use Rattle.plan_sgs.specs.Keys.{rule_text, RefusesWord}
use Rattle.plan_sgs.specs.declared.rule.Rule.{Rule}
use Rattle.plan_sgs.specs.declared.fault.SgsFault.{SgsFault}
use Rattle.plan_sgs.specs.declared.schedule.Schedule.{Schedule}
use Rattle.plan_shop.specs.Shop.{JobShop}
use Rattle.plan_shop.specs.Shop as shops
use Rattle.plan_shop.specs.Names as shop_names
use Rattle.plan_shop.specs.declared.rule.ShopRule.{ShopRule}
use Rattle.plan_gantt.specs.Limits.{latest_start, latest_end}
use Rattle.plan_gantt.specs.ScheduleText.{IsSchedule}
use Rattle.plan_gantt.specs.ScheduleFaultText.{schedule_fault_text_of}
use Rattle.plan_gantt.specs.ShopText.{rule_starts, TellsNoRule}
use Rattle.plan_solve.specs.Solutions.{IsLowerBound}
use Rattle.plan_report.specs.StartsText.{SaysStarts}
use Rattle.plan_cli.specs.CheckRun.{TellsWhyInfeasible}
use Rattle.plan_documents.specs.Documents.{problem_of, count_of, sheet_of}
use Rattle.plan_documents.specs.Starts.{TellsNoStarts}
use Rattle.plan_documents.specs.declared.documents.Plan.{Plan}
use Rattle.plan_documents.specs.declared.documents.Plan.TheVariants as plan
use Rattle.plan_cli.specs.declared.schedules.Scheduled.{Scheduled}
use Rattle.plan_cli.specs.declared.origins.Origin.{Origin}
use Rattle.plan_cli.specs.declared.origins.Origin.TheVariants as origin

-- the starts are those of the active schedule of an instance by the rule with this name
pub record IsScheduleBy (name : List ℕ) (i : Planned) (starts : List ℕ) : Type 0 where
  pub rule : Rule
  pub named : name ≡ rule_text rule
  pub schedule : IsSchedule i rule starts

-- the starts are those of the active schedule of a shop, all machines open, by the rule with this
-- name
pub record IsShopScheduleBy (name : List ℕ) (s : JobShop) (starts : List ℕ) : Type 0 where
  pub rule : ShopRule
  pub named : name ≡ shop_names.rule_text rule
  pub starts_are : starts ≡ rule_starts rule s
  pub active : IsActive (shops.problem_of s) starts

-- the same for a plan
abbrev pub IsByRule : List ℕ → Plan → List ℕ → Type 0
IsByRule name (plan.Project i ids) = IsScheduleBy name i
IsByRule name (plan.Shop s) = IsShopScheduleBy name s

-- the starts are those of a feasible list in a text
pub record IsListed (listed : List ℕ) (p : Plan) (starts : List ℕ) : Type 0 where
  pub said : SaysStarts (sheet_of p) listed starts
  pub feasible : IsFeasible (problem_of p) starts

-- the starts are those of the schedule of a plan
abbrev pub IsScheduleFrom : Origin → Plan → List ℕ → Type 0
IsScheduleFrom (origin.Rule name) p starts = IsByRule name.now p starts
IsScheduleFrom (origin.Starts listed) p starts = IsListed listed.now p starts
IsScheduleFrom (origin.Solved conflicts) p starts = IsActive (problem_of p) starts

-- A lower bound of the makespans of all feasible schedules is one for starts: if it meets their
-- makespan, they are those of a shortest schedule.
pub record Bounds (p : Plan) (starts : List ℕ) (bound : ℕ) : Type 0 where
  pub least : IsLowerBound (problem_of p) bound
  pub below : bound ≤ makespan (problem_of p) starts
  pub shortest : bound ≡ makespan (problem_of p) starts → IsShortest (problem_of p) starts

-- the lower bound that is known for the starts of a schedule: that of the search that found it
abbrev pub IsBoundFrom : Origin → Plan → List ℕ → Option ℕ → Type 0
IsBoundFrom (origin.Rule name) p starts lower = lower ≡ None
IsBoundFrom (origin.Starts listed) p starts lower = lower ≡ None
IsBoundFrom (origin.Solved conflicts) p starts lower =
    (bound : ℕ) × (lower ≡ Some bound) × Bounds p starts bound

-- a schedule of `count` activities or steps that texts can show
pub record CanBeShown (count : ℕ) (schedule : Schedule) : Type 0 where
  pub each_started : length schedule.starts.items ≡ count
  pub in_time : EachIndex schedule.starts.items (λ k.
      slice_index schedule.starts.items k ≤ latest_start)
  pub ends : schedule.makespan ≤ latest_end

-- a schedule of a problem that texts can show, with its makespan
pub record IsShown (problem : Problem) (count : ℕ) (schedule : Schedule) : Type 0 where
  pub makespan : schedule.makespan ≡ makespan problem schedule.starts.items
  pub fits : CanBeShown count schedule

-- the same of a plan
abbrev pub IsShowable : Plan → Schedule → Type 0
IsShowable p schedule = IsShown (problem_of p) (count_of p) schedule

-- the schedule of a plan, with its makespan and the lower bound that is known
pub record IsMadeFrom (from : Origin) (p : Plan) (made : Scheduled) : Type 0 where
  pub starts : IsScheduleFrom from p made.schedule.starts.items
  pub showable : IsShowable p made.schedule
  pub bound : IsBoundFrom from p made.schedule.starts.items made.lower

-- a line reports that no rule has the name
abbrev pub TellsNoRuleOf : List ℕ → Plan → List ℕ → Type 0
TellsNoRuleOf name (plan.Project i ids) line =
    (first : SgsFault) × RefusesWord name first × (line ≡ schedule_fault_text_of first)
TellsNoRuleOf name (plan.Shop s) line = TellsNoRule name line

-- a line refuses the starts in a text: the text fails a check, or else they aren't feasible
abbrev pub TellsNotListed : List ℕ → Plan → List ℕ → Type 0
TellsNotListed listed p line = TellsNoStarts (sheet_of p) listed line
    ⊎ ((starts : List ℕ) × SaysStarts (sheet_of p) listed starts
    × TellsWhyInfeasible p starts line)

-- a line refuses the schedule of a plan: no rule has the name, or the starts are refused
abbrev pub TellsNotMade : Origin → Plan → List ℕ → Type 0
TellsNotMade (origin.Rule name) p line = TellsNoRuleOf name.now p line
TellsNotMade (origin.Starts listed) p line = TellsNotListed listed.now p line
TellsNotMade (origin.Solved conflicts) p line = ⊥
