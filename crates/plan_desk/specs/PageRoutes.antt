-- The routes of a desk's queries about a plan: dates, schedules, charts and working days
-- (docs/definitions.md, "Desks"). Each requires the desk's key. A project is scheduled with the
-- lags of the desk and the published capacities that are bound to its resources. A shop has a
-- schedule only if all machines in use are open.
use Rattle.std.specs.Prelude.{◌≡◌, ◌⊎◌, ℕ, Bool, List, length, nat_eq}
use Rattle.plan_sgs.specs.Problem.{makespan}
use Rattle.plan_sgs.specs.Instances.{Planned, problem_of}
use Rattle.plan_sgs.specs.Keys.{rule_text}
use Rattle.plan_sgs.specs.declared.rule.Rule.{Rule}
use Rattle.plan_shop.specs.Shop.{JobShop}
use Rattle.plan_shop.specs.Shop as shops
use Rattle.plan_shop.specs.Docs.{NoneIsClosed, IsFirstClosed}
use Rattle.plan_shop.specs.Names as shop_names
use Rattle.plan_shop.specs.declared.rule.ShopRule.{ShopRule}
use Rattle.plan_shop.specs.declared.fault.ShopFault.TheVariants as shop_fault
use Rattle.plan_gantt.specs.DateTable.{IsDateText}
use Rattle.plan_gantt.specs.ScheduleText.{IsSchedule, TellsRefusal}
use Rattle.plan_gantt.specs.ScheduleTable.{schedule_table_text}
use Rattle.plan_gantt.specs.ShopTable.{shop_table_text}
use Rattle.plan_gantt.specs.ShopText.{rule_starts, TellsNoRule}
use Rattle.plan_gantt.specs.ShopFaultText.{shop_fault_text_of}
use Rattle.plan_gantt.specs.Chart.{chart_text}
use Rattle.plan_gantt.specs.Charts.{activity_intervals}
use Rattle.plan_gantt.specs.ShopCharts.{machine_intervals, IsShopCalendarTable, HasStepBeyond}
use Rattle.plan_gantt.specs.CalendarTable.{IsCalendarTable, HasActivityBeyond}
use Rattle.plan_calendar.specs.WorkingDay.{Workdays}
use Rattle.plan_gantt.specs.CalendarFaultText.{calendar_fault_text_of, missing_calendar_text}
use Rattle.plan_calendar.specs.declared.calendar.CalendarFault.TheVariants as calendar_fault
use Rattle.plan_sgs.specs.Problem.{IsActive}
use Rattle.plan_rows.specs.World.{Text, Plan}
use Rattle.plan_rows.specs.Views.{View}
use Rattle.plan_desk.specs.Outcomes.{Outcome, refuses, shows, unless, some, why_or}
use Rattle.plan_rows.specs.Plans.{IsProjectOf, IsShopOf, bound_project, open_machines}
use Rattle.plan_calendar.specs.CalendarText.{IsCalendar}
use Rattle.plan_desk.specs.PlanRoutes.{of_plan, by_kind}
use Rattle.plan_desk.specs.Refusals.{other_kind, bad_schedule, bad_calendar}

-- the dates of a project, which ignore its resources
unfoldable pub Dates : View → Text → Outcome
Dates v n = of_plan v n (λ plan. by_kind plan.kind
    (some (IsProjectOf v plan) (λ p. shows (IsDateText p.network)))
    (refuses other_kind))

-- the starts are those of the active schedule of an instance by the rule with this name
pub record IsScheduleBy (i : Planned) (name : Text) (starts : List ℕ) : Type 0 where
  pub rule : Rule
  pub named : name ≡ rule_text rule
  pub schedule : IsSchedule i rule starts

-- the schedule of a project by the rule with this name, or its refusal: a need exceeds its
-- capacity, else no rule has this name
unfoldable pub OfSchedule : View → Plan → Text → (Planned → List ℕ → Outcome) → Outcome
OfSchedule v plan rule Rest = some (IsProjectOf v plan) (λ p.
    why_or (TellsRefusal rule (bound_project v plan p)) bad_schedule
    (IsScheduleBy (bound_project v plan p) rule)
    (Rest (bound_project v plan p)))

-- a line gives the first machine in use that is closed
abbrev pub TellsClosed : JobShop → List Bool → Text → Type 0
TellsClosed s usable line =
    (m : ℕ) × IsFirstClosed s.steps usable m
    × (line ≡ shop_fault_text_of (shop_fault.MachineClosed m))

-- a line refuses the schedule of a shop by a rule: no rule has this name, else a machine in use is
-- closed
abbrev pub TellsShopRefusal : Text → JobShop → List Bool → Text → Type 0
TellsShopRefusal name s usable line =
    TellsNoRule name line
    ⊎ (((rule : ShopRule) × (name ≡ shop_names.rule_text rule)) × TellsClosed s usable line)

-- the starts are those of the active schedule of a shop by the rule with this name, and all
-- machines in use are open
pub record IsShopScheduleBy (s : JobShop) (usable : List Bool) (name : Text) (starts : List ℕ)
    : Type 0 where
  pub rule : ShopRule
  pub named : name ≡ shop_names.rule_text rule
  pub opened : NoneIsClosed s.steps usable
  pub starts_are : starts ≡ rule_starts rule s
  pub active : IsActive (shops.problem_of s) starts

-- the schedule of a shop by the rule with this name, or its refusal
unfoldable pub OfShopSchedule : View → Plan → Text → (JobShop → List ℕ → Outcome) → Outcome
OfShopSchedule v plan rule Rest = some (IsShopOf plan) (λ s.
    why_or (TellsShopRefusal rule s (open_machines v plan.n s.machines)) bad_schedule
    (IsShopScheduleBy s (open_machines v plan.n s.machines) rule) (Rest s))

-- the table of a schedule
unfoldable pub Schedules : View → Text → Text → Outcome
Schedules v n rule = of_plan v n (λ plan. by_kind plan.kind
    (OfSchedule v plan rule (λ i starts. shows (λ text.
    text ≡ schedule_table_text i.project.network starts (makespan (problem_of i) starts))))
    (OfShopSchedule v plan rule (λ s starts. shows (λ text.
    text ≡ shop_table_text s starts (makespan (shops.problem_of s) starts)))))

-- the chart of a schedule: one line for each activity, numbered from 1, or for each machine,
-- numbered from 0
unfoldable pub Charts : View → Text → Text → Outcome
Charts v n rule = of_plan v n (λ plan. by_kind plan.kind
    (OfSchedule v plan rule (λ i starts. shows (λ text.
    text ≡ chart_text (makespan (problem_of i) starts)
    (activity_intervals i.project.network starts) 1 (length i.project.network.durations))))
    (OfShopSchedule v plan rule (λ s starts. shows (λ text.
    text ≡ chart_text (makespan (shops.problem_of s) starts)
    (machine_intervals s starts) 0 s.machines))))

-- a line refuses a table because one of its days is beyond the calendar
abbrev pub TellsBeyond : (Workdays → Type 0) → Text → Text → Text → Type 0
TellsBeyond IsBeyond start days line =
    (c : Workdays) × IsCalendar start days c × IsBeyond c
    × (line ≡ calendar_fault_text_of calendar_fault.BeyondCalendar)

-- a text shows days of the calendar that two texts spell
abbrev pub ShowsDays : (Workdays → Text → Type 0) → Text → Text → Text → Type 0
ShowsDays IsTable start days text = (c : Workdays) × IsCalendar start days c × IsTable c text

-- the table of working days in the plan's calendar, or its refusal: no calendar is set, else a day
-- is beyond the calendar
unfoldable pub OfCalendar : Plan → (Workdays → Text → Type 0) → (Workdays → Type 0) → Outcome
OfCalendar plan IsTable IsBeyond =
    unless (nat_eq (length plan.start) 0) (bad_calendar missing_calendar_text)
    (why_or (TellsBeyond IsBeyond plan.start plan.days) bad_calendar
    (ShowsDays IsTable plan.start plan.days) (λ text. shows (λ shown. shown ≡ text)))

-- the working days of a schedule
unfoldable pub Days : View → Text → Text → Outcome
Days v n rule = of_plan v n (λ plan. by_kind plan.kind
    (OfSchedule v plan rule (λ i starts.
    OfCalendar plan (λ c. IsCalendarTable c i.project.network starts)
    (λ c. HasActivityBeyond c i.project.network starts)))
    (OfShopSchedule v plan rule (λ s starts.
    OfCalendar plan (λ c. IsShopCalendarTable c s starts)
    (λ c. HasStepBeyond c s starts))))
