-- The content of the pages of a plan (docs/definitions.md, "Desks"). Dates are greatest lengths of
-- paths. Schedules are those of the named rule, feasible and active. A schedule that is called
-- optimal has the least makespan of all feasible ones. Pages use the plan's file, the lags of the
-- desk, and the capacities that are bound and published at that moment.
use Rattle.std.specs.Prelude.{◌≡◌, ◌⊎◌, ℕ, List, Some, length}
use Rattle.plan_psplib.specs.Project.{Project}
use Rattle.plan_cpm.specs.Dates.{DateTable, AreDates}
use Rattle.plan_sgs.specs.Problem.{makespan, IsActive, IsShortest}
use Rattle.plan_sgs.specs.Instances.{Planned, problem_of}
use Rattle.plan_shop.specs.Shop.{JobShop}
use Rattle.plan_shop.specs.Shop as shops
use Rattle.plan_shop.specs.Docs.{NoneIsClosed}
use Rattle.plan_exact.specs.declared.answer.Kind.TheVariants.{Optimal}
use Rattle.plan_exact.specs.declared.shop_solution.Solved.{Solved}
use Rattle.plan_gantt.specs.DateTable.{date_table_text}
use Rattle.plan_gantt.specs.ScheduleTable.{schedule_table_text}
use Rattle.plan_gantt.specs.ShopTable.{shop_table_text}
use Rattle.plan_gantt.specs.Chart.{chart_text}
use Rattle.plan_gantt.specs.Charts.{activity_intervals}
use Rattle.plan_gantt.specs.ShopCharts.{machine_intervals, IsShopCalendarTable}
use Rattle.plan_gantt.specs.CalendarTable.{IsCalendarTable}
use Rattle.plan_calendar.specs.CalendarText.{IsCalendar}
use Rattle.plan_calendar.specs.WorkingDay.{Workdays}
use Rattle.plan_gantt.specs.BestText.{best_text_of}
use Rattle.plan_gantt.specs.ProjectBestText.{best_project_text_of}
use Rattle.plan_rows.specs.World.{Text, Plan}
use Rattle.plan_rows.specs.Changes.{Change}
use Rattle.plan_rows.specs.Views.{View}
use Rattle.plan_desk.specs.Calls.{Call, Request, Reply, dates, schedule, chart, days, best}
use Rattle.plan_rows.specs.Plans.{plan_seen, IsProjectOf, IsShopOf, bound_project, open_machines}
use Rattle.plan_desk.specs.PageRoutes.{IsScheduleBy, IsShopScheduleBy}
use Rattle.plan_desk.specs.Decisions.{IsDecision}

-- a page shows the dates that are greatest lengths of paths
pub record ShowsDates (v : View) (n text : Text) : Type 0 where
  pub plan : Plan
  pub project : Project
  pub table : DateTable
  pub seen : plan_seen v n ≡ Some plan
  pub said : IsProjectOf v plan project
  pub longest : AreDates project.network table
  pub shown : text ≡ date_table_text project.network table

-- a page shows the active schedule of a project by the rule with this name
pub record ShowsSchedule (v : View) (n rule : Text)
    (IsText : Plan → Planned → List ℕ → Text → Type 0) (text : Text) : Type 0 where
  pub plan : Plan
  pub project : Project
  pub starts : List ℕ
  pub seen : plan_seen v n ≡ Some plan
  pub said : IsProjectOf v plan project
  pub by_rule : IsScheduleBy (bound_project v plan project) rule starts
  pub active : IsActive (problem_of (bound_project v plan project)) starts
  pub shown : IsText plan (bound_project v plan project) starts text

-- a page shows the active schedule of a shop by the rule with this name, and all machines in use
-- are open
pub record ShowsShopSchedule (v : View) (n rule : Text)
    (IsText : Plan → JobShop → List ℕ → Text → Type 0) (text : Text) : Type 0 where
  pub plan : Plan
  pub shop : JobShop
  pub starts : List ℕ
  pub seen : plan_seen v n ≡ Some plan
  pub said : IsShopOf plan shop
  pub opened : NoneIsClosed shop.steps (open_machines v plan.n shop.machines)
  pub by_rule : IsShopScheduleBy shop (open_machines v plan.n shop.machines) rule starts
  pub active : IsActive (shops.problem_of shop) starts
  pub shown : IsText plan shop starts text

-- a page shows the best schedule found for a project: if it is called optimal, its makespan is
-- least
pub record ShowsBest (v : View) (n text : Text) : Type 0 where
  pub plan : Plan
  pub project : Project
  pub solved : Solved
  pub seen : plan_seen v n ≡ Some plan
  pub said : IsProjectOf v plan project
  pub active : IsActive (problem_of (bound_project v plan project)) solved.schedule.starts.items
  pub shortest : solved.kind ≡ Optimal
      → IsShortest (problem_of (bound_project v plan project)) solved.schedule.starts.items
  pub makespan : solved.schedule.makespan
      ≡ makespan (problem_of (bound_project v plan project)) solved.schedule.starts.items
  pub shown : text ≡ best_project_text_of (bound_project v plan project) solved

-- the same for a shop
pub record ShowsShopBest (v : View) (n text : Text) : Type 0 where
  pub plan : Plan
  pub shop : JobShop
  pub solved : Solved
  pub seen : plan_seen v n ≡ Some plan
  pub said : IsShopOf plan shop
  pub opened : NoneIsClosed shop.steps (open_machines v plan.n shop.machines)
  pub active : IsActive (shops.problem_of shop) solved.schedule.starts.items
  pub shortest : solved.kind ≡ Optimal
      → IsShortest (shops.problem_of shop) solved.schedule.starts.items
  pub makespan : solved.schedule.makespan
      ≡ makespan (shops.problem_of shop) solved.schedule.starts.items
  pub shown : text ≡ best_text_of shop solved

abbrev pub IsTable : Plan → Planned → List ℕ → Text → Type 0
IsTable plan i starts text =
    text ≡ schedule_table_text i.project.network starts (makespan (problem_of i) starts)

abbrev pub IsShopTable : Plan → JobShop → List ℕ → Text → Type 0
IsShopTable plan s starts text =
    text ≡ shop_table_text s starts (makespan (shops.problem_of s) starts)

abbrev pub IsChart : Plan → Planned → List ℕ → Text → Type 0
IsChart plan i starts text =
    text ≡ chart_text (makespan (problem_of i) starts)
    (activity_intervals i.project.network starts) 1 (length i.project.network.durations)

abbrev pub IsShopChart : Plan → JobShop → List ℕ → Text → Type 0
IsShopChart plan s starts text =
    text ≡ chart_text (makespan (shops.problem_of s) starts)
    (machine_intervals s starts) 0 s.machines

abbrev pub AreDays : Plan → Planned → List ℕ → Text → Type 0
AreDays plan i starts text =
    (c : Workdays) × IsCalendar plan.start plan.days c
    × IsCalendarTable c i.project.network starts text

abbrev pub AreShopDays : Plan → JobShop → List ℕ → Text → Type 0
AreShopDays plan s starts text =
    (c : Workdays) × IsCalendar plan.start plan.days c × IsShopCalendarTable c s starts text

-- the page that a call asks for shows what it promises
abbrev pub IsPromised : View → Call → Text → Type 0
IsPromised v (dates desk n) text = ShowsDates v n text
IsPromised v (schedule desk n rule) text =
    ShowsSchedule v n rule IsTable text ⊎ ShowsShopSchedule v n rule IsShopTable text
IsPromised v (chart desk n rule) text =
    ShowsSchedule v n rule IsChart text ⊎ ShowsShopSchedule v n rule IsShopChart text
IsPromised v (days desk n rule) text =
    ShowsSchedule v n rule AreDays text ⊎ ShowsShopSchedule v n rule AreShopDays text
IsPromised v (best desk n budget) text = ShowsBest v n text ⊎ ShowsShopBest v n text
IsPromised v _ text = Unit {0}

-- each page of a decision shows what it promises
unfoldable pub PagesArePromised : Type 0
PagesArePromised = (v : View) (r : Request) (reply : Reply) (change : Change)
    → IsDecision v r reply change → reply.status ≡ 200 → IsPromised v r.call reply.body
