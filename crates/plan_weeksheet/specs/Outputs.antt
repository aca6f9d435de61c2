-- The output of `plan report --solve` for a list with dates.
use Rattle.std.specs.Prelude.{◌⊎◌, ℕ, List, Option, Some, None}
use Rattle.plan_views.specs.LinkColumns.{Links}
use Rattle.plan_weekfile.specs.Links.{week_links}
use Rattle.plan_weekfile.specs.Outputs.{RefusesWeek}
use Rattle.plan_weekfile.specs.declared.order.WeekOrder.{WeekOrder}
use Rattle.plan_weeklist.specs.declared.listed.ListedWeek.{ListedWeek}
use Rattle.plan_weeks.specs.WeekTables.{ids_from}
use Rattle.plan_weeks.specs.declared.planning.Lateness.{Lateness}
use Rattle.plan_weeks.specs.declared.planning.WeekPlan.{WeekPlan}
use Rattle.plan_weekview.specs.DaysOutputs.{IsPlanOfOrder}
use Rattle.plan_weeksheet.specs.Names.{sheet_names}
use Rattle.plan_weeksheet.specs.Pages.{IsPageOf, TellsNoPage}
use Rattle.plan_weeksheet.specs.Rectangles.{Rectangle}
use Rattle.plan_weeksheet.specs.WeekRectangles.{week_rectangles}
use Rattle.plan_weeksheet.specs.declared.page.PageDays.{PageDays}

-- the predecessors of the activities, by the ids of the list
abbrev pub links_in : ListedWeek → List Links
links_in listed =
    week_links listed.table.resources (ids_from 2 listed.table.activities) listed.week

-- the rectangles of a plan, with these predecessors
abbrev pub rectangles_in : ListedWeek → WeekPlan → List Rectangle
rectangles_in listed p = week_rectangles listed (links_in listed) p

-- The lower bound of the makespans of all plans. For the goal of the tardiness, the bound of a plan
-- holds only for the least tardy plans, and so the page has none.
abbrev pub bound_if : ℕ → Option Lateness → Option ℕ
bound_if lower None = Some lower
bound_if lower (Some lateness) = None

-- the bound that a plan proves
abbrev pub bound_of : WeekPlan → Option ℕ
bound_of p = bound_if p.lower p.lateness

-- a text is the page of a plan of a week
abbrev pub ShowsPage : List ℕ → Option PageDays → ListedWeek → WeekPlan → List ℕ → Type 0
ShowsPage title days listed p text =
    IsPageOf title (bound_of p) days (sheet_names listed.table.resources (rectangles_in listed p))
    listed.week.capacities.items (rectangles_in listed p) p.makespan text

-- a line gives the reason why a plan of a week has no page
abbrev pub HidesPage : Option PageDays → ListedWeek → WeekPlan → List ℕ → Type 0
HidesPage days listed p =
    TellsNoPage days listed.week.capacities.items (rectangles_in listed p) p.makespan

-- a text is the page of a plan of the week of a list, for the goal of an order
abbrev pub ShowsReport : WeekOrder → List ℕ → Option PageDays → List ℕ → List ℕ → Type 0
ShowsReport order title days text output =
    (listed : ListedWeek) × (plan : WeekPlan) × IsPlanOfOrder order text listed plan
    × ShowsPage title days listed plan output

-- a line gives the reason why such a plan has no page
abbrev pub TellsHidden : WeekOrder → Option PageDays → List ℕ → List ℕ → Type 0
TellsHidden order days text line =
    (listed : ListedWeek) × (plan : WeekPlan) × IsPlanOfOrder order text listed plan
    × HidesPage days listed plan line

-- the errors: one of the list or of its week, or one of the page
abbrev pub RefusesReport : WeekOrder → Option PageDays → List ℕ → List ℕ → Type 0
RefusesReport order days text line =
    RefusesWeek order text line ⊎ TellsHidden order days text line
