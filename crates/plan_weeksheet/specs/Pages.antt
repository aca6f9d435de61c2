-- The page of a week: the report of the rectangles of its plan.
use Rattle.std.specs.Prelude.{◌≡◌, ◌⊎◌, ◌<◌, ℕ, false, List, [], Option, Some, None, codes, length}
use Rattle.plan_gantt.specs.declared.days.DaysFault.{DaysFault}
use Rattle.plan_gantt.specs.declared.days.DaysFault.TheVariants as faults
use Rattle.plan_psplib.specs.Plain.{longest_text}
use Rattle.plan_sgs.specs.Instances.{Planned}
use Rattle.plan_sheet.specs.Layouts.{activities}
use Rattle.plan_sheet.specs.Names.{SheetNames}
use Rattle.plan_sheet.specs.Reports.{IsDatedReport, IsReportBeyond, Margins, layout_page, undated}
use Rattle.plan_table.specs.ProjectText.{project_text}
use Rattle.plan_table.specs.declared.fault.TextFault.{TextFault}
use Rattle.plan_table.specs.declared.fault.TextFault.TheVariants as texts
use Rattle.plan_weeksheet.specs.Drawn.{drawn_project, drawn_starts, is_within, list_of}
use Rattle.plan_weeksheet.specs.Rectangles.{Rectangle}
use Rattle.plan_weeksheet.specs.declared.page.PageDays.{PageDays}

-- no floats and no slacks
abbrev pub no_margins : Margins
no_margins = record { floats = []; slacks = [] }

-- a text is the report of a drawn project at its starts: by a calendar if there is one
abbrev pub IsPage : List ℕ → Option ℕ → Option PageDays → SheetNames → Planned → List ℕ → List ℕ
    → Type 0
IsPage title lower None names drawn starts text =
    text ≡ layout_page title lower names (activities drawn) starts undated no_margins
IsPage title lower (Some on) names drawn starts text =
    IsDatedReport title lower names (activities drawn) starts no_margins on.style.now
    on.calendar.now text

-- a day on the page would be after 9999-12-31
abbrev pub IsPageBeyond : Option PageDays → Planned → List ℕ → Type 0
IsPageBeyond None drawn starts = ⊥
IsPageBeyond (Some on) drawn starts =
    IsReportBeyond on.style.now.hours (activities drawn) starts on.calendar.now

-- the line of the error of a page
abbrev pub TellsDays : DaysFault → List ℕ → Type 0
TellsDays faults.NoMemory line = ⊥
TellsDays faults.BeyondCalendar line = line ≡ codes "G3 beyond calendar"

-- a line reports that a day of the page would be after 9999-12-31
abbrev pub TellsBeyond : Option PageDays → Planned → List ℕ → List ℕ → Type 0
TellsBeyond days drawn starts line =
    IsPageBeyond days drawn starts × TellsDays faults.BeyondCalendar line

-- ---- rectangles

-- the project file of rectangles is longer than a file may be
abbrev pub IsTooLong : List ℕ → List Rectangle → Type 0
IsTooLong capacities rectangles =
    longest_text < length (project_text (list_of capacities rectangles))

-- rectangles, and the makespan of their plan, are above a limit of a project file
abbrev pub AreAbove : List ℕ → List Rectangle → ℕ → Type 0
AreAbove capacities rectangles makespan =
    (is_within capacities rectangles makespan ≡ false) ⊎ IsTooLong capacities rectangles

-- the line of a list above a limit; line 0 is the whole list
abbrev pub limit_line : List ℕ
limit_line = codes "T12 limit line 0"

-- the line of the error of a project file
abbrev pub TellsText : TextFault → List ℕ → Type 0
TellsText texts.Memory line = ⊥
TellsText texts.TooLong line = line ≡ limit_line

-- a line reports that the project file of rectangles is too long
abbrev pub TellsLong : List ℕ → List Rectangle → List ℕ → Type 0
TellsLong capacities rectangles line =
    IsTooLong capacities rectangles × TellsText texts.TooLong line

-- a line reports that rectangles are above a limit
abbrev pub TellsAbove : List ℕ → List Rectangle → ℕ → List ℕ → Type 0
TellsAbove capacities rectangles makespan line =
    AreAbove capacities rectangles makespan × (line ≡ limit_line)

-- a text is the page of rectangles, with these capacities of their resources
abbrev pub IsPageOf : List ℕ → Option ℕ → Option PageDays → SheetNames → List ℕ → List Rectangle → ℕ
    → List ℕ → Type 0
IsPageOf title lower days names capacities rectangles makespan =
    IsPage title lower days names (drawn_project capacities rectangles)
    (drawn_starts rectangles makespan)

-- a line gives the reason why rectangles have no page: a limit, or a day that is too late
abbrev pub TellsNoPage : Option PageDays → List ℕ → List Rectangle → ℕ → List ℕ → Type 0
TellsNoPage days capacities rectangles makespan line =
    TellsAbove capacities rectangles makespan line
    ⊎ TellsBeyond days (drawn_project capacities rectangles) (drawn_starts rectangles makespan) line
