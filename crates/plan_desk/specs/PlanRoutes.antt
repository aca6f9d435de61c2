-- The routes of a desk's commands on its plans (docs/definitions.md, "Desks"). Each is for a
-- request with the desk's key.
use Rattle.std.specs.Prelude.{◌≡◌, ◌+◌, not, nat_le, is_some, [], length}
use Rattle.plan_psplib.specs.Project.{Project}
use Rattle.plan_psplib.specs.Project as files
use Rattle.plan_orlib.specs.Says.{Says}
use Rattle.plan_gantt.specs.FirstFaults.{TellsFirstFailing, TellsFirstShopFault}
use Rattle.plan_calendar.specs.CalendarText.{IsCalendar, RefusesTexts}
use Rattle.plan_gantt.specs.CalendarFaultText.{calendar_fault_text_of}
use Rattle.plan_calendar.specs.declared.calendar.CalendarFault.{CalendarFault}
use Rattle.plan_rows.specs.declared.kinds.PlanKind.{PlanKind}
use Rattle.plan_rows.specs.declared.kinds.PlanKind.TheVariants as kinds
use Rattle.plan_rows.specs.World.{Text, Plan, takes, code_in}
use Rattle.plan_rows.specs.Changes.{AddPlan, RemovePlan, BindPlace, SetCalendar, SetLag}
use Rattle.plan_desk.specs.Bodies.{bind_body, calendar_body, lag_body}
use Rattle.plan_rows.specs.Rules.{greatest_number, most_plans}
use Rattle.plan_rows.specs.Views.{View}
use Rattle.plan_desk.specs.Outcomes.{Outcome, refuses, makes, unless, given, some, why_or}
use Rattle.plan_rows.specs.Plans.{plan_seen, HasPlaces, is_place, has_arc}
use Rattle.plan_desk.specs.OfficeRoutes.{is_other_kind}
use Rattle.plan_desk.specs.Refusals.{not_found, bad_body, unpublished, kind_differs, other_kind, many_plans, numbers_spent, bad_file, bad_calendar}
use Rattle.plan_desk.specs.JsonTexts.{plan_text, number_text, bind_text, calendar_text, lag_text}

-- the plan of the desk whose number a text spells
unfoldable pub of_plan : View → Text → (Plan → Outcome) → Outcome
of_plan v n Rest = given (plan_seen v n) not_found Rest

-- the outcome for the kind of a plan
unfoldable pub by_kind : PlanKind → Outcome → Outcome → Outcome
by_kind kinds.Project OfProject OfShop = OfProject
by_kind kinds.Shop OfProject OfShop = OfShop

-- a file is stored as a plan with the desk's next number, or refused with the first check that it
-- fails
unfoldable pub Imports : {A : Type 0} → View → PlanKind → Text → Text → (Text → Type 0)
    → (A → Type 0) → Outcome
Imports v kind name body Tells Reads = given v.desk not_found (λ row.
    unless (nat_le most_plans (length v.plans)) many_plans
    (unless (nat_le (greatest_number + 1) row.next) numbers_spent
    (why_or Tells bad_file Reads
    (λ read. makes 201 (plan_text row.next kind) (AddPlan kind name body)))))

-- the project of a PSPLIB text
unfoldable pub ImportsProject : View → Text → Outcome
ImportsProject v body =
    Imports v kinds.Project [] body (TellsFirstFailing body) (files.SaysProject body)

-- the shop of an instance in an OR-Library text
unfoldable pub ImportsShop : View → Text → Text → Outcome
ImportsShop v name body =
    Imports v kinds.Shop name body (TellsFirstShopFault name body) (Says name body)

-- a plan is removed
unfoldable pub Removes : View → Text → Outcome
Removes v n = of_plan v n (λ plan. makes 200 (number_text plan.n) (RemovePlan plan.n))

-- a published code of the right kind is bound to a place of a plan
unfoldable pub Binds : View → Text → Text → Outcome
Binds v n body = of_plan v n (λ plan. some (HasPlaces plan.kind plan.name plan.body) (λ count.
    given (bind_body (is_place plan.kind count) body) bad_body (λ b.
    unless (not (is_some (code_in v.published b.code))) unpublished
    (unless (is_other_kind (takes plan.kind) (code_in v.published b.code)) kind_differs
    (makes 200 (bind_text b.code b.place) (BindPlace plan.n b.place b.code))))))

-- a line gives the fault of the texts of a calendar
abbrev pub TellsTexts : Text → Text → Text → Type 0
TellsTexts start marks line =
    (fault : CalendarFault) × RefusesTexts start marks fault × (line ≡ calendar_fault_text_of fault)

-- a plan gets a calendar
unfoldable pub Calendars : View → Text → Text → Outcome
Calendars v n body = of_plan v n (λ plan. given (calendar_body body) bad_body (λ b.
    why_or (TellsTexts b.start b.days) bad_calendar (IsCalendar b.start b.days)
    (λ c. makes 200 (calendar_text b.start b.days) (SetCalendar plan.n b.start b.days))))

-- an arc of a project gets a lag
unfoldable pub SetsLag : View → Text → Text → Outcome
SetsLag v n body = of_plan v n (λ plan. given (lag_body body) bad_body (λ b.
    by_kind plan.kind
    (some (files.SaysProject plan.body) (λ p.
    unless (not (has_arc p.network b.from b.to)) bad_body
    (makes 200 (lag_text b.from b.to b.lag) (SetLag plan.n b.from b.to b.lag))))
    (refuses other_kind)))
