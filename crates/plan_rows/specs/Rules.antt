-- The rules that the rows of an office keep (docs/definitions.md, "Desks").
use Rattle.std.specs.Prelude.{◌≡◌, ◌⊎◌, ℕ, ◌+◌, ◌≤◌, ◌<◌, Bool, true, false, ◌&&◌, nat_le, List, [], ◌∷◌, length, filter, Option, Some, None}
use Rattle.std.specs.List.{AllByRecursion}
use Rattle.plan_net.specs.Limits.{longest_lag}
use Rattle.plan_psplib.specs.Tokens.{greatest}
use Rattle.plan_psplib.specs.Project.{Project}
use Rattle.plan_psplib.specs.Project as files
use Rattle.plan_calendar.specs.WorkingDay.{Workdays}
use Rattle.plan_rows.specs.declared.kinds.PlanKind.{PlanKind}
use Rattle.plan_rows.specs.declared.kinds.PlanKind.TheVariants as kinds
use Rattle.plan_rows.specs.World.{Text, Published, Desk, Plan, Bind, Lag, World, same_text, same_kind, takes, is_plan_of, is_plan, is_bind, is_lag, code_in, desk_in, plan_in}
use Rattle.plan_rows.specs.Names.{is_name, is_digest, is_from_to}
use Rattle.plan_rows.specs.Plans.{HasPlaces, is_place}
use Rattle.plan_calendar.specs.CalendarText.{IsCalendar}
use Rattle.plan_rows.specs.Plans.{has_arc}

-- each row differs from every later one
abbrev pub AllDiffer : {A : Type 0} → (A → A → Bool) → List A → Type 0
AllDiffer alike [] = Unit {0}
AllDiffer alike (x ∷ xs) = AllByRecursion (λ y. alike x y ≡ false) xs × AllDiffer alike xs

-- there is a row, and it has this property
abbrev pub IsThereAnd : {A : Type 0} → Option A → (A → Type 0) → Type 0
IsThereAnd None P = ⊥
IsThereAnd (Some x) P = P x

-- the greatest number of a plan
abbrev pub greatest_number : ℕ
greatest_number = 1000000

-- the most plans that a desk can have
abbrev pub most_plans : ℕ
most_plans = 100

abbrev pub is_published_row : Published → Bool
is_published_row row = is_name row.code && nat_le row.capacity greatest

abbrev pub is_desk_row : Desk → Bool
is_desk_row row = is_name row.desk && (is_digest row.digest && is_from_to 1 (greatest_number + 1) row.next)

-- a project has no instance
abbrev pub HasName : PlanKind → Text → Type 0
HasName kinds.Project name = name ≡ []
HasName kinds.Shop name = Unit {0}

-- two empty texts, or those of a calendar
abbrev pub HasCalendar : Text → Text → Type 0
HasCalendar start days =
    ((start ≡ []) × (days ≡ [])) ⊎ ((c : Workdays) × IsCalendar start days c)

-- a plan has a number, a valid file, and a calendar or none
pub record IsPlanRow (row : Plan) : Type 0 where
  pub number : is_from_to 1 greatest_number row.n ≡ true
  pub name : HasName row.kind row.name
  pub reads : (count : ℕ) × HasPlaces row.kind row.name row.body count
  pub calendar : HasCalendar row.start row.days

-- the plan of a bind exists and has the place, and its code is published and of the plan's kind
abbrev pub IsBindRow : World → Bind → Type 0
IsBindRow w row = IsThereAnd (plan_in w row.desk row.n) (λ plan.
    ((count : ℕ) × HasPlaces plan.kind plan.name plan.body count × (is_place plan.kind count row.place ≡ true))
    × IsThereAnd (code_in w.published row.code) (λ code. same_kind code.kind (takes plan.kind) ≡ true))

-- the plan of a lag exists and is a project with the arc, and the lag is in range
abbrev pub IsLagRow : World → Lag → Type 0
IsLagRow w row = IsThereAnd (plan_in w row.desk row.n) (λ plan.
    (plan.kind ≡ kinds.Project)
    × ((p : Project) × files.SaysProject plan.body p × (has_arc p.network row.source row.target ≡ true))
    × (is_from_to 1 longest_lag row.lag ≡ true))

-- the desk of a plan exists, and its next number is above the plan's
abbrev pub IsOwned : World → Plan → Type 0
IsOwned w row = IsThereAnd (desk_in w row.desk) (λ desk. row.n < desk.next)

-- each row keeps its rules, and the rows of each table have distinct keys
pub record IsWorld (w : World) : Type 0 where
  pub office : is_digest w.office ≡ true
  pub published : AllByRecursion (λ row. is_published_row row ≡ true) w.published
  pub desks : AllByRecursion (λ row. is_desk_row row ≡ true) w.desks
  pub plans : AllByRecursion IsPlanRow w.plans
  pub codes_differ : AllDiffer (λ a b. same_text a.code b.code) w.published
  pub desks_differ : AllDiffer (λ a b. same_text a.desk b.desk) w.desks
  pub plans_differ : AllDiffer (λ a b. is_plan a.desk a.n b) w.plans
  pub binds_differ : AllDiffer (λ a b. is_bind a.desk a.n a.place b) w.binds
  pub lags_differ : AllDiffer (λ a b. is_lag a.desk a.n a.source a.target b) w.lags
  pub few : AllByRecursion (λ row. length (filter (is_plan_of row.desk) w.plans) ≤ most_plans) w.desks
  pub owned : AllByRecursion (IsOwned w) w.plans
  pub bound : AllByRecursion (IsBindRow w) w.binds
  pub lagged : AllByRecursion (IsLagRow w) w.lags
