-- The results of the tests of rows (docs/definitions.md, "Books").
use Rattle.std.specs.Prelude.{◌≡◌, ◌≤◌, ◌&&◌, ◌==◌, ℕ, Bool, true, List, length, filter, unwrap_or, Option, Some, None}
use Rattle.std.specs.Bool.{MatchBool}
use Rattle.std.specs.Option.{MatchOption}
use Rattle.std.specs.List.{AllByRecursion, position}
use Rattle.std.specs.Borrow.{Bor}
use Rattle.std.specs.HashMap.{HashMap, get_by}
use Rattle.plan_net.specs.Limits.{longest_lag}
use Rattle.plan_psplib.specs.Project.{Project, SaysProject}
use Rattle.plan_orlib.specs.Shop as docs
use Rattle.plan_orlib.specs.Says.{Says}
use Rattle.plan_rows.specs.declared.kinds.PlanKind.{PlanKind}
use Rattle.plan_rows.specs.declared.kinds.PlanKind.TheVariants as kinds
use Rattle.plan_rows.specs.declared.row_tests.files.PlanFile.{PlanFile}
use Rattle.plan_rows.specs.declared.row_tests.places.Places.{Places}
use Rattle.plan_rows.specs.declared.row_tests.other_rows.Beside.{Beside}
use Rattle.plan_rows.specs.declared.row_tests.other_rows.PlanSeen.{PlanSeen}
use Rattle.plan_rows.specs.Books.{published_in}
use Rattle.plan_rows.specs.Tables.{desk_kept, head_seen}
use Rattle.plan_rows.specs.World.{Text, Desk, Plan, World, same_text, is_plan_of, is_plan, is_bind, is_lag}
use Rattle.plan_rows.specs.Names.{is_from_to}
use Rattle.plan_rows.specs.Rules.{greatest_number, most_plans, AllDiffer, IsPlanRow, IsOwned, IsBindRow, HasName, HasCalendar, is_desk_row, is_published_row}

-- a test returns true if a fact holds, and false if it can't hold
abbrev pub Tells : Bool → Type 0 → Type 0
Tells answer P = MatchBool answer P (P → ⊥)

-- the contents of a plan's file: the number of places, and the network of a project
abbrev pub GivesFile : PlanKind → Text → Text → PlanFile → Type 0
GivesFile kinds.Project name body file =
    (p : Project) × SaysProject body p × (file.places ≡ length p.available) × (file.network ≡ Some p.network)
GivesFile kinds.Shop name body file =
    (doc : docs.Shop) × Says name body doc × (file.places ≡ doc.machines) × (file.network ≡ None)

-- the file is invalid
abbrev pub GivesNone : PlanKind → Text → Text → Type 0
GivesNone kinds.Project name body = (p : Project) → SaysProject body p → ⊥
GivesNone kinds.Shop name body = (doc : docs.Shop) → Says name body doc → ⊥

-- the contents of the file, or nothing if it is invalid
abbrev pub FileTold : PlanKind → Text → Text → Option PlanFile → Type 0
FileTold kind name body file =
    MatchOption file (GivesNone kind name body) (GivesFile kind name body)

-- a key of rows: a text and three numbers. Numbers that the key doesn't have are 0.
abbrev pub RowKey : Type 0
RowKey = Text × ℕ × ℕ × ℕ

abbrev pub same_key : RowKey → RowKey → Bool
same_key a b = ((same_text a.0 b.0 && (a.1 == b.1)) && (a.2 == b.2)) && (a.3 == b.3)

-- a key as code passes it
abbrev pub HeldKey : Type 0
HeldKey = Bor Text × ℕ × ℕ × ℕ

abbrev pub shown_key : HeldKey → RowKey
shown_key k = (k.0.now, k.1, k.2, k.3)

-- a map from keys to the index of the first row with the key
abbrev pub AreFirst : {R S : Type 0} → (R → RowKey) → HashMap HeldKey ℕ S → List R → Type 0
AreFirst key places rows = (q : HeldKey) →
    get_by (λ k. same_key (shown_key q) (shown_key k)) places ≡ position (λ row. same_key (shown_key q) (key row)) rows

-- a map from desks to their numbers of plans
abbrev pub AreCounts : {S : Type 0} → HashMap (Bor Text) ℕ S → List PlanSeen → Type 0
AreCounts counts rows = (q : Bor Text) →
    unwrap_or (get_by (λ k. same_text q.now k.now) counts) 0 ≡ length (filter (λ row. is_plan_of q.now (head_seen row)) rows)

-- the indexes of rows by their keys, and the number of plans of each desk
pub record ArePlaces (o : Beside) (seen : List PlanSeen) (p : Places) : Type 0 where
  pub codes : AreFirst (λ row. ((published_in row).code, 0, 0, 0)) p.codes o.published.now
  pub desks : AreFirst (λ row. ((desk_kept row).desk, 0, 0, 0)) p.desks o.desks.now
  pub plans : AreFirst (λ row. ((head_seen row).desk, (head_seen row).n, 0, 0)) p.plans seen
  pub counts : AreCounts p.counts seen

-- the rows of each table have distinct keys
pub record KeysDiffer (w : World) : Type 0 where
  pub codes : AllDiffer (λ a b. same_text a.code b.code) w.published
  pub desks : AllDiffer (λ a b. same_text a.desk b.desk) w.desks
  pub plans : AllDiffer (λ a b. is_plan a.desk a.n b) w.plans
  pub binds : AllDiffer (λ a b. is_bind a.desk a.n a.place b) w.binds
  pub lags : AllDiffer (λ a b. is_lag a.desk a.n a.source a.target b) w.lags

-- a desk keeps its rules and has at most 100 plans
abbrev pub IsDeskOf : World → Desk → Type 0
IsDeskOf w row = (is_desk_row row ≡ true) × (length (filter (is_plan_of row.desk) w.plans) ≤ most_plans)

-- a plan keeps the rules of rows that don't concern its file
abbrev pub HasHead : Plan → Type 0
HasHead row =
    (is_from_to 1 greatest_number row.n ≡ true) × HasName row.kind row.name × HasCalendar row.start row.days

-- the contents of the file of a plan that keeps the rules of rows, or nothing
abbrev pub PlanTold : Plan → Option PlanFile → Type 0
PlanTold plan None = IsPlanRow plan → ⊥
PlanTold plan (Some file) = IsPlanRow plan × GivesFile plan.kind plan.name plan.body file

-- the rows of each table keep their rules, except that lags are on arcs
pub record RowsAreGood (w : World) : Type 0 where
  pub published : AllByRecursion (λ row. is_published_row row ≡ true) w.published
  pub desks : AllByRecursion (IsDeskOf w) w.desks
  pub plans : AllByRecursion (IsOwned w) w.plans
  pub binds : AllByRecursion (IsBindRow w) w.binds
  pub lags : AllByRecursion (λ row. is_from_to 1 longest_lag row.lag ≡ true) w.lags
