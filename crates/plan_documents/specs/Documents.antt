-- The project or the job shop in a file, and the texts and lines for it (docs/definitions.md,
-- "Runs").
use Rattle.std.specs.Prelude.{◌≡◌, ◌⊎◌, ℕ, List, [], length}
use Rattle.plan_net.specs.Network as networks
use Rattle.plan_psplib.specs.Document.{document}
use Rattle.plan_psplib.specs.Project.{Project, SaysProject}
use Rattle.plan_orlib.specs.Says.{Says}
use Rattle.plan_sgs.specs.Problem.{Problem, NeedsFit}
use Rattle.plan_sgs.specs.Instances.{Planned, planned}
use Rattle.plan_sgs.specs.Instances as projects
use Rattle.plan_shop.specs.Shop.{JobShop, count_steps}
use Rattle.plan_shop.specs.Shop as shops
use Rattle.plan_shop.specs.Docs.{shop_of}
use Rattle.plan_gantt.specs.FirstFaults.{TellsFirstFailing, TellsFirstShopFault}
use Rattle.plan_report.specs.Sheet.{Sheet}
use Rattle.plan_report.specs.IdSheets.{id_sheet}
use Rattle.plan_report.specs.StartsText.{step_sheet}
use Rattle.plan_table.specs.Names.{Name, names_behind, activity_key, id_key}
use Rattle.plan_table.specs.ShopNames.{instance_names, machine_key, order_key}
use Rattle.plan_documents.specs.Capacities.{Replaces, TellsUnknown}
use Rattle.plan_documents.specs.Plans.{IsOfProject, RefusesFile, IsOfShop, RefusesShop, resources_in}
use Rattle.plan_documents.specs.ScheduleRun.{TellsNeed}
use Rattle.plan_documents.specs.Waits.{shown_ids}
use Rattle.plan_documents.specs.declared.documents.Subject.{Subject}
use Rattle.plan_documents.specs.declared.documents.Subject.TheVariants as subject
use Rattle.plan_documents.specs.declared.documents.Document.{Document}
use Rattle.plan_documents.specs.declared.documents.Document.TheVariants as document
use Rattle.plan_documents.specs.declared.documents.Plan.{Plan}
use Rattle.plan_documents.specs.declared.documents.Plan.TheVariants as plan

-- the ids of the activities in a project file, without those of waits
unfoldable pub ids_in : List ℕ → List Name
ids_in file = shown_ids (document file) (names_behind activity_key file) (names_behind id_key file)

-- the scheduling problem of a plan
abbrev pub problem_of : Plan → Problem
problem_of (plan.Project i ids) = projects.problem_of i
problem_of (plan.Shop s) = shops.problem_of s

-- the number of its activities or steps
abbrev pub count_of : Plan → ℕ
count_of (plan.Project i ids) = networks.count_of i.project.network
count_of (plan.Shop s) = count_steps s

-- the sheet of its starts, as `schedule` or `shop` prints it; with the ids of its activities
abbrev pub sheet_of : Plan → Sheet
sheet_of (plan.Project i ids) = id_sheet ids i.project.network
sheet_of (plan.Shop s) = step_sheet s

-- no need of a project is above its capacity
abbrev pub HasFit : Plan → Type 0
HasFit (plan.Project i ids) = NeedsFit (projects.problem_of i)
HasFit (plan.Shop s) = Unit {0}

-- a document is that of the project in a file, with given capacities in place of those of the file,
-- or that of an instance in a job shop file
abbrev pub IsDocumentOf : Subject → List ℕ → Document → Type 0
IsDocumentOf (subject.Project given) file (document.Project p capacities) =
    SaysProject file p
    × Replaces (resources_in file) given.now p.available capacities.items
IsDocumentOf (subject.Shop instance) file (document.Shop doc) = Says instance.now file doc
IsDocumentOf _ file _ = ⊥

-- a line gives the first check that a file fails, or else the first given capacity of a resource
-- that its project lacks
abbrev pub TellsNoDocument : Subject → List ℕ → List ℕ → Type 0
TellsNoDocument (subject.Project given) file line = TellsFirstFailing file line
    ⊎ ((p : Project) × SaysProject file p
    × TellsUnknown (resources_in file) given.now p.available line)
TellsNoDocument (subject.Shop instance) file line = TellsFirstShopFault instance.now file line

-- a document has a capacity for each resource of its project
abbrev pub IsWhole : Document → Type 0
IsWhole (document.Project p capacities) = length capacities.items ≡ length p.available
IsWhole (document.Shop doc) = Unit {0}

-- the plan of a document, with the ids of its activities: a project with these capacities, or a job
-- shop with all machines open
abbrev pub plan_in : Document → List Name → Plan
plan_in (document.Project p capacities) ids = plan.Project (planned p capacities.items) ids
plan_in (document.Shop doc) ids = plan.Shop (shop_of doc)

-- a line gives the first need of a project that is above its capacity
abbrev pub TellsNoPlan : Document → List ℕ → Type 0
TellsNoPlan (document.Project p capacities) line = TellsNeed (planned p capacities.items) line
TellsNoPlan (document.Shop doc) line = ⊥

-- a text or a value is one for the project or the job shop in a file; no need of a project is above
-- its capacity
abbrev pub IsOfSubject : {X : Type 0} → Subject → (Plan → X → Type 0) → List ℕ → X → Type 0
IsOfSubject (subject.Project given) IsText file = IsOfProject given.now
    (λ i text. NeedsFit (projects.problem_of i) × IsText (plan.Project i (ids_in file)) text) file
IsOfSubject (subject.Shop instance) IsText file =
    IsOfShop instance.now (λ s. IsText (plan.Shop s)) file

-- a line gives the first check that a file fails, or else the first given capacity of a resource
-- that its project lacks, or else the first need that is above its capacity, or else it refuses the
-- plan
abbrev pub RefusesSubject : Subject → (Plan → List ℕ → Type 0) → List ℕ → List ℕ → Type 0
RefusesSubject (subject.Project given) IsLine file = RefusesFile given.now (λ i line.
    TellsNeed i line
    ⊎ (NeedsFit (projects.problem_of i) × IsLine (plan.Project i (ids_in file)) line)) file
RefusesSubject (subject.Shop instance) IsLine file =
    RefusesShop instance.now (λ s. IsLine (plan.Shop s)) file

-- the names of the activities of a project, or of the orders of a job shop
abbrev pub names_of_rows : Subject → List ℕ → List Name
names_of_rows (subject.Project given) file = names_behind activity_key file
names_of_rows (subject.Shop instance) file = instance_names order_key instance.now file

-- the names of the lines of a chart: those of activities, or of machines
abbrev pub names_of_lines : Subject → List ℕ → List Name
names_of_lines (subject.Project given) file = names_behind activity_key file
names_of_lines (subject.Shop instance) file = instance_names machine_key instance.now file

-- the ids of the activities of a project; a job shop has none
abbrev pub ids_of_rows : Subject → List ℕ → List Name
ids_of_rows (subject.Project given) file = ids_in file
ids_of_rows (subject.Shop instance) file = []
