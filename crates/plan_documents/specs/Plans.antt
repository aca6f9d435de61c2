-- Texts and lines for the project in a file, with given capacities in place of those of the file,
-- and for an instance in a job shop file (docs/definitions.md, "Runs").
use Rattle.std.specs.Prelude.{◌⊎◌, ℕ, List}
use Rattle.plan_psplib.specs.Project.{Project, SaysProject}
use Rattle.plan_sgs.specs.Instances.{Planned, planned}
use Rattle.plan_orlib.specs.Shop as docs
use Rattle.plan_orlib.specs.Says.{Says}
use Rattle.plan_shop.specs.Shop.{JobShop}
use Rattle.plan_shop.specs.Docs.{shop_of}
use Rattle.plan_gantt.specs.FirstFaults.{TellsFirstFailing, TellsFirstShopFault}
use Rattle.plan_table.specs.Names.{Name, names_behind, resource_key}
use Rattle.plan_documents.specs.Capacities.{Replaces, TellsUnknown}
use Rattle.plan_documents.specs.declared.capacities.Capacity.{Capacity}

-- this holds of the instance of a project with given capacities, if its resources have these names
abbrev pub PlannedWith : List Name → List Capacity → Project → (Planned → Type 0) → Type 0
PlannedWith names given p Holds = (capacities : List ℕ)
    × Replaces names given p.available capacities × Holds (planned p capacities)

-- a line gives the first given capacity of a resource that a project lacks, or else it refuses the
-- project with these capacities
abbrev pub RefusesWith : List Name → List Capacity → Project → (Planned → List ℕ → Type 0) → List ℕ
    → Type 0
RefusesWith names given p IsLine line = TellsUnknown names given p.available line
    ⊎ PlannedWith names given p (λ i. IsLine i line)

-- the names that a file gives its resources
abbrev pub resources_in : List ℕ → List Name
resources_in file = names_behind resource_key file

-- a text or a value is one for the project in a file, with given capacities
abbrev pub IsOfProject : {X : Type 0} → List Capacity → (Planned → X → Type 0) → List ℕ → X → Type 0
IsOfProject given IsText file text =
    (p : Project) × SaysProject file p
    × PlannedWith (resources_in file) given p (λ i. IsText i text)

-- a line gives the first check that a file fails, or else refuses its project
abbrev pub RefusesFile : List Capacity → (Planned → List ℕ → Type 0) → List ℕ → List ℕ → Type 0
RefusesFile given IsLine file line = TellsFirstFailing file line
    ⊎ ((p : Project) × SaysProject file p
    × RefusesWith (resources_in file) given p IsLine line)

-- a text or a value is one for the shop of an instance in a file
abbrev pub IsOfShop : {X : Type 0} → List ℕ → (JobShop → X → Type 0) → List ℕ → X → Type 0
IsOfShop instance IsText file text =
    (doc : docs.Shop) × Says instance file doc × IsText (shop_of doc) text

-- a line gives the first check that a file fails, or else refuses its shop
abbrev pub RefusesShop : List ℕ → (JobShop → List ℕ → Type 0) → List ℕ → List ℕ → Type 0
RefusesShop instance IsLine file line = TellsFirstShopFault instance file line
    ⊎ ((doc : docs.Shop) × Says instance file doc × IsLine (shop_of doc) line)
