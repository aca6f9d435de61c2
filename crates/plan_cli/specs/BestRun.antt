-- The output of `plan best` for the bytes that it reads (docs/definitions.md, "Runs").
use Rattle.std.specs.Prelude.{◌≡◌, ◌⊎◌, ℕ, List}
use Rattle.plan_orlib.specs.Shop as docs
use Rattle.plan_orlib.specs.Says.{Says}
use Rattle.plan_shop.specs.Shop.{JobShop}
use Rattle.plan_shop.specs.Docs.{shop_of}
use Rattle.plan_exact.specs.Solutions.{RefusesSolving}
use Rattle.plan_exact.specs.declared.fault.ExactFault.{ExactFault}
use Rattle.plan_exact.specs.declared.fault.ExactFault.TheVariants as exact
use Rattle.plan_gantt.specs.FirstFaults.{TellsFirstShopFault}
use Rattle.plan_gantt.specs.ShopBestText.{IsBestTextOf, TellsBestRefusal}
use Rattle.plan_gantt.specs.ProjectBestText.{IsBestProjectTextOf, TellsNoBestProject}
use Rattle.plan_gantt.specs.ExactFaultText.{exact_fault_text_of}
use Rattle.plan_documents.specs.declared.documents.Plan.{Plan}
use Rattle.plan_documents.specs.declared.documents.Plan.TheVariants as plan

-- a text shows the best schedule of an instance in a file
abbrev pub IsBestTableOf : List ℕ → List ℕ → List ℕ → List ℕ → Type 0
IsBestTableOf argument instance file text =
    (doc : docs.Shop) × Says instance file doc × IsBestTextOf argument (shop_of doc) text

-- a line gives the first check that a file fails, or else the refusal of its shop
abbrev pub TellsWhyNoBest : List ℕ → List ℕ → List ℕ → List ℕ → Type 0
TellsWhyNoBest argument instance file line = TellsFirstShopFault instance file line
    ⊎ ((doc : docs.Shop) × Says instance file doc × TellsBestRefusal argument (shop_of doc) line)

-- a line gives the refusal of a search within a budget
abbrev pub TellsSolvingRefusal : ℕ → JobShop → List ℕ → Type 0
TellsSolvingRefusal budget s line =
    (first : ExactFault) × (first ≡ exact.NoMemory → ⊥) × RefusesSolving s budget first
    × (line ≡ exact_fault_text_of first)

-- a line gives the error of a search, which isn't that of memory
abbrev pub TellsSolving : ExactFault → List ℕ → Type 0
TellsSolving first line = (first ≡ exact.NoMemory → ⊥) × (line ≡ exact_fault_text_of first)

-- a text shows the best schedule of a plan within the budget that an argument spells
abbrev pub IsBestOf : List ℕ → Plan → List ℕ → Type 0
IsBestOf argument (plan.Project i ids) = IsBestProjectTextOf argument i
IsBestOf argument (plan.Shop s) = IsBestTextOf argument s

-- a line reports the error of that search: the size of the plan, or else the argument
abbrev pub TellsNoBestOf : List ℕ → Plan → List ℕ → Type 0
TellsNoBestOf argument (plan.Project i ids) = TellsNoBestProject argument i
TellsNoBestOf argument (plan.Shop s) = TellsBestRefusal argument s
