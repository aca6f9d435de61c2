-- The output of `plan import` for the bytes that it reads (docs/definitions.md, "Runs").
use Rattle.std.specs.Prelude.{◌≡◌, ◌⊎◌, ◌<◌, ℕ, List, [], ◌∷◌, Option, Some, Ok, Err, length, codes}
use Rattle.plan_psplib.specs.Plain.{longest_text}
use Rattle.plan_psplib.specs.Project.{SaysProject}
use Rattle.plan_orlib.specs.Says.{Says}
use Rattle.plan_table.specs.Kinds.{IsKind}
use Rattle.plan_table.specs.declared.fault.TableFault.{TableFault}
use Rattle.plan_table.specs.declared.kinds.ListKind.{ListKind}
use Rattle.plan_table.specs.declared.kinds.ListKind.TheVariants as kinds
use Rattle.plan_table.specs.declared.fault.ReadError.TheVariants as errors
use Rattle.plan_table.specs.Jobs.{project_of}
use Rattle.plan_table.specs.Listing.{table_read_with}
use Rattle.plan_table.specs.Overrides.{Override}
use Rattle.plan_table.specs.ProjectText.{project_text}
use Rattle.plan_table.specs.Reading.{fault_of}
use Rattle.plan_table.specs.Refused.{IsRefusedWith, IsUnsoundWith}
use Rattle.plan_table.specs.ShopNames.{SaysShopNames}
use Rattle.plan_table.specs.ShopReading.{shop_table_read}
use Rattle.plan_table.specs.ShopTable.{ShopTable, shop_of}
use Rattle.plan_table.specs.ShopText.{instance, shop_text}
use Rattle.plan_table.specs.Table.{Table}
use Rattle.plan_documents.specs.Spreadsheets.{OfList, RefusesOfList}
use Rattle.plan_documents.specs.TableFaultText.{TellsNoResource, fault_text_of}

-- a line gives an error of a table
abbrev pub TellsTable : TableFault → List ℕ → Type 0
TellsTable first line = line ≡ fault_text_of (fault_of first)

-- a text is the project file of a table; reading it gives the project of the table
pub record IsProjectFile (t : Table) (text : List ℕ) : Type 0 where
  pub shown : text ≡ project_text t
  pub says : SaysProject text (project_of t)

-- a text is the project file of the table in a file, with capacities that are given
abbrev pub IsImportOf : List Override → List ℕ → List ℕ → Type 0
IsImportOf given file text =
    (t : Table) × (table_read_with given file ≡ Ok t) × IsProjectFile t text

-- a line gives the first check that a table fails, or else its cycle
abbrev pub TellsNoTable : List Override → List ℕ → List ℕ → Type 0
TellsNoTable given file line =
    (first : TableFault) × IsRefusedWith given file (errors.Fault first) × TellsTable first line

-- a line reports that a file is longer than the longest text
abbrev pub TellsLong : List ℕ → List ℕ → Type 0
TellsLong text line = (longest_text < length text) × (line ≡ codes "T1 too long")

-- a line gives the reason why a table becomes no project file
abbrev pub TellsNoImport : List Override → List ℕ → List ℕ → Type 0
TellsNoImport given file line = TellsNoTable given file line
    ⊎ ((t : Table) × (table_read_with given file ≡ Ok t) × TellsLong (project_text t) line)

-- a line gives the first check that a table fails, or else its cycle; its needs may be above its
-- capacities
abbrev pub TellsUnsound : List ℕ → List ℕ → Type 0
TellsUnsound file line =
    (first : TableFault) × IsUnsoundWith [] file (errors.Fault first) × TellsTable first line

-- a line gives the reason why a table, whose needs may be above its capacities, becomes no project
-- file
abbrev pub TellsNoSoundImport : List ℕ → List ℕ → Type 0
TellsNoSoundImport file line = TellsUnsound file line
    ⊎ ((t : Table) × (table_read_with [] file ≡ Ok t) × TellsLong (project_text t) line)

-- a text is the job shop file of a list of orders; reading it gives the job shop of the list and
-- the names
pub record IsShopFile (t : ShopTable) (text : List ℕ) : Type 0 where
  pub shown : text ≡ shop_text t
  pub says : Says instance text (shop_of t)
  pub names : SaysShopNames text t

-- a text is the job shop file of the list of orders in a file
abbrev pub IsShopImportOf : List ℕ → List ℕ → Type 0
IsShopImportOf file text = (t : ShopTable) × (shop_table_read file ≡ Ok t) × IsShopFile t text

-- a line gives the first check that a list of orders fails
abbrev pub TellsNoOrders : List ℕ → List ℕ → Type 0
TellsNoOrders file line =
    (first : TableFault) × (shop_table_read file ≡ Err (fault_of first)) × TellsTable first line

-- a line gives the reason why a list of orders becomes no job shop file
abbrev pub TellsNoShopImport : List ℕ → List ℕ → Type 0
TellsNoShopImport file line = TellsNoOrders file line
    ⊎ ((t : ShopTable) × (shop_table_read file ≡ Ok t) × TellsLong (shop_text t) line)

-- A line names the first of the capacities that are given for a list of orders. A job shop has no
-- resources.
abbrev pub TellsGiven : List Override → List ℕ → Type 0
TellsGiven [] line = ⊥
TellsGiven (first ∷ more) line = TellsNoResource first.resource line

-- a text is the job shop file of the list of orders in a file, without given capacities
abbrev pub IsOrderImportOf : List Override → List ℕ → List ℕ → Type 0
IsOrderImportOf given file text = (given ≡ []) × IsShopImportOf file text

-- a line gives the first error of a list of orders, or else that of the given capacities
abbrev pub TellsNoOrderImport : List Override → List ℕ → List ℕ → Type 0
TellsNoOrderImport given file line = TellsNoShopImport file line ⊎ TellsGiven given line

-- a text is the file that `plan import` makes of a file of a kind: a job shop file of a list of
-- orders, a project file of any other file
abbrev pub IsImportBy : Option ListKind → List Override → List ℕ → List ℕ → Type 0
IsImportBy (Some kinds.Orders) = IsOrderImportOf
IsImportBy _ = IsImportOf

-- a line with which `plan import` refuses a file of a kind
abbrev pub TellsNoImportBy : Option ListKind → List Override → List ℕ → List ℕ → Type 0
TellsNoImportBy (Some kinds.Orders) = TellsNoOrderImport
TellsNoImportBy _ = TellsNoImport

-- a text is the file that `plan import` makes of a list, with capacities that are given
abbrev pub IsImportIn : List Override → List ℕ → List ℕ → Type 0
IsImportIn given list text =
    (kind : Option ListKind) × IsKind list kind × IsImportBy kind given list text

-- a line with which `plan import` refuses a list
abbrev pub TellsNoImportIn : List Override → List ℕ → List ℕ → Type 0
TellsNoImportIn given list line =
    (kind : Option ListKind) × IsKind list kind × TellsNoImportBy kind given list line

-- a text is the file that `plan import` makes of a file, which is first its plain list
abbrev pub IsImport : List Override → List ℕ → List ℕ → Type 0
IsImport given file text = OfList given file (λ list. IsImportIn given list text)

-- a line with which `plan import` refuses a file
abbrev pub TellsUnimported : List Override → List ℕ → List ℕ → Type 0
TellsUnimported given = RefusesOfList given (TellsNoImportIn given)

-- a text is the job shop file that `plan import --shop` makes of a file
abbrev pub IsShopImport : List ℕ → List ℕ → Type 0
IsShopImport file text = OfList [] file (λ list. IsShopImportOf list text)

-- a line with which `plan import --shop` refuses a file
abbrev pub TellsNoShop : List ℕ → List ℕ → Type 0
TellsNoShop = RefusesOfList [] TellsNoShopImport
