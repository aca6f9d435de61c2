-- Lists, which commands read as the files that `plan import` makes of them (docs/definitions.md,
-- "Runs").
use Rattle.std.specs.Prelude.{◌≡◌, ◌⊎◌, ℕ, Bool, true, false, List, [], ◌∷◌, Option, Some, None}
use Rattle.std.specs.Prelude.{String, bytes_eq, codes, string_bytes}
use Rattle.std.specs.Global.{Global}
use denote.Ref.{Bor}
use Rattle.plan_table.specs.Kinds.{IsKind}
use Rattle.plan_table.specs.ShopText.{instance}
use Rattle.plan_table.specs.declared.kinds.ListKind.{ListKind}
use Rattle.plan_table.specs.declared.kinds.ListKind.TheVariants as kinds
use Rattle.plan_documents.specs.Capacities.{TellsUnknown}
use Rattle.plan_documents.specs.ImportRun.{IsImportOf, TellsNoImport, TellsNoSoundImport, IsShopImportOf, TellsNoShopImport}
use Rattle.plan_documents.specs.Spreadsheets.{IsListOf, RefusesOfList}
use Rattle.plan_documents.specs.declared.capacities.Capacity.{Capacity}
use Rattle.plan_documents.specs.declared.documents.Subject.{Subject}
use Rattle.plan_documents.specs.declared.documents.Subject.TheVariants as subject

-- a text is the file that `plan import` makes of a list of a kind
abbrev pub IsMadeOf : ListKind → List ℕ → List ℕ → Type 0
IsMadeOf kinds.Activities = IsImportOf []
IsMadeOf kinds.Orders = IsShopImportOf

-- a line refuses a list of activities; with given capacities, its needs may be above its own
abbrev pub RefusesActivities : List Capacity → List ℕ → List ℕ → Type 0
RefusesActivities [] = TellsNoImport []
RefusesActivities (first ∷ more) = TellsNoSoundImport

-- a line refuses a list of a kind for a subject
abbrev pub RefusesList : ListKind → Subject → List ℕ → List ℕ → Type 0
RefusesList kinds.Activities (subject.Project given) = RefusesActivities given.now
RefusesList kinds.Activities (subject.Shop name) = TellsNoImport []
RefusesList kinds.Orders of = TellsNoShopImport

-- the instance of a list of orders
abbrev pub IsListInstance : Subject → Type 0
IsListInstance s = (name : Bor (List ℕ)) × (name.now ≡ instance) × (s ≡ subject.Shop name)

-- the instance of a list of orders, or the one with another name
abbrev pub IsInstanceIf : Bool → Bor (List ℕ) → Subject → Type 0
IsInstanceIf true name s = IsListInstance s
IsInstanceIf false name s = s ≡ subject.Shop name

-- the instance with a name in a list of orders; `-` is the one that there is
abbrev pub IsNamedInstance : Bor (List ℕ) → Subject → Type 0
IsNamedInstance name s = IsInstanceIf (bytes_eq name.now (codes "-")) name s

-- the same for a command with these given capacities, which must be none: a job shop has no
-- resources
abbrev pub IsOpenInstance : List Capacity → Subject → Type 0
IsOpenInstance given s = (given ≡ []) × IsListInstance s

-- The subject of a command on a list of a kind. A list of orders is a job shop.
abbrev pub IsSubjectOn : ListKind → Subject → Subject → Type 0
IsSubjectOn kinds.Activities of s = s ≡ of
IsSubjectOn kinds.Orders (subject.Project given) s = IsOpenInstance given.now s
IsSubjectOn kinds.Orders (subject.Shop name) s = IsNamedInstance name s

-- a line names the first capacity that is given of a resource of a list of orders, which has none
abbrev pub RefusesSubjectOn : ListKind → Subject → List ℕ → Type 0
RefusesSubjectOn kinds.Orders (subject.Project given) line = TellsUnknown [] given.now [] line
RefusesSubjectOn _ _ line = ⊥

-- A command reads this subject in this text: those of a list are made of it. Another file is read
-- as it is.
abbrev pub Reads : Option ListKind → Subject → List ℕ → List ℕ → Subject → List ℕ → Type 0
Reads None of file list s text = (s ≡ of) × (text ≡ file)
Reads (Some kind) of file list s text = IsMadeOf kind list text × IsSubjectOn kind of s

-- the same, for a file whose plain list and kind are known
pub record IsReadAs (of : Subject) (file : List ℕ) (kind : Option ListKind) (s : Subject)
    (text : List ℕ) : Type 0 where
  pub list : List ℕ
  pub list_is : IsListOf [] file list
  pub kind_is : IsKind list kind
  pub read : Reads kind of file list s text

-- a line refuses a list of a kind, or else the subject of the command on it
abbrev pub RefusesMade : ListKind → Subject → List ℕ → List ℕ → Type 0
RefusesMade kind of list line = RefusesList kind of list line
    ⊎ ((text : List ℕ) × IsMadeOf kind list text × RefusesSubjectOn kind of line)

-- a line refuses a text of a kind: one that is no list isn't refused
abbrev pub RefusesKind : Option ListKind → Subject → List ℕ → List ℕ → Type 0
RefusesKind None of list line = ⊥
RefusesKind (Some kind) of list line = RefusesMade kind of list line

-- a line refuses a text, before the command
abbrev pub RefusesIn : Subject → List ℕ → List ℕ → Type 0
RefusesIn of list line = (kind : Option ListKind) × IsKind list kind × RefusesKind kind of list line

-- a line refuses the list that a file is, before the command
abbrev pub RefusesReading : Subject → List ℕ → List ℕ → Type 0
RefusesReading of = RefusesOfList [] (RefusesIn of)

-- this holds of what a command reads
abbrev pub ReadsAs : Subject → List ℕ → (Option ListKind → Subject → List ℕ → Type 0) → Type 0
ReadsAs of file Holds = (kind : Option ListKind) × (s : Subject) × (text : List ℕ)
    × IsReadAs of file kind s text × Holds kind s text

-- a line refuses the list that a file is, or else what the command reads
abbrev pub RefusesAs : Subject → List ℕ → (Subject → List ℕ → List ℕ → Type 0) → List ℕ → Type 0
RefusesAs of file IsLine line = RefusesReading of file line
    ⊎ ReadsAs of file (λ kind s text. IsLine s text line)

-- the text that is read: the one that was made, or else the file
abbrev pub text_of : Option (String Global) → List ℕ → List ℕ
text_of None file = file
text_of (Some made) file = string_bytes made

-- the input of a command on a list of a kind: its subject, and the file made of the list
abbrev pub IsMadeBy : Option ListKind → Subject → List ℕ → Subject → Option (String Global) → Type 0
IsMadeBy None of list s None = s ≡ of
IsMadeBy (Some kind) of list s (Some made) =
    IsMadeOf kind list (string_bytes made) × IsSubjectOn kind of s
IsMadeBy _ of list s _ = ⊥
