-- Capacities that replace those of a project file (docs/definitions.md, "Runs").
use Rattle.std.specs.Prelude.{◌≡◌, ◌⊎◌, ◌+◌, ◌<◌, ℕ, List, [], ◌∷◌, ◌++◌, Option, Some, None}
use Rattle.std.specs.Prelude.{slice_get, slice_set, take, ◌==◌, if◌then◌else◌, IfSome, length}
use Rattle.std.specs.Prelude.{codes, string_bytes}
use Rattle.std.specs.Fmt.{decimal}
use Rattle.std.specs.List.{join_by}
use Rattle.std.specs.Option.{option_map}
use Rattle.std.specs.Str.Lossy.{utf8_lossy}
use Rattle.plan_table.specs.Names.{Name, first_name}
use Rattle.plan_errors.specs.declared.fault.CliFault.{CliFault}
use Rattle.plan_errors.specs.declared.fault.CliFault.TheVariants as fault
use Rattle.plan_documents.specs.declared.capacities.Capacity.{Capacity}

-- among these names of a file's resources, that of the resource with a number
abbrev pub IsGivenName : List Name → ℕ → List ℕ → Type 0
IsGivenName names number name =
    option_map (λ found. found.name) (first_name number names) ≡ Some name

-- none of so many resources has the name in the file
abbrev pub GivesNone : List Name → ℕ → List ℕ → Type 0
GivesNone names count name = (k : ℕ) → k < count → IsGivenName names (k + 1) name → ⊥

-- a name is the number of a resource from 1, with or without an R in front
abbrev pub IsNumberName : ℕ → List ℕ → Type 0
IsNumberName number name = (name ≡ decimal number) ⊎ (name ≡ codes "R" ++ decimal number)

-- A name stands for the resource with index k among `count`: it is the first one to which the file
-- gives the name. If the file gives the name to none of them, it is the one with this number.
abbrev pub IsNameOf : List Name → ℕ → ℕ → List ℕ → Type 0
IsNameOf names count k name =
    (IsGivenName names (k + 1) name × GivesNone names k name)
    ⊎ (GivesNone names count name × IsNumberName (k + 1) name)

-- a name stands for none of so many resources
abbrev pub NamesNone : List Name → ℕ → List ℕ → Type 0
NamesNone names count name =
    GivesNone names count name × ((k : ℕ) → k < count → IsNumberName (k + 1) name → ⊥)

-- a list of capacities after the given ones have replaced those of their resources, in order
abbrev pub Replaces : List Name → List Capacity → List ℕ → List ℕ → Type 0
Replaces names [] before after = after ≡ before
Replaces names (given ∷ more) before after = (k : ℕ) × (k < length before)
    × IsNameOf names (length before) k given.resource.now
    × Replaces names more (slice_set before k given.amount) after

-- a line says that no resource has a name
abbrev pub SaysUnknown : List ℕ → List ℕ → Type 0
SaysUnknown name line = line ≡ codes "S8 no resource " ++ name

-- the name that the file gives the resource with a number; a byte that isn't UTF-8 becomes the
-- replacement character
abbrev pub shown_name : List Name → ℕ → Option (List ℕ)
shown_name names number =
    option_map (λ found. utf8_lossy found.name) (first_name number names)

-- the resources from a number on have these names in the file
abbrev pub AreShown : List Name → ℕ → List (List ℕ) → Type 0
AreShown names number [] = Unit {0}
AreShown names number (name ∷ more) =
    (shown_name names number ≡ Some name) × AreShown names (number + 1) more

-- the resources that there are, by their names
abbrev pub named_text : List (List ℕ) → List ℕ
named_text [] = codes "the project has no resource"
named_text (only ∷ []) = codes "the only resource is " ++ only
named_text (first ∷ second ∷ more) =
    codes "the resources are " ++ join_by (λ name. name) (codes ", ") (first ∷ second ∷ more)

-- the resources that there are, by their numbers
abbrev pub numbered_text : ℕ → List ℕ
numbered_text count = if count == 1 then codes "the only resource is 1"
    else codes "the resources are 1 to " ++ decimal count

-- the file gives one of so many resources no name
abbrev pub LacksName : List Name → ℕ → Type 0
LacksName names count = (k : ℕ) × (k < count) × (first_name (k + 1) names ≡ None)

-- a text names so many resources: by the names that the file gives them, or else by their numbers
-- if one of them has no name
abbrev pub IsResourcesText : List Name → ℕ → List ℕ → Type 0
IsResourcesText names count text =
    ((shown : List (List ℕ)) × (length shown ≡ count) × AreShown names 1 shown
    × (text ≡ named_text shown))
    ⊎ (LacksName names count × (text ≡ numbered_text count))

-- the detail of an error names the resources that there are
abbrev pub NamesResources : List Name → ℕ → CliFault → Type 0
NamesResources names count (fault.Refused refusal) =
    IfSome refusal.detail (λ detail. IsResourcesText names count (string_bytes detail))
NamesResources names count fault.Memory = Unit {0}
NamesResources names count (fault.Input unread) = ⊥
NamesResources names count fault.Output = ⊥

-- a line names the resource of the first given capacity that no resource has
abbrev pub TellsUnknown : List Name → List Capacity → List ℕ → List ℕ → Type 0
TellsUnknown names given capacities line = (k : ℕ) × (first : Capacity) × (between : List ℕ)
    × (slice_get given k ≡ Some first) × Replaces names (take k given) capacities between
    × NamesNone names (length capacities) first.resource.now
    × SaysUnknown first.resource.now line
