-- The causes of errors with the names in a file (docs/definitions.md, "Runs").
use Rattle.std.specs.Prelude.{◌≡◌, ◌⊎◌, ℕ, ◌-◌, List, [], ◌∷◌, ◌++◌, Option, Some, None}
use Rattle.std.specs.Prelude.{option_map, IfSome, bytes_eq, codes, if◌then◌else◌, String}
use Rattle.std.specs.Prelude.{string_bytes}
use Rattle.std.specs.List.{flat_map}
use Rattle.std.specs.Global.{Global}
use Rattle.std.specs.Fmt.{decimal}
use Rattle.std.specs.Str.Lossy.{utf8_lossy}
use Rattle.plan_sgs.specs.Instances.{Planned, problem_of}
use Rattle.plan_sgs.specs.Problem.{IsFirstTooMuch, capacity, need}
use Rattle.plan_errors.specs.Faults.{with_detail}
use Rattle.plan_errors.specs.Parts.{word_of}
use Rattle.plan_errors.specs.declared.codes.Code.TheVariants as code
use Rattle.plan_errors.specs.declared.parts.Key.{Key}
use Rattle.plan_errors.specs.declared.parts.Key.TheVariants as key
use Rattle.plan_errors.specs.declared.parts.Part.{Part}
use Rattle.plan_errors.specs.declared.parts.Part.TheVariants as part
use Rattle.plan_errors.specs.declared.fault.CliFault.{CliFault}
use Rattle.plan_errors.specs.declared.fault.CliFault.TheVariants as fault
use Rattle.plan_table.specs.Names.{Name, activity_key, first_name, id_key, names_behind, resource_key}
use Rattle.plan_table.specs.ShopNames.{instance_names, machine_key, order_key}
use Rattle.plan_documents.specs.Labels.{activity_called, id_label}
use Rattle.plan_documents.specs.declared.documents.Subject.{Subject}
use Rattle.plan_documents.specs.declared.documents.Subject.TheVariants as subject

-- a name, or else a word and a number
abbrev pub name_or : List ℕ → ℕ → Option (List ℕ) → List ℕ
name_or word n None = word ++ codes " " ++ decimal n
name_or word n (Some name) = utf8_lossy name

-- the first name of a number among names, or else a word and the number
abbrev pub label : List ℕ → List Name → ℕ → List ℕ
label word names n = name_or word n (option_map (λ name. name.name) (first_name n names))

-- an activity of a project file, by its id and its name
abbrev pub activity_label : List ℕ → ℕ → List ℕ
activity_label file n =
    activity_called n (id_label (names_behind id_key file) (names_behind activity_key file) n)

-- a resource of a project file, by its name
abbrev pub resource_label : List ℕ → ℕ → List ℕ
resource_label file n = label (codes "resource") (names_behind resource_key file) n

-- an activity needs more of a resource than its capacity
abbrev pub need_detail : List ℕ → List ℕ → ℕ → ℕ → List ℕ
need_detail activity resource need capacity =
    activity ++ codes " needs " ++ decimal need ++ codes " of " ++ resource
    ++ codes ", which has " ++ decimal capacity

-- the need of an activity of an instance for a resource, both by their numbers from 1
abbrev pub need_of : Planned → ℕ → ℕ → ℕ
need_of i activity resource = need (problem_of i) (activity - 1) (resource - 1)

-- the capacity of a resource of an instance
abbrev pub capacity_of : Planned → ℕ → ℕ
capacity_of i resource = capacity (problem_of i) (resource - 1)

-- the sentence that an activity of an instance needs more of a resource than its capacity, with
-- their names in a file
abbrev pub need_text : List ℕ → Planned → ℕ → ℕ → List ℕ
need_text file i activity resource =
    need_detail (activity_label file activity) (resource_label file resource)
    (need_of i activity resource) (capacity_of i resource)

-- the detail of an error, if it has one, is about the first need of an instance that is above its
-- capacity
abbrev pub NamesNeed : List ℕ → Planned → CliFault → Type 0
NamesNeed file i (fault.Refused refusal) = IfSome refusal.detail (λ detail.
    (activity : ℕ) × (resource : ℕ) × IsFirstTooMuch (problem_of i) activity resource
    × (string_bytes detail ≡ need_text file i activity resource))
NamesNeed file i fault.Memory = Unit {0}
NamesNeed file i (fault.Input unread) = Unit {0}
NamesNeed file i fault.Output = Unit {0}

-- the names in a project file of numbers with a key
abbrev pub project_names : List ℕ → Key → List Name
project_names file key.Activity = names_behind activity_key file
project_names file key.Predecessor = names_behind activity_key file
project_names file key.Resource = names_behind resource_key file
project_names file _ = []

-- the names in an instance of a job shop file of numbers with a key
abbrev pub shop_names : List ℕ → List ℕ → Key → List Name
shop_names instance file key.Job = instance_names order_key instance file
shop_names instance file key.Machine = instance_names machine_key instance file
shop_names instance file _ = []

-- the names in the file of a project or of a job shop of numbers with a key
abbrev pub names_under : Subject → List ℕ → Key → List Name
names_under (subject.Project given) file key = project_names file key
names_under (subject.Shop instance) file key = shop_names instance.now file key

-- the first name of a number with a key
abbrev pub name_under : Subject → List ℕ → Key → ℕ → Option (List ℕ)
name_under s file key n = option_map (λ name. name.name) (first_name n (names_under s file key))

-- a number without the name of its key: an activity of a project, a step of a job shop
abbrev pub bare_called : Subject → ℕ → Option (List ℕ) → List ℕ
bare_called (subject.Project given) n name = name_or (codes "activity") n name
bare_called (subject.Shop instance) n name = decimal n

-- a part of an error of starts, with the names in a file
abbrev pub words_of : Subject → List ℕ → Part → List ℕ
words_of s file (part.Words words) = words.now
words_of s file (part.Number key n) = name_or (word_of key) n (name_under s file key n)
words_of s file (part.Bare key n) = bare_called s n (name_under s file key n)
words_of s file (part.Text text) = string_bytes text
words_of s file (part.Numbers key ns) = []
words_of s file (part.Ids ids) = []

-- the same, with a blank before it
abbrev pub next_words : Subject → List ℕ → Part → List ℕ
next_words s file part = 32 ∷ words_of s file part

-- the sentence of the parts of an error, with the names in a file
abbrev pub sentence : Subject → List ℕ → List Part → List ℕ
sentence s file [] = []
sentence s file (first ∷ rest) = words_of s file first ++ flat_map (next_words s file) rest

-- a text, if it differs from another one
abbrev pub other_than : List ℕ → List ℕ → Option (List ℕ)
other_than plain text = if bytes_eq text plain then None else Some text

-- the sentence of parts, if the file has a name for one of their numbers: an empty file has none
abbrev pub named_sentence : Subject → List ℕ → List Part → Option (List ℕ)
named_sentence s file parts = other_than (sentence s [] parts) (sentence s file parts)

-- the same for an error
abbrev pub fault_sentence : Subject → List ℕ → CliFault → Option (List ℕ)
fault_sentence s file (fault.Refused refusal) = named_sentence s file refusal.parts.items
fault_sentence s file _ = None

-- the detail of the error of starts that aren't feasible is their verdict with the names in a file
abbrev pub NamesVerdict : Subject → List ℕ → CliFault → Type 0
NamesVerdict s file (fault.Refused refusal) = refusal.code ≡ code.Infeasible
    → option_map string_bytes refusal.detail ≡ named_sentence s file refusal.parts.items
NamesVerdict s file _ = Unit {0}

-- an error is another one, perhaps with another detail; or memory ran out for the detail
abbrev pub IsDetailed : CliFault → CliFault → Type 0
IsDetailed plain e = (e ≡ fault.Memory)
    ⊎ ((e ≡ plain) ⊎ ((detail : Option (String Global)) × (e ≡ with_detail detail plain)))
