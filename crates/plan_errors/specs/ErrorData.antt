-- Errors as JSON (docs/definitions.md, "Formats").
use Rattle.std.specs.Prelude.{ℕ, if◌then◌else◌, List, [], ◌∷◌, Option, Some, None, fold, map}
use Rattle.std.specs.Prelude.{codes, string_bytes}
use denote.Ref.{Bor}
use Rattle.serde_json.specs.Data.{Data, Members, Items, no_members, object, array, unsigned, put}
use Rattle.serde_json.specs.Data as json
use Rattle.serde_json.specs.View.{items_of}
use Rattle.plan_psplib.specs.Lines.{words}
use Rattle.plan_psplib.specs.Numbers.{number}
use Rattle.plan_errors.specs.Codes.{name_of}
use Rattle.plan_errors.specs.Faults.{code_of, line_of, subject_of}
use Rattle.plan_errors.specs.HintText.{advice_of}
use Rattle.plan_errors.specs.Parts.{word_of}
use Rattle.plan_errors.specs.Subjects.{argument_of, is_file}
use Rattle.plan_errors.specs.declared.context.Context.{Context}
use Rattle.plan_errors.specs.declared.context.About.{About}
use Rattle.plan_errors.specs.declared.fault.CliFault.{CliFault}
use Rattle.plan_errors.specs.declared.fault.CliFault.TheVariants as fault
use Rattle.plan_errors.specs.declared.parts.Part.{Part}
use Rattle.plan_errors.specs.declared.parts.Part.TheVariants as part

abbrev pub number_data : ℕ → Data
number_data n = json.number (unsigned n)

abbrev pub items_of_numbers : List ℕ → Items
items_of_numbers ns = items_of (map number_data ns)

-- a number before others, if there is one
abbrev pub number_before : Option ℕ → List ℕ → List ℕ
number_before None ns = []
number_before (Some n) ns = n ∷ ns

-- the numbers in front of the first word that isn't a number
abbrev pub front_numbers : List (List ℕ) → List ℕ
front_numbers [] = []
front_numbers (word ∷ found) = number_before (number word) (front_numbers found)

-- members, and numbers under a key if there are any
abbrev pub with_numbers : List ℕ → List ℕ → Members → Members
with_numbers key [] members = members
with_numbers key (n ∷ ns) members = put key (array (items_of_numbers (n ∷ ns))) members

-- members, and the numbers of a part under its key; of the ids of a cycle those in front that are
-- numbers
abbrev pub with_part : Members → Part → Members
with_part members (part.Words words) = members
with_part members (part.Number key n) = put (word_of key) (number_data n) members
with_part members (part.Bare key n) = put (word_of key) (number_data n) members
with_part members (part.Numbers key ns) = with_numbers (word_of key) ns.items members
with_part members (part.Text text) = members
with_part members (part.Ids ids) =
    with_numbers (codes "cycle") (front_numbers (words (string_bytes ids))) members

-- members, and the numbers of the parts of an error
abbrev pub with_parts : CliFault → Members → Members
with_parts (fault.Refused refusal) members = fold with_part members refusal.parts.items
with_parts fault.Memory members = members
with_parts (fault.Input unread) members = members
with_parts fault.Output members = members

-- the key of an argument
abbrev pub argument_key : About → List ℕ
argument_key about = if is_file about then codes "file" else codes "argument"

-- members, and the argument that an error is about, as on the command line, if there is one
abbrev pub with_argument : About → Option (Bor (List ℕ)) → Members → Members
with_argument about None members = members
with_argument about (Some argument) members =
    put (argument_key about) (json.string argument.now) members

-- members, and the line and the advice on an error of a command with these arguments
abbrev pub with_texts : Context → CliFault → Members → Members
with_texts context fault members =
    put (codes "hint") (json.string (advice_of context fault))
    (put (codes "text") (json.string (line_of fault)) members)

-- members, and those of an error of a command with these arguments, except its code
abbrev pub with_members : Context → CliFault → Members → Members
with_members context fault members =
    with_texts context fault
    (with_argument (subject_of fault) (argument_of context (subject_of fault))
    (with_parts fault members))

-- an error of a command with these arguments, as an object
abbrev pub error_data : Context → CliFault → Data
error_data context fault =
    object (with_members context fault
    (put (codes "code") (json.string (name_of (code_of fault))) no_members))
