-- Files that are read with the options of a list: the plain list that the options make of a file
-- is read in its place (docs/definitions.md, "Runs").
use Rattle.std.specs.Prelude.{◌≡◌, ◌⊎◌, ℕ, Bool, true, false, List, [], Option, Some, None, get_or}
use Rattle.plan_table.specs.Overrides.{Override}
use Rattle.plan_spreadsheet.specs.Options.{Options, Rename, options_of}
use Rattle.plan_spreadsheet.specs.PlainLists.{text_of}
use Rattle.plan_spreadsheet.specs.PreparedLists.{IsNoPlainWith, IsPlainWith}
use Rattle.plan_spreadsheet.specs.declared.list.PlainList.{PlainList}
use Rattle.plan_spreadsheet.specs.declared.options.Options as declared
use Rattle.plan_spreadsheet.specs.declared.prepared.OptionsFault.{OptionsFault}
use Rattle.plan_spreadsheet.specs.declared.prepared.OptionsFault.TheVariants as refusal
use Rattle.plan_documents.specs.Notes.{AreNotesOf, note_line}
use Rattle.plan_documents.specs.Spreadsheets.{IsLong, TellsBook, TellsFault, is_short}
use Rattle.plan_documents.specs.TableFaultText.{TellsNoHeader}

-- ---- the errors of options

abbrev pub header_in : Rename → List ℕ
header_in r = r.header

-- the header of the rename with this number, from 0
abbrev pub renamed_header : List Rename → ℕ → List ℕ
renamed_header renames k = header_in (get_or renames k (record { header = []; word = [] }))

-- the header of the column to leave out with this number, from 0
abbrev pub ignored_header : List (List ℕ) → ℕ → List ℕ
ignored_header ignored k = get_or ignored k []

-- a line reports why a file becomes no plain list with options
abbrev pub TellsOptions : Options → OptionsFault → List ℕ → Type 0
TellsOptions o (refusal.Plain first) line = TellsFault first line
TellsOptions o (refusal.NoRenamed k) line = TellsNoHeader (renamed_header o.renames k) line
TellsOptions o (refusal.NoIgnored k) line = TellsNoHeader (ignored_header o.ignored k) line

-- ---- the plain list of a file with options

-- a file becomes its plain list with options, if it isn't longer than the longest text
abbrev pub IsPlainFromIf : Bool → Options → List Override → List ℕ → PlainList → Type 0
IsPlainFromIf true o given file p = IsPlainWith o given file p
IsPlainFromIf false o given file p = IsLong file p

abbrev pub IsPlainFrom : Options → List Override → List ℕ → PlainList → Type 0
IsPlainFrom o given file p = IsPlainFromIf (is_short file) o given file p

-- a line reports why a file becomes no plain list with options, if it isn't longer than the longest
-- text
abbrev pub TellsNoPlainIf : Bool → Options → List Override → List ℕ → List ℕ → Type 0
TellsNoPlainIf true o given file line =
    (first : OptionsFault) × IsNoPlainWith o given file first × TellsOptions o first line
TellsNoPlainIf false o given file line = TellsBook file line

abbrev pub TellsNoPlain : Options → List Override → List ℕ → List ℕ → Type 0
TellsNoPlain o given file line = TellsNoPlainIf (is_short file) o given file line

-- ---- the text that a command reads

-- there is a plain list if there are options
abbrev pub IsListBy : Option declared.Options → List Override → List ℕ → Option PlainList → Type 0
IsListBy None given file None = Unit {0}
IsListBy (Some o) given file (Some p) = IsPlainFrom (options_of o) given file p
IsListBy None given file (Some p) = ⊥
IsListBy (Some o) given file None = ⊥

-- the text of the plain list, or else the file
abbrev pub text_in : Option PlainList → List ℕ → List ℕ
text_in None file = file
text_in (Some p) file = text_of p file

-- a text is that of the plain list of a file with options, or without options the file
abbrev pub IsPrepared : Option declared.Options → List Override → List ℕ → List ℕ → Type 0
IsPrepared None given file text = text ≡ file
IsPrepared (Some o) given file text =
    (p : PlainList) × IsPlainFrom (options_of o) given file p × (text ≡ text_of p file)

-- a line reports why a file becomes no plain list; without options it stays
abbrev pub TellsUnprepared : Option declared.Options → List Override → List ℕ → List ℕ → Type 0
TellsUnprepared None given file line = ⊥
TellsUnprepared (Some o) given file line = TellsNoPlain (options_of o) given file line

-- this holds of the text that a command reads with options, and without options of the file
abbrev pub OfPrepared : Option declared.Options → List Override → List ℕ → (List ℕ → Type 0)
    → Type 0
OfPrepared None given file Holds = Holds file
OfPrepared (Some o) given file Holds =
    (text : List ℕ) × IsPrepared (Some o) given file text × Holds text

-- a line refuses a file with options, or else the text that a command reads; without options it
-- refuses the file
abbrev pub RefusesOfPrepared : Option declared.Options → List Override
    → (List ℕ → List ℕ → Type 0) → List ℕ → List ℕ → Type 0
RefusesOfPrepared None given IsLine file line = IsLine file line
RefusesOfPrepared (Some o) given IsLine file line = TellsUnprepared (Some o) given file line
    ⊎ OfPrepared (Some o) given file (λ text. IsLine text line)

-- the line of notes on the plain list with options, or without options on that of the file
abbrev pub AreNotesOn : Option PlainList → List Override → List ℕ → Option (List ℕ) → Type 0
AreNotesOn None given file note = AreNotesOf given file note
AreNotesOn (Some p) given file note = note ≡ note_line p
