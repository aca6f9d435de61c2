-- The output of a command that prints a sheet, for the bytes that it reads (docs/definitions.md,
-- "Runs").
use Rattle.std.specs.Prelude.{◌≡◌, ◌⊎◌, ℕ, Bool, is_some, List, [], Option, Some, None, Result, codes}
use denote.Ref.{Bor}
use Rattle.plan_errors.specs.Faults.{IsUnread}
use Rattle.plan_errors.specs.Output.{Writes}
use Rattle.plan_errors.specs.declared.context.About.TheVariants as about
use Rattle.plan_errors.specs.declared.fault.CliFault.{CliFault}
use Rattle.plan_documents.specs.Documents.{IsOfSubject, RefusesSubject}
use Rattle.plan_documents.specs.ListOptions.{OfPrepared, RefusesOfPrepared}
use Rattle.plan_documents.specs.Lists.{ReadsAs, RefusesAs}
use Rattle.plan_cli.specs.NamedTexts.{DoesWith, dates_with}
use Rattle.plan_cli.specs.declared.calendars.Dates.{Dates}
use Rattle.plan_documents.specs.declared.documents.Subject.{Subject}
use Rattle.plan_documents.specs.declared.documents.Subject.TheVariants as subject
use Rattle.plan_cli.specs.declared.origins.Origin.{Origin}
use Rattle.plan_cli.specs.declared.origins.Origin.TheVariants as origin
use Rattle.plan_spreadsheet.specs.declared.options.Options.{Options}
use Rattle.plan_print.specs.Sheets.{IsSheetFrom, TellsNoSheetFrom}
use Rattle.plan_print.specs.declared.sheets.Sheet.{Sheet}
use Rattle.plan_print.specs.declared.sheets.Sheet.TheVariants as sheet
use Rattle.plan_print.specs.declared.prints.NamedOrigin.{NamedOrigin}
use Rattle.plan_print.specs.declared.prints.NamedOrigin.TheVariants as named
use Rattle.plan_print.specs.declared.prints.Print.{Print}

-- a text is a sheet of the project or the job shop in a file, which may be that of a list
abbrev pub IsSheet : Bool → Sheet → Subject → Origin → List ℕ → List ℕ → Type 0
IsSheet listed s of from file = IsOfSubject of (IsSheetFrom listed from s of file) file

-- a line gives the first check that a file fails, or else refuses its sheet
abbrev pub RefusesSheet : Sheet → Subject → Origin → List ℕ → List ℕ → Type 0
RefusesSheet s of from = RefusesSubject of (TellsNoSheetFrom from s)

-- the default rule of a project, or of a job shop
abbrev pub default_rule : Subject → List ℕ
default_rule (subject.Project given) = codes "lft"
default_rule (subject.Shop instance) = codes "mwkr"

-- a schedule is that by the default rule
abbrev pub IsDefaultOrigin : Subject → Origin → Type 0
IsDefaultOrigin of from = (name : Bor (List ℕ)) × (name.now ≡ default_rule of)
    × (from ≡ origin.Rule name)

-- a schedule has this origin for a project or a job shop: the given one, or else the default rule
abbrev pub IsOriginFor : Option Origin → Subject → Origin → Type 0
IsOriginFor (Some given) of from = from ≡ given
IsOriginFor None of from = IsDefaultOrigin of from

-- a text is the sheet for what a command reads
abbrev pub IsSheetBy : Bool → Sheet → Option Origin → Subject → List ℕ → List ℕ → Type 0
IsSheetBy listed s given of file text = (from : Origin) × IsOriginFor given of from
    × IsSheet listed s of from file text

-- a line refuses the sheet for what a command reads
abbrev pub RefusesSheetBy : Sheet → Option Origin → Subject → List ℕ → List ℕ → Type 0
RefusesSheetBy s given of file line = (from : Origin) × IsOriginFor given of from
    × RefusesSheet s of from file line

-- a text is a sheet of the project or the job shop in a file, which may be a list
abbrev pub IsSheetRead : Sheet → Subject → Option Origin → List ℕ → List ℕ → Type 0
IsSheetRead s of given file text = ReadsAs of file (λ kind a read. IsSheetBy (is_some kind) s given a read text)

-- a line gives the first check that a file fails, which may be a list, or else refuses its sheet
abbrev pub RefusesSheetRead : Sheet → Subject → Option Origin → List ℕ → List ℕ → Type 0
RefusesSheetRead s of given file = RefusesAs of file (λ a read. RefusesSheetBy s given a read)

-- a text is a sheet for what a command reads of a file with options of its list, or of the file
abbrev pub IsSheetPrepared : Option Options → Sheet → Subject → Option Origin → List ℕ → List ℕ
    → Type 0
IsSheetPrepared o s of given file text =
    OfPrepared o [] file (λ list. IsSheetRead s of given list text)

-- a line refuses a file with options of its list, or else the sheet for what a command reads of it
abbrev pub RefusesSheetPrepared : Option Options → Sheet → Subject → Option Origin → List ℕ
    → List ℕ → Type 0
RefusesSheetPrepared o s of given file line =
    RefusesOfPrepared o [] (RefusesSheetRead s of given) file line

-- dates with the holidays in a text, if there are dates
abbrev pub some_with : Option Dates → Bor (List ℕ) → Option Dates
some_with None text = None
some_with (Some dates) text = Some (dates_with dates text)

-- the sheet with the holidays in a text, if it has dates
abbrev pub sheet_with : Sheet → Bor (List ℕ) → Sheet
sheet_with (sheet.Events dates e) text = sheet.Events (dates_with dates text) e
sheet_with (sheet.Chart title) text = sheet.Chart title
sheet_with (sheet.Report title dates style by_job) text = sheet.Report title (some_with dates text) style by_job

-- Unless the input fails or memory runs out, the sheet is written for the bytes that were read, or
-- the line that refuses it is the error.
abbrev pub PrintsFrom : Option (List ℕ) → Option Options → Sheet → Subject → Option Origin
    → Option (List ℕ) → Option (List ℕ) → Result (Unit {0}) CliFault → Type 0
PrintsFrom bytes o s of given taken after result = DoesWith bytes result (λ file. Writes
    (IsSheetPrepared o s of given file.now) (RefusesSheetPrepared o s of given file.now)
    taken after result)

-- the same by the rule with a name, by the default rule, for the starts in the file with a name,
-- or by a search
abbrev pub PrintsNamed : (List ℕ → Option (List ℕ)) → Option Options → Sheet → Subject
    → NamedOrigin → List ℕ → Option (List ℕ) → Option (List ℕ) → Result (Unit {0}) CliFault → Type 0
PrintsNamed bytes_of o s of (named.Rule name) file taken after result =
    PrintsFrom (bytes_of file) o s of (Some (origin.Rule name)) taken after result
PrintsNamed bytes_of o s of named.Default file taken after result =
    PrintsFrom (bytes_of file) o s of None taken after result
PrintsNamed bytes_of o s of (named.Starts name) file taken after result =
    DoesWith (bytes_of name.now) result (λ starts.
    PrintsFrom (bytes_of file) o s of (Some (origin.Starts starts)) taken after result)
PrintsNamed bytes_of o s of (named.Solved conflicts) file taken after result =
    PrintsFrom (bytes_of file) o s of (Some (origin.Solved conflicts)) taken after result

-- the same with the holidays in the file with a name, if there is one
abbrev pub PrintsWith : (List ℕ → Option (List ℕ)) → Print → Option (Bor (List ℕ))
    → Option (List ℕ) → Option (List ℕ) → Result (Unit {0}) CliFault → Type 0
PrintsWith bytes_of print None taken after result =
    PrintsNamed bytes_of print.options print.sheet print.subject print.origin print.file.now
    taken after result
PrintsWith bytes_of print (Some name) taken after result =
    DoesWith (bytes_of name.now) result (λ text. PrintsNamed bytes_of print.options
    (sheet_with print.sheet text) print.subject print.origin print.file.now taken after result)

-- The effect of a print, if these are the bytes of the files with a name, as far as they are known.
-- At most one byte more than the longest text has is read of each file.
abbrev pub Prints : (List ℕ → Option (List ℕ)) → Print → Option (List ℕ) → Option (List ℕ)
    → Result (Unit {0}) CliFault → Type 0
Prints bytes_of print taken after result =
    PrintsWith bytes_of print print.holidays taken after result

-- if a file can't be read, it is that of the project or the job shop, or that of the starts if the
-- schedule has one
abbrev pub IsUnreadBy : NamedOrigin → CliFault → Type 0
IsUnreadBy (named.Rule name) e = IsUnread about.Plan e
IsUnreadBy named.Default e = IsUnread about.Plan e
IsUnreadBy (named.Starts name) e = IsUnread about.Starts e ⊎ IsUnread about.Plan e
IsUnreadBy (named.Solved conflicts) e = IsUnread about.Plan e

-- the same, or it is that of the holidays if there is one
abbrev pub IsUnreadWith : Option (Bor (List ℕ)) → NamedOrigin → CliFault → Type 0
IsUnreadWith None from e = IsUnreadBy from e
IsUnreadWith (Some name) from e = IsUnread about.Holidays e ⊎ IsUnreadBy from e

abbrev pub IsUnreadIn : Print → CliFault → Type 0
IsUnreadIn print e = IsUnreadWith print.holidays print.origin e
