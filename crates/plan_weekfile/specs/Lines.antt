-- The errors of lists with dates and of their plans, as lines of text.
use Rattle.std.specs.Prelude.{◌≡◌, ℕ, List, [], ◌∷◌, ◌++◌, Option, Some, None, codes, get_or}
use Rattle.std.specs.Fmt.{decimal}
use Rattle.std.specs.Str.Lossy.{utf8_lossy}
use Rattle.plan_documents.specs.ImportRun.{TellsTable}
use Rattle.plan_documents.specs.Quotes.{quoted}
use Rattle.plan_documents.specs.Spreadsheets.{TellsFault}
use Rattle.plan_errors.specs.declared.codes.Code.{Code}
use Rattle.plan_errors.specs.declared.codes.Code.TheVariants as codes_of
use Rattle.plan_table.specs.Table.{Resource}
use Rattle.plan_week.specs.declared.overload.Overload.{Overload}
use Rattle.plan_weeklist.specs.declared.fault.WeekCode.{WeekCode}
use Rattle.plan_weeklist.specs.declared.fault.WeekCode.TheVariants as code
use Rattle.plan_weeklist.specs.declared.listed.ListFault.{ListFault}
use Rattle.plan_weeklist.specs.declared.listed.ListFault.TheVariants as lists
use Rattle.plan_weeklist.specs.Faults.{Fault, fault_of}
use Rattle.plan_weeks.specs.declared.fault.PlanFault.{PlanFault}
use Rattle.plan_weeks.specs.declared.fault.PlanFault.TheVariants as faults

-- the code of a check that dates fail
abbrev pub dates_code : WeekCode → Code
dates_code code.TooLong = codes_of.LongTable
dates_code code.NoResource = codes_of.NoListResource
dates_code code.NoToday = codes_of.NoToday
dates_code code.BadNumber = codes_of.BadInstant
dates_code code.Contradiction = codes_of.BadDates

-- a line and a word behind it
abbrev pub lined : ℕ → List ℕ → List ℕ
lined line word = codes " line " ++ decimal line ++ 32 ∷ word

-- the header of a column that is no resource
abbrev pub named : List ℕ → List ℕ
named header = codes " no resource " ++ utf8_lossy header

-- the line of a check that dates fail
abbrev pub line_by : WeekCode → ℕ → List ℕ → List ℕ
line_by code.TooLong line word = codes "T1 too long"
line_by code.NoResource line word = codes "T14" ++ named word
line_by code.NoToday line word = codes "T17" ++ lined line (codes "begun")
line_by code.BadNumber line word = codes "T20" ++ lined line (codes "number")
line_by code.Contradiction line word = codes "T21" ++ lined line (codes "dates")

abbrev pub dates_line : Fault → List ℕ
dates_line f = line_by f.code f.line f.word

abbrev pub TellsDates : Fault → List ℕ → Type 0
TellsDates f line = line ≡ dates_line f

-- the sentence that a word is no instant and no amount, with at most 60 bytes of the word
abbrev pub number_sentence : List ℕ → List ℕ
number_sentence word =
    codes "\"" ++ quoted word
    ++ codes "\" isn't a number from 0 to 10000000 or, with --start, a date such as 2027-05-11"

-- the sentence that quotes a cell, unless it is empty
abbrev pub quoted_cell : List ℕ → Option (List ℕ)
quoted_cell [] = None
quoted_cell (byte ∷ cell) = Some (number_sentence (utf8_lossy (byte ∷ cell)))

abbrev pub detail_by : WeekCode → List ℕ → Option (List ℕ)
detail_by code.BadNumber word = quoted_cell word
detail_by _ word = None

-- a line gives an error of a list
abbrev pub TellsList : ListFault → List ℕ → Type 0
TellsList lists.Memory line = ⊥
TellsList (lists.Dates f) line = TellsDates (fault_of f) line
TellsList (lists.Spreadsheet f) line = TellsFault f line
TellsList (lists.Table f) line = TellsTable f line

-- the name of a resource, an empty one if there is none
abbrev pub name_at : List Resource → ℕ → List ℕ
name_at resources k = (get_or resources k (record { name = []; capacity = 0 })).name

-- the line of an overload: the name of its resource, and its instant
abbrev pub overload_line : List Resource → Overload → List ℕ
overload_line resources o =
    codes "S11 " ++ name_at resources o.resource ++ 32 ∷ decimal o.instant

abbrev pub TellsOverload : List Resource → Overload → List ℕ → Type 0
TellsOverload resources o line = line ≡ overload_line resources o

-- the conflict limit of a search was allowed
abbrev pub IsLimited : PlanFault → Type 0
IsLimited faults.BadConflicts = ⊥
IsLimited _ = Unit {0}

-- a line gives the reason why there is no plan
abbrev pub TellsPlan : List Resource → PlanFault → List ℕ → Type 0
TellsPlan resources faults.Memory line = ⊥
TellsPlan resources faults.BadConflicts line = ⊥
TellsPlan resources (faults.Overload o) line = TellsOverload resources o line
TellsPlan resources faults.Impossible line = line ≡ codes "S12 no plan"
TellsPlan resources faults.NotFound line = line ≡ codes "S13 none found"
