-- The plain list that a file becomes before it is read as a list (docs/definitions.md, "Runs").
use Rattle.std.specs.Prelude.{◌≡◌, ◌⊎◌, ℕ, Bool, true, false, List, Some, codes, length, nat_le, take}
use Rattle.std.specs.Prelude.{IsNone}
use Rattle.plan_psplib.specs.Plain.{longest_text}
use Rattle.plan_encoding.specs.Workbooks.{workbook}
use Rattle.plan_encoding.specs.declared.workbook.Workbook.{Workbook}
use Rattle.plan_table.specs.Overrides.{Override}
use Rattle.plan_spreadsheet.specs.PlainLists.{IsNoPlain, IsPlain, Stays, fault_of, text_of}
use Rattle.plan_spreadsheet.specs.declared.fault.SpreadsheetFault.{SpreadsheetFault}
use Rattle.plan_spreadsheet.specs.declared.fault.SpreadsheetFault.TheVariants as fault
use Rattle.plan_spreadsheet.specs.declared.list.PlainList.{PlainList}

-- a line reports why a file becomes no plain list
abbrev pub TellsFault : SpreadsheetFault → List ℕ → Type 0
TellsFault fault.Memory line = ⊥
TellsFault fault.TooLong line = line ≡ codes "T1 too long"
TellsFault fault.Excel line = line ≡ codes "T18 an Excel workbook: save it as CSV UTF-8"
TellsFault fault.OldExcel line =
    line ≡ codes "T18 an Excel 97-2003 workbook: save it as CSV UTF-8"
TellsFault fault.OpenDocument line =
    line ≡ codes "T18 an OpenDocument spreadsheet: save it as CSV UTF-8"
TellsFault fault.Project line = line ≡ codes "T18 a Microsoft Project file: save it as CSV"

-- a file isn't longer than the longest text
abbrev pub is_short : List ℕ → Bool
is_short file = nat_le (length file) longest_text

-- a longer file stays, unless it begins like a workbook
abbrev pub IsLong : List ℕ → PlainList → Type 0
IsLong file p = IsNone (workbook (take longest_text file)) × Stays p

-- a file becomes its plain list, if it isn't longer than the longest text
abbrev pub IsPlainIf : Bool → List Override → List ℕ → PlainList → Type 0
IsPlainIf true given file p = IsPlain given file p
IsPlainIf false given file p = IsLong file p

abbrev pub IsPlainOf : List Override → List ℕ → PlainList → Type 0
IsPlainOf given file p = IsPlainIf (is_short file) given file p

-- a text is the plain list of a file, with capacities that are given
abbrev pub IsListOf : List Override → List ℕ → List ℕ → Type 0
IsListOf given file list = (p : PlainList) × IsPlainOf given file p × (list ≡ text_of p file)

-- a line gives the workbook that a longer file begins like
abbrev pub TellsBook : List ℕ → List ℕ → Type 0
TellsBook file line = (book : Workbook) × (workbook (take longest_text file) ≡ Some book)
    × TellsFault (fault_of book) line

-- a line reports why a file becomes no plain list, if it isn't longer than the longest text
abbrev pub TellsNoListIf : Bool → List Override → List ℕ → List ℕ → Type 0
TellsNoListIf true given file line =
    (first : SpreadsheetFault) × IsNoPlain given file first × TellsFault first line
TellsNoListIf false given file line = TellsBook file line

abbrev pub TellsNoList : List Override → List ℕ → List ℕ → Type 0
TellsNoList given file line = TellsNoListIf (is_short file) given file line

-- this holds of the plain list of a file
abbrev pub OfList : List Override → List ℕ → (List ℕ → Type 0) → Type 0
OfList given file Holds = (list : List ℕ) × IsListOf given file list × Holds list

-- a line refuses a file that becomes no plain list, or else its plain list
abbrev pub RefusesOfList : List Override → (List ℕ → List ℕ → Type 0) → List ℕ → List ℕ → Type 0
RefusesOfList given IsLine file line =
    TellsNoList given file line ⊎ OfList given file (λ list. IsLine list line)
