-- The plain list of a file, which is read in its place.
use Rattle.std.specs.Prelude.{◌≡◌, ◌≢◌, ◌⊎◌, ℕ, List, [], Option, Some, None, Result, Ok, Err, Vec, IsNone, map}
use Rattle.std.specs.Option.{option_map_or}
use Rattle.std.specs.String.{string_bytes}
use Rattle.std.specs.declared.alloc.Global.{Global}
use Rattle.plan_encoding.specs.declared.text.Decoded.{Decoded}
use Rattle.plan_encoding.specs.Encodings.{encoding, utf8_of}
use Rattle.plan_encoding.specs.Workbooks.{workbook}
use Rattle.plan_encoding.specs.declared.encoding.Encoding.TheVariants.{Utf8}
use Rattle.plan_encoding.specs.declared.workbook.Workbook.{Workbook}
use Rattle.plan_encoding.specs.declared.workbook.Workbook.TheVariants as books
use Rattle.plan_table.specs.declared.fault.TableCode.TheVariants as code
use Rattle.plan_table.specs.declared.kinds.ListKind.{ListKind}
use Rattle.plan_table.specs.declared.kinds.ListKind.TheVariants as kinds
use Rattle.plan_table.specs.Csv.{Row}
use Rattle.plan_table.specs.Kinds.{IsKind, IsPlanFile}
use Rattle.plan_table.specs.Listing.{rows_read, table_read_with}
use Rattle.plan_table.specs.Overrides.{Override}
use Rattle.plan_table.specs.Reading.{Fault}
use Rattle.plan_table.specs.Table.{Table}
use Rattle.plan_spreadsheet.specs.declared.fault.SpreadsheetFault.{SpreadsheetFault}
use Rattle.plan_spreadsheet.specs.declared.fault.SpreadsheetFault.TheVariants as faults
use Rattle.plan_spreadsheet.specs.declared.list.PlainList as declared
use Rattle.plan_spreadsheet.specs.declared.rewriting.Rewriting as rewriting
use Rattle.plan_spreadsheet.specs.PlainRows.{ignored_headers, plain_rows}
use Rattle.plan_spreadsheet.specs.Rows.{Spells}
use Rattle.plan_spreadsheet.specs.Spelling.{IsTooLong}

-- a text is refused as a list, and not for a cycle
abbrev pub IsRefused : List Override → List ℕ → Type 0
IsRefused overrides text =
    (fault : Fault) × (table_read_with overrides text ≡ Err fault) × (fault.code ≢ code.Cycle)

-- a file that stays: a project file, a job shop file, or a list that isn't refused
abbrev pub IsReadable : List Override → List ℕ → Type 0
IsReadable overrides bytes = IsPlanFile bytes ⊎ (IsRefused overrides bytes → ⊥)

-- the first text, or else the second one
abbrev pub or_else : Option (Vec ℕ Global) → Option (Vec ℕ Global) → Option (Vec ℕ Global)
or_else (Some text) other = Some text
or_else None other = other

-- the text that a rewriting makes of another one
abbrev pub text_in : rewriting.Rewriting → List ℕ → List ℕ
text_in r text = option_map_or (λ new. new.items) r.text text

-- a list of activities becomes its plain rows; a text without rows stays
abbrev pub IsRewritten : List Override → List ℕ → Result (List Row) Fault → rewriting.Rewriting
    → Type 0
IsRewritten overrides text (Err fault) r = IsNone r.text × (r.ignored.items ≡ [])
IsRewritten overrides text (Ok rows) r =
    Spells (text_in r text) (plain_rows overrides rows)
    × (map string_bytes r.ignored.items ≡ ignored_headers overrides rows)

-- the result for a list in UTF-8: only refused activities are rewritten
abbrev pub IsPlainText : List Override → List ℕ → rewriting.Rewriting → Type 0
IsPlainText overrides text r =
    ((IsRefused overrides text → ⊥) × IsNone r.text × (r.ignored.items ≡ []))
    ⊎ (IsRefused overrides text × IsRewritten overrides text (rows_read text) r)

-- a decoded file with the new text of its list, if there is one
abbrev pub joined : Decoded → rewriting.Rewriting → declared.PlainList
joined d r = record { text = or_else r.text d.text; encoding = d.encoding; ignored = r.ignored }

-- the text that a file becomes
abbrev pub text_of : declared.PlainList → List ℕ → List ℕ
text_of p bytes = option_map_or (λ text. text.items) p.text bytes

-- the bytes stay, and no column is ignored
abbrev pub Stays : declared.PlainList → Type 0
Stays p = IsNone p.text × (p.encoding ≡ Utf8) × (p.ignored.items ≡ [])

-- a list of orders stays; a list of activities becomes a plain one
abbrev pub IsTextOf : ListKind → List Override → List ℕ → rewriting.Rewriting → Type 0
IsTextOf kinds.Orders overrides text r = IsNone r.text × (r.ignored.items ≡ [])
IsTextOf kinds.Activities overrides text r = IsPlainText overrides text r

-- the plain list of a file whose text in UTF-8 is a list of a kind, or no list
abbrev pub BecomesBy : Option ListKind → List Override → List ℕ → declared.PlainList → Type 0
BecomesBy None overrides bytes p = Stays p
BecomesBy (Some kind) overrides bytes p =
    (p.encoding ≡ encoding bytes)
    × ((r : rewriting.Rewriting) × IsTextOf kind overrides (utf8_of bytes) r
    × (text_of p bytes ≡ text_in r (utf8_of bytes)) × (p.ignored ≡ r.ignored))

-- the plain list of a file that is decoded
abbrev pub IsDecoded : List Override → List ℕ → declared.PlainList → Type 0
IsDecoded overrides bytes p =
    (kind : Option ListKind) × IsKind (utf8_of bytes) kind × BecomesBy kind overrides bytes p

-- the plain list of a file: a readable file stays, and another one that is no workbook is decoded
abbrev pub IsPlain : List Override → List ℕ → declared.PlainList → Type 0
IsPlain overrides bytes p =
    (IsReadable overrides bytes × Stays p)
    ⊎ ((IsReadable overrides bytes → ⊥) × (workbook bytes ≡ None) × IsDecoded overrides bytes p)

-- a list that plan_table accepts stays
abbrev pub KeepsAccepted : List Override → List ℕ → declared.PlainList → Type 0
KeepsAccepted overrides bytes p =
    (t : Table) → table_read_with overrides bytes ≡ Ok t → IsNone p.text

-- a project file and a job shop file stay
abbrev pub KeepsFiles : List ℕ → declared.PlainList → Type 0
KeepsFiles bytes p = IsPlanFile bytes → IsNone p.text

-- the error of a workbook
abbrev pub fault_of : Workbook → SpreadsheetFault
fault_of books.Excel = faults.Excel
fault_of books.OldExcel = faults.OldExcel
fault_of books.OpenDocument = faults.OpenDocument
fault_of books.Project = faults.Project

-- the errors of writing rows: out of memory may come at any time
abbrev pub IsUnwritten : List Row → SpreadsheetFault → Type 0
IsUnwritten rows fault = (fault ≡ faults.Memory) ⊎ ((fault ≡ faults.TooLong) × IsTooLong rows)

-- a list with rows becomes too long; a text without rows stays
abbrev pub BecomesTooLong : List Override → Result (List Row) Fault → Type 0
BecomesTooLong overrides (Err fault) = ⊥
BecomesTooLong overrides (Ok rows) = IsTooLong (plain_rows overrides rows)

-- the errors of rewriting a list
abbrev pub IsUnrewritten : List Override → Result (List Row) Fault → SpreadsheetFault → Type 0
IsUnrewritten overrides read fault =
    (fault ≡ faults.Memory) ⊎ ((fault ≡ faults.TooLong) × BecomesTooLong overrides read)

-- only a list that is refused can become too long
abbrev pub IsNoText : List Override → List ℕ → SpreadsheetFault → Type 0
IsNoText overrides text fault =
    (fault ≡ faults.Memory)
    ⊎ ((fault ≡ faults.TooLong) × IsRefused overrides text
    × BecomesTooLong overrides (rows_read text))

-- the errors for which a file is refused: it is a workbook, or it has no plain text
abbrev pub IsNoPlain : List Override → List ℕ → SpreadsheetFault → Type 0
IsNoPlain overrides bytes fault =
    IsNoText overrides (utf8_of bytes) fault
    ⊎ ((IsReadable overrides bytes → ⊥)
    × ((book : Workbook) × (workbook bytes ≡ Some book) × (fault ≡ fault_of book)))
