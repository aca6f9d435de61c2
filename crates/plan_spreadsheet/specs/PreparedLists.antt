-- The plain list of a file with options.
use Rattle.std.specs.Prelude.{◌≡◌, ◌⊎◌, ℕ, true, List, Option, Some, None, Result, Ok, Err, Vec}
use Rattle.std.specs.declared.alloc.Global.{Global}
use Rattle.plan_encoding.specs.declared.encoding.Encoding.{Encoding}
use Rattle.plan_encoding.specs.Encodings.{encoding, utf8_of}
use Rattle.plan_encoding.specs.Workbooks.{workbook}
use Rattle.plan_encoding.specs.declared.workbook.Workbook.{Workbook}
use Rattle.plan_table.specs.Csv.{Row}
use Rattle.plan_table.specs.Kinds.{IsPlanFile}
use Rattle.plan_table.specs.Listing.{rows_read}
use Rattle.plan_table.specs.Overrides.{Override}
use Rattle.plan_table.specs.Reading.{Fault}
use Rattle.plan_spreadsheet.specs.declared.fault.SpreadsheetFault.TheVariants as faults
use Rattle.plan_spreadsheet.specs.declared.list.PlainList as declared
use Rattle.plan_spreadsheet.specs.declared.prepared.OptionsFault.{OptionsFault}
use Rattle.plan_spreadsheet.specs.declared.prepared.OptionsFault.TheVariants as refusal
use Rattle.plan_spreadsheet.specs.Options.{Options, are_none, header_cells, missing_ignored, missing_rename, prepared}
use Rattle.plan_spreadsheet.specs.PlainLists.{IsNoPlain, IsPlain, or_else, text_of}
use Rattle.plan_spreadsheet.specs.Rows.{Spells, filled}
use Rattle.plan_spreadsheet.specs.Spelling.{IsTooLong}

-- options change nothing: none is given, or the file is no list
abbrev pub IsUntouched : Options → List ℕ → Type 0
IsUntouched o bytes =
    (are_none o ≡ true) ⊎ IsPlanFile bytes ⊎ ((book : Workbook) × (workbook bytes ≡ Some book))

-- ---- what a list becomes

-- a plain list of a text as that of a file, which is in another encoding
abbrev pub of_file : declared.PlainList → Encoding → Vec ℕ Global → declared.PlainList
of_file q e text = record { text = or_else q.text (Some text); encoding = e; ignored = q.ignored }

-- no header is missing
abbrev pub HasHeaders : Options → List Row → Type 0
HasHeaders o rows =
    (missing_rename (header_cells rows) 0 o.renames ≡ None) × (missing_ignored (header_cells rows) 0 o.ignored ≡ None)

-- rows become the plain list of a text that spells them as the options say
abbrev pub IsPreparedList : Options → List Override → Encoding → List Row → declared.PlainList
    → Type 0
IsPreparedList o overrides e rows p =
    HasHeaders o rows × ((text : Vec ℕ Global) × Spells text.items (prepared o overrides rows)
    × ((q : declared.PlainList) × IsPlain overrides text.items q × (p ≡ of_file q e text)))

-- a text without records becomes what it becomes without options
abbrev pub IsPreparedBy : Options → List Override → List ℕ → Result (List Row) Fault
    → declared.PlainList → Type 0
IsPreparedBy o overrides bytes (Err fault) p = IsPlain overrides bytes p
IsPreparedBy o overrides bytes (Ok rows) p =
    IsPreparedList o overrides (encoding bytes) (filled rows) p

-- the plain list that a file becomes with options and given capacities
abbrev pub IsPlainWith : Options → List Override → List ℕ → declared.PlainList → Type 0
IsPlainWith o overrides bytes p =
    (IsUntouched o bytes × IsPlain overrides bytes p)
    ⊎ ((IsUntouched o bytes → ⊥) × IsPreparedBy o overrides bytes (rows_read (utf8_of bytes)) p)

-- without options a file becomes the same plain list as before
abbrev pub KeepsPlain : Options → List Override → List ℕ → declared.PlainList → Type 0
KeepsPlain o overrides bytes p = are_none o ≡ true → IsPlain overrides bytes p

-- ---- what a list is refused for

-- a header is missing
abbrev pub IsMissingIn : Options → List Row → OptionsFault → Type 0
IsMissingIn o rows (refusal.Plain fault) = ⊥
IsMissingIn o rows (refusal.NoRenamed k) = missing_rename (header_cells rows) 0 o.renames ≡ Some k
IsMissingIn o rows (refusal.NoIgnored k) = missing_ignored (header_cells rows) 0 o.ignored ≡ Some k

-- a text becomes no plain list without options
abbrev pub IsNoPlainText : List Override → List ℕ → OptionsFault → Type 0
IsNoPlainText overrides text (refusal.Plain fault) = IsNoPlain overrides text fault
IsNoPlainText overrides text (refusal.NoRenamed k) = ⊥
IsNoPlainText overrides text (refusal.NoIgnored k) = ⊥

-- a header is missing, or the text of the rows is too long, or the text that spells them becomes no
-- plain list
abbrev pub IsNoList : Options → List Override → List Row → OptionsFault → Type 0
IsNoList o overrides rows fault =
    IsMissingIn o rows fault
    ⊎ ((fault ≡ refusal.Plain faults.TooLong) × IsTooLong (prepared o overrides rows))
    ⊎ ((text : List ℕ) × Spells text (prepared o overrides rows) × IsNoPlainText overrides text fault)

abbrev pub IsNoPlainBy : Options → List Override → List ℕ → Result (List Row) Fault
    → OptionsFault → Type 0
IsNoPlainBy o overrides bytes (Err read) fault = IsNoPlainText overrides bytes fault
IsNoPlainBy o overrides bytes (Ok rows) fault = IsNoList o overrides (filled rows) fault

-- the errors for which a file is refused; running out of memory is always possible
abbrev pub IsNoPlainWith : Options → List Override → List ℕ → OptionsFault → Type 0
IsNoPlainWith o overrides bytes fault =
    (fault ≡ refusal.Plain faults.Memory)
    ⊎ (IsUntouched o bytes × IsNoPlainText overrides bytes fault)
    ⊎ ((IsUntouched o bytes → ⊥) × IsNoPlainBy o overrides bytes (rows_read (utf8_of bytes)) fault)
