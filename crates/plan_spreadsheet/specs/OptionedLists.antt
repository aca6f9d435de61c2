-- The list that a file becomes with options, before it becomes a plain list.
use Rattle.std.specs.Prelude.{◌≡◌, ◌⊎◌, ℕ, List, Option, Some, None, Result, Ok, Err, Vec}
use Rattle.std.specs.declared.alloc.Global.{Global}
use Rattle.std.specs.Option.{option_map_or}
use Rattle.plan_encoding.specs.declared.encoding.Encoding.{Encoding}
use Rattle.plan_encoding.specs.declared.encoding.Encoding.TheVariants as encodings
use Rattle.plan_encoding.specs.Encodings.{encoding, utf8_of}
use Rattle.plan_table.specs.Csv.{Row}
use Rattle.plan_table.specs.Listing.{rows_read}
use Rattle.plan_table.specs.Overrides.{Override}
use Rattle.plan_table.specs.Reading.{Fault}
use Rattle.plan_spreadsheet.specs.declared.fault.SpreadsheetFault.TheVariants as faults
use Rattle.plan_spreadsheet.specs.declared.optioned.OptionedList.{OptionedList}
use Rattle.plan_spreadsheet.specs.declared.prepared.OptionsFault.{OptionsFault}
use Rattle.plan_spreadsheet.specs.declared.prepared.OptionsFault.TheVariants as refusal
use Rattle.plan_spreadsheet.specs.Options.{Options, prepared}
use Rattle.plan_spreadsheet.specs.PreparedLists.{HasHeaders, IsMissingIn, IsUntouched}
use Rattle.plan_spreadsheet.specs.Rows.{Spells, filled}

-- the text that is read in place of a file
abbrev pub text_of : OptionedList → List ℕ → List ℕ
text_of list bytes = option_map_or (λ text. text.items) list.text bytes

-- the bytes of a file stay
abbrev pub staying : OptionedList
staying = record { text = None; encoding = encodings.Utf8 }

-- a text spells rows as the options say
abbrev pub IsOptionedOf : Options → List Override → Encoding → List Row → OptionedList → Type 0
IsOptionedOf o overrides e rows list =
    HasHeaders o rows × ((text : Vec ℕ Global) × Spells text.items (prepared o overrides rows)
    × (list ≡ record { text = Some text; encoding = e }))

-- a text without records stays
abbrev pub IsOptionedBy : Options → List Override → List ℕ → Result (List Row) Fault → OptionedList → Type 0
IsOptionedBy o overrides bytes (Err fault) list = list ≡ staying
IsOptionedBy o overrides bytes (Ok rows) list = IsOptionedOf o overrides (encoding bytes) (filled rows) list

-- the list that a file becomes with options
abbrev pub IsOptioned : Options → List Override → List ℕ → OptionedList → Type 0
IsOptioned o overrides bytes list =
    (IsUntouched o bytes × (list ≡ staying))
    ⊎ ((IsUntouched o bytes → ⊥) × IsOptionedBy o overrides bytes (rows_read (utf8_of bytes)) list)

-- a header is missing, or no text is long enough for the rows
abbrev pub IsNoneOf : Options → List Row → OptionsFault → Type 0
IsNoneOf o rows fault = IsMissingIn o rows fault ⊎ (fault ≡ refusal.Plain faults.TooLong)

abbrev pub IsNoneBy : Options → Result (List Row) Fault → OptionsFault → Type 0
IsNoneBy o (Err read) fault = ⊥
IsNoneBy o (Ok rows) fault = IsNoneOf o (filled rows) fault

-- the errors for which a file is refused; running out of memory is always possible
abbrev pub IsNotOptioned : Options → List ℕ → OptionsFault → Type 0
IsNotOptioned o bytes fault =
    (fault ≡ refusal.Plain faults.Memory)
    ⊎ ((IsUntouched o bytes → ⊥) × IsNoneBy o (rows_read (utf8_of bytes)) fault)
