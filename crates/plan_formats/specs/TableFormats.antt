-- A table in each format (docs/definitions.md, "Formats").
use Rattle.std.specs.Prelude.{ℕ, List}
use Rattle.plan_formats.specs.Tables.{Table}
use Rattle.plan_formats.specs.CsvText.{csv_text_of, records_of, ReadsAs, HaveFields}
use Rattle.plan_formats.specs.JsonData.{data_of}
use Rattle.plan_formats.specs.JsonText.{json_text_of, IsLineOf}
use Rattle.plan_formats.specs.declared.format.Format.{Format}
use Rattle.plan_formats.specs.declared.format.Format.TheVariants as format

-- a table in a format
abbrev pub format_text : Format → Table → List ℕ
format_text format.Csv table = csv_text_of (records_of table)
format_text format.Json table = json_text_of (data_of table)

-- a text reads as a table: as its records by the default reader of `csv`, if each of them has a
-- field, or as its value by `serde_json`
abbrev pub ReadsBack : Format → List ℕ → Table → Type 0
ReadsBack format.Csv text table = HaveFields (records_of table) → ReadsAs text (records_of table)
ReadsBack format.Json text table = IsLineOf text (data_of table)
