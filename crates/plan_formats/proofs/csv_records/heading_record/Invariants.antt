use Rattle.std.proofs.Common.{◌≡◌, [], map, take}
use Rattle.csv.specs.Records.{fields_of, partial_of}
use Rattle.plan_formats.specs.Columns.{column_of}
use Rattle.plan_formats.specs.CsvText.{heading_record}
use Rattle.plan_formats.proofs.csv_records.heading_record.Given as goal

-- the headings so far
abbrev pub invariant-loop-column : goal.invariant-loop-column
invariant-loop-column l = record {
  fields : fields_of l.row ≡ heading_record (map column_of (take l.column-index l.columns));
  whole : partial_of l.row ≡ [];
}
