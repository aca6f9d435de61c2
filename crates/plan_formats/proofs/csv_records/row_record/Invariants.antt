use Rattle.std.proofs.Common.{◌≡◌, ◌++◌, [], map, drop}
use Rattle.csv.specs.Records.{fields_of, partial_of}
use Rattle.plan_formats.specs.Columns.{column_of}
use Rattle.plan_formats.specs.Tables.{cells_of}
use Rattle.plan_formats.specs.CsvText.{row_record}
use Rattle.plan_formats.proofs.csv_records.row_record.Given as goal

-- the fields so far, and behind them those of the cells that are left, are all fields
abbrev pub invariant-loop-cell : goal.invariant-loop-cell
invariant-loop-cell l = record {
  fields : fields_of l.row ++ row_record (map column_of l.left) (cells_of (drop l.cell-index l.cells))
      ≡ row_record (map column_of l.columns) (cells_of l.cells);
  whole : partial_of l.row ≡ [];
}
