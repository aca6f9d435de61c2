use Rattle.std.proofs.Common.{◌≡◌, ◌++◌, map, take}
use Rattle.plan_formats.specs.Columns.{column_of}
use Rattle.plan_formats.specs.Tables.{rows_of}
use Rattle.plan_formats.specs.CsvText.{csv_text_of, records_of_rows}
use Rattle.plan_formats.proofs.csv_records.push_rows.Given as goal

-- the text, and behind it the records of the rows so far
abbrev pub invariant-loop-row : goal.invariant-loop-row
invariant-loop-row l = l.text.items ≡ l.fn.text.items ++ csv_text_of (records_of_rows (map column_of l.columns) (rows_of (take l.row-index l.rows)))
