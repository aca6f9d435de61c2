use Rattle.std.proofs.Common.{◌≤◌, length, map, sym, ◌∙◌, arith}
use Rattle.csv.specs.Records.{fields_of}
use Rattle.plan_formats.specs.Columns.{column_of}
use Rattle.plan_formats.proofs.CsvLemmas.{fields_done}
use Rattle.plan_formats.proofs.csv_records.row_record.Goals as goal

pub returns : goal.returns
returns c =
    let past : length c.args.cells.now ≤ c.loop-cell.cell-index = omega arith in
    sym (fields_done (fields_of c.loop-cell.row) (map column_of c.loop-cell.left.now) c.args.cells.now c.loop-cell.cell-index past) ∙ c.loop-cell.invariant.fields
