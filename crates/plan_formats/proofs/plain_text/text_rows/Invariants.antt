use Rattle.std.proofs.Common.{◌≡◌, map, take}
use Rattle.plan_formats.specs.Columns.{column_of}
use Rattle.plan_formats.specs.Tables.{rows_of}
use Rattle.plan_formats.specs.TableText.{text_row_of, text_rows}
use Rattle.plan_formats.proofs.plain_text.text_rows.Given as goal

-- the line of headings, and the rows so far
abbrev pub invariant-loop-row : goal.invariant-loop-row
invariant-loop-row l =
    map text_row_of l.made.items ≡ text_rows (map column_of l.columns) (rows_of (take l.row-index l.rows))
