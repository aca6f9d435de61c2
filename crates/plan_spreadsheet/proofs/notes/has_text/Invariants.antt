use Rattle.std.proofs.Common.{◌≡◌, map, drop}
use Rattle.plan_table.specs.Csv.{row_of}
use Rattle.plan_spreadsheet.specs.Notes.{has_text}
use Rattle.plan_spreadsheet.proofs.notes.has_text.Given as goal

-- the text is in one of the rows that are left
abbrev pub invariant-loop-row : goal.invariant-loop-row
invariant-loop-row l = has_text (map row_of (drop l.row-index l.rows)) l.k ≡ has_text (map row_of l.rows) l.k
