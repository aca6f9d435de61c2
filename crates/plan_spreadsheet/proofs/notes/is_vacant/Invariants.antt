use Rattle.std.proofs.Common.{◌≡◌, map, drop}
use Rattle.plan_table.specs.Csv.{row_of}
use Rattle.plan_spreadsheet.specs.Notes.{is_vacant}
use Rattle.plan_spreadsheet.proofs.notes.is_vacant.Given as goal

-- an entry is in one of the rows that are left, if there is one
abbrev pub invariant-loop-row : goal.invariant-loop-row
invariant-loop-row l = is_vacant (map row_of (drop l.row-index l.rows)) l.k ≡ is_vacant (map row_of l.rows) l.k
