use Rattle.std.proofs.Common.{◌≡◌, map, take}
use Rattle.std.specs.Str.Lossy.{utf8_lossy}
use Rattle.std.specs.String.{string_bytes}
use Rattle.plan_table.specs.Csv.{row_of}
use Rattle.plan_spreadsheet.specs.Notes.{headers}
use Rattle.plan_spreadsheet.proofs.notes.headers.Given as goal

-- the headers so far
abbrev pub invariant-loop-place : goal.invariant-loop-place
invariant-loop-place l = map string_bytes l.headers.items ≡ map utf8_lossy (headers (row_of l.first) (take l.place-index l.places))
