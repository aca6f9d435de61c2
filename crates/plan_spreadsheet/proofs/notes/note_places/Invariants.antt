use Rattle.std.proofs.Common.{◌≡◌, [], map, drop}
use Rattle.plan_table.specs.Header.{head_of}
use Rattle.plan_table.specs.Settlement.{body_of}
use Rattle.plan_spreadsheet.specs.Notes.{notes_from}
use Rattle.plan_spreadsheet.proofs.notes.note_places.Given as goal

-- the notes that are left, behind those so far, are all notes
abbrev pub invariant-loop-k : goal.invariant-loop-k
invariant-loop-k l =
    notes_from (body_of l.body) l.places.items l.k (map head_of (drop l.k l.heads))
    ≡ notes_from (body_of l.body) [] 0 (map head_of l.heads)
