use Rattle.std.proofs.Common.{◌≡◌, map, drop}
use Rattle.std.specs.List.{find}
use Rattle.plan_table.specs.Csv.{row_of}
use Rattle.plan_weekback.specs.Columns.{is_of, text_if}
use Rattle.plan_weekback.specs.Entries.{entry_of}
use Rattle.plan_weekback.proofs.entries.text_for.Given as goal

-- the activity is among those that are left
abbrev pub invariant-loop-texts : goal.invariant-loop-texts
invariant-loop-texts l =
    text_if l.field (find (is_of (row_of l.row)) (map entry_of (drop l.texts-index l.entries)))
    ≡ text_if l.field (find (is_of (row_of l.row)) (map entry_of l.entries))
