use Rattle.std.proofs.Common.{◌≡◌, map, take}
use Rattle.plan_table.specs.Names.{name_of}
use Rattle.plan_documents.specs.Waits.{row_ids}
use Rattle.plan_documents.proofs.waits.row_ids.Given as goal

-- the ids of rows so far
abbrev pub invariant-loop-id : goal.invariant-loop-id
invariant-loop-id l = map name_of l.rows.items ≡ row_ids (map name_of (take l.id-index l.ids))
