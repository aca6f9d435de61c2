use Rattle.std.proofs.Common.{◌≡◌, map, drop}
use Rattle.std.specs.List.{list_all}
use Rattle.plan_table.specs.Names.{name_of}
use Rattle.plan_documents.specs.Waits.{is_row_id}
use Rattle.plan_documents.proofs.waits.are_rows.Given as goal

-- the ids that are left decide
abbrev pub invariant-loop-id : goal.invariant-loop-id
invariant-loop-id l = list_all is_row_id (map name_of (drop l.id-index l.ids)) ≡ list_all is_row_id (map name_of l.ids)
