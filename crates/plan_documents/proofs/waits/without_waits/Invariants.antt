use Rattle.std.proofs.Common.{◌≡◌, map, take}
use Rattle.plan_table.specs.Names.{name_of}
use Rattle.plan_documents.specs.Waits.{without_waits}
use Rattle.plan_documents.proofs.waits.without_waits.Given as goal

-- the ids so far without those of waits
abbrev pub invariant-loop-id : goal.invariant-loop-id
invariant-loop-id l = map name_of l.shown.items ≡ without_waits l.project (map name_of l.names) l.behind (map name_of (take l.id-index l.ids))
