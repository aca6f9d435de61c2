use Rattle.std.proofs.Common.{◌≡◌, map, take}
use Rattle.plan_table.specs.Names.{name_of}
use Rattle.plan_views.specs.Predecessors.{word_of}
use Rattle.plan_views.proofs.predecessors.id_words.Given as goal

-- the ids so far
abbrev pub invariant-loop-id : goal.invariant-loop-id
invariant-loop-id l = map word_of l.words.items ≡ map name_of (take l.id-index l.ids)
