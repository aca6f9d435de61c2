use Rattle.std.proofs.Common.{◌≡◌, map, take}
use Rattle.plan_table.specs.Names.{name_of}
use Rattle.plan_formats.specs.IdTables.{ids_of}
use Rattle.plan_formats.proofs.id_table.ids_of.Given as goal

-- the ids of the numbers so far
abbrev pub invariant-loop-n : goal.invariant-loop-n
invariant-loop-n l = map (λ word. word.items) l.words.items ≡ ids_of (map name_of l.ids) (take l.n-index l.numbers)
