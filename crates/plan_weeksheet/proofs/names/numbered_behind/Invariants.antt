use Rattle.std.proofs.Common.{◌≡◌, ◌+◌, ◌++◌, map, drop}
use Rattle.plan_table.specs.Names.{name_of}
use Rattle.plan_weeksheet.specs.Names.{numbered_from}
use Rattle.plan_weeksheet.proofs.names.numbered_behind.Given as goal

-- the texts that are left, behind those so far, are all of them
abbrev pub invariant-loop-k : goal.invariant-loop-k
invariant-loop-k l =
    map name_of l.lines.items ++ numbered_from (l.k + 2) (map (λ text. text.now) (drop l.k l.texts))
    ≡ map name_of l.fn.lines.items ++ numbered_from 2 (map (λ text. text.now) l.texts)
