use Rattle.std.proofs.Common.{◌≡◌, ◌+◌, map, drop}
use Rattle.plan_table.specs.Predecessors.{label_of, number_from}
use Rattle.plan_table.proofs.predecessors.number_of.Given as goal

-- the activity is among those that are left
abbrev pub invariant-loop-k : goal.invariant-loop-k
invariant-loop-k l = number_from (l.k + 2) (map label_of (drop l.k l.labels)) l.word ≡ number_from 2 (map label_of l.labels) l.word
