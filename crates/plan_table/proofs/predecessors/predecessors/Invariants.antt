use Rattle.std.proofs.Common.{◌≡◌, map, length}
use Rattle.plan_table.specs.Predecessors.{label_of, predecessors_at, predecessors}
use Rattle.plan_table.proofs.predecessors.predecessors.Given as goal

-- what is left, behind the numbers so far, gives all numbers
abbrev pub invariant-loop-word : goal.invariant-loop-word
invariant-loop-word l = predecessors_at (map label_of l.labels) l.line l.numbers.items l.words ≡ predecessors (map label_of l.labels) l.line l.cell

abbrev pub decreases-loop-word : goal.decreases-loop-word
decreases-loop-word l = length l.words
