use Rattle.std.proofs.Common.{◌≡◌, map, take}
use Rattle.plan_table.specs.Names.{name_of}
use Rattle.plan_views.specs.Predecessors.{word_of}
use Rattle.plan_views.proofs.predecessors.word_lines.Given as goal

-- the words so far
abbrev pub invariant-loop-word : goal.invariant-loop-word
invariant-loop-word l = map name_of l.lines.items ≡ map word_of (take l.word-index l.words)
