use Rattle.std.proofs.Common.{◌≡◌, map, take}
use Rattle.plan_table.specs.Table.{activity_of}
use Rattle.plan_table.specs.Refused.{spaced_ids}
use Rattle.plan_table.proofs.reading.spaced_ids.Given as goal

-- the ids so far
abbrev pub invariant-loop-j : goal.invariant-loop-j
invariant-loop-j l = l.word.items ≡ spaced_ids (map activity_of l.activities) (take l.j-index l.numbers)
