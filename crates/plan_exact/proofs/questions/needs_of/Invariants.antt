use Rattle.std.proofs.Common.{◌≡◌, map, take}
use Rattle.plan_exact.proofs.questions.needs_of.Given as goal

-- the rows read so far
abbrev pub invariant-loop-k : goal.invariant-loop-k
invariant-loop-k l = map (λ row. row.items) l.needs.items ≡ take l.k l.instance.project.needs
