use Rattle.std.proofs.Common.{ℕ, ◌+◌, ◌<◌}
use Rattle.plan_documents.specs.Capacities.{IsNumberName}
use Rattle.plan_documents.proofs.capacities.numbered_index.Given as goal

-- none of the resources so far has the number
abbrev pub invariant-loop-k : goal.invariant-loop-k
invariant-loop-k l = (k : ℕ) → k < l.k → IsNumberName (k + 1) l.name → ⊥
