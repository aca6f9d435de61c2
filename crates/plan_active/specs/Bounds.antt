-- Lower bounds of all makespans (docs/definitions.md, "Proofs of optima").
use Rattle.std.specs.Prelude.{ℕ, ◌≤◌, List}
use Rattle.plan_sgs.specs.Problem.{Problem, IsFeasible, makespan}

-- no feasible list of starts has a makespan below a number
abbrev pub IsLowerBound : Problem → ℕ → Type 0
IsLowerBound p lower = (starts : List ℕ) → IsFeasible p starts → lower ≤ makespan p starts
