-- The progress of a search, and the reports that a watcher gets (docs/definitions.md, "Clauses").
use Rattle.std.specs.Prelude.{◌≡◌, ◌⊎◌, ◌≤◌, ℕ, List}
use Rattle.plan_sgs.specs.Problem.{Problem, IsFeasible, makespan}
use Rattle.plan_solve.specs.Solutions.{IsLowerBound}

-- the best makespan so far, a lower bound of all makespans, and how many conflicts there were
pub record Progress : Type 0 where
  pub best : ℕ
  pub lower : ℕ
  pub conflicts : ℕ

-- a watcher was told one thing more, as far as is known of it
abbrev pub Hears : (Progress → Type 0) → (Progress → Type 0) → Progress → Type 0
Hears before after told = (p : Progress) → after p → before p ⊎ (p ≡ told)

-- nothing more
abbrev pub HearsNothing : (Progress → Type 0) → (Progress → Type 0) → Type 0
HearsNothing before after = (p : Progress) → after p → before p

-- it is true of a problem: some feasible list of starts has the best makespan, no feasible one has
-- a makespan below the lower bound, and there were no more conflicts than are allowed
pub record IsProgressOf (problem : Problem) (allowed : ℕ) (p : Progress) : Type 0 where
  pub best : (starts : List ℕ) × IsFeasible problem starts × (p.best ≡ makespan problem starts)
  pub lower : IsLowerBound problem p.lower
  pub within : p.conflicts ≤ allowed

-- all that a watcher was told more is true of a problem
abbrev pub HearsTruth : Problem → ℕ → (Progress → Type 0) → (Progress → Type 0) → Type 0
HearsTruth problem allowed before after = (p : Progress) → after p → before p ⊎ IsProgressOf problem allowed p
