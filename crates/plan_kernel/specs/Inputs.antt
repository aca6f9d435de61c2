-- Scheduling problems as plain numbers (docs/definitions.md, "Schedules").
use Rattle.std.specs.Prelude.{ℕ, ◌+◌, ◌≤◌, List, Some, get_or, map}
use Rattle.plan_sgs.specs.Problem.{Problem, Link, duration, amount_of}
use Rattle.plan_kernel.specs.declared.input.Arc.{Arc}
use Rattle.plan_kernel.specs.declared.input.Input.{Input}

-- the link of an arc
abbrev pub link_of : Arc → Link
link_of arc = record { from = arc.from; to = arc.to; lag = arc.lag }

-- the problem that the numbers describe
unfoldable pub problem_of : Input → Problem
problem_of input = record {
  durations = input.durations.items;
  links = map link_of input.arcs.items;
  needs = map (λ row. row.items) input.needs.items;
  capacities = input.capacities.items;
}

-- the end of an activity
abbrev pub end_of : Problem → List ℕ → ℕ → ℕ
end_of p starts i = get_or starts i 0 + duration p i

-- what an activity needs of a resource at an instant
abbrev pub amount_at : Problem → List ℕ → ℕ → ℕ → ℕ → ℕ
amount_at p starts t k i = amount_of p t k i (Some (get_or starts i 0))

-- an arc is kept
abbrev pub KeepsArc : Problem → List ℕ → Arc → Type 0
KeepsArc p starts arc = end_of p starts arc.from + arc.lag ≤ get_or starts arc.to 0
