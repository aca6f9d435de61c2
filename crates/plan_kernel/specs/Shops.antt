-- The numbers of a job shop (docs/DEFINITIONS.md, "Clauses").
use Rattle.std.specs.Prelude.{ℕ, suc, Bool, List, nat_eq}
use Rattle.plan_orlib.specs.declared.steps.Step.{Step}
use Rattle.plan_shop.specs.Shop.{JobShop, count_steps, job_of, those_below, machine_needs}

-- the next step is of the same job
abbrev pub is_followed : JobShop → ℕ → Bool
is_followed s x = nat_eq (job_of s (suc x)) (job_of s x)

-- the steps that another one of their job follows
abbrev pub next_steps : JobShop → List ℕ
next_steps s = those_below (count_steps s) (is_followed s)

-- what a step needs of each machine
abbrev pub needs_of_step : JobShop → Step → List ℕ
needs_of_step s w = machine_needs s.machines w.machine
