-- Job shops by flat step numbers, and a shop as a scheduling problem (docs/definitions.md,
-- "Job shops"). Step x belongs to job x / machines, both numbered from 0.
use Rattle.std.specs.Prelude.{◌≡◌, ℕ, zero, suc, ◌+◌, ◌-◌, ◌*◌, ◌/◌, ◌%◌, ◌<◌, Bool, cond, List, [], ◌∷◌, ◌++◌, length, get_or, map, replicate, nat_eq, All}
use Rattle.plan_orlib.specs.declared.steps.Step.{Step}
use Rattle.plan_sgs.specs.Problem.{Problem, Link}

-- a job shop: each job has one step for each machine, and the steps are listed one job after the
-- other
pub record JobShop : Type 0 where
  pub machines : ℕ
  pub jobs : ℕ
  pub steps : List Step

-- a shop has a machine, each job has one step for each machine, and each step is on one of them
pub record IsShop (s : JobShop) : Type 0 where
  pub some_machine : 0 < s.machines
  pub all_steps : length s.steps ≡ s.jobs * s.machines
  pub on_machines : All (λ w. w.machine < s.machines) s.steps

abbrev pub count_steps : JobShop → ℕ
count_steps s = length s.steps

abbrev pub idle : Step
idle = record { machine = 0; time = 0 }

abbrev pub time_of : JobShop → ℕ → ℕ
time_of s x = (get_or s.steps x idle).time

abbrev pub machine_of : JobShop → ℕ → ℕ
machine_of s x = (get_or s.steps x idle).machine

-- the job of a flat number, and the index in the job, both from 0
abbrev pub job_of : JobShop → ℕ → ℕ
job_of s x = x / s.machines

abbrev pub place_of : JobShop → ℕ → ℕ
place_of s x = x % s.machines

-- the total time of n steps from x on
abbrev pub times_from : JobShop → ℕ → ℕ → ℕ
times_from s x zero = 0
times_from s x (suc n) = time_of s x + times_from s (suc x) n

-- the numbers below n that pass f, in rising order
abbrev pub those_below : ℕ → (ℕ → Bool) → List ℕ
those_below zero f = []
those_below (suc n) f = those_below n f ++ cond (f n) (n ∷ []) []

-- the values of f for the numbers below n
abbrev pub table : ℕ → (ℕ → ℕ) → List ℕ
table zero f = []
table (suc n) f = table n f ++ f n ∷ []

-- the needs of a step: 1 of its machine, 0 of the others
abbrev pub machine_needs : ℕ → ℕ → List ℕ
machine_needs n m = replicate m 0 ++ 1 ∷ replicate (n - suc m) 0

abbrev pub step_link : ℕ → Link
step_link x = record { from = x; to = suc x; lag = 0 }

-- a shop as a problem: steps by flat number, jobs as chains, machines of capacity 1
unfoldable pub problem_of : JobShop → Problem
problem_of s = record {
  durations = map (λ w. w.time) s.steps;
  links = map step_link (those_below (count_steps s) (λ x. nat_eq (job_of s (suc x)) (job_of s x)));
  needs = map (λ w. machine_needs s.machines w.machine) s.steps;
  capacities = replicate s.machines 1;
}
