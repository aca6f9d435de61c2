-- Partial schedules, the letters that may follow, and words (docs/definitions.md, "Job shops";
-- Giffler and Thompson, Algorithms for solving production-scheduling problems, Operations Research
-- 8, 1960). Letters are job numbers from 1 on.
use Rattle.std.specs.Prelude.{ℕ, zero, suc, ◌+◌, ◌*◌, max, min, Bool, cond, ◌&&◌, not, List, [], ◌∷◌, map, nat_lt, nat_eq, Contains}
use Rattle.std.specs.List.{fold}
use Rattle.plan_sgs.specs.Problem.{all_below, makespan}
use Rattle.plan_shop.specs.Shop.{JobShop, count_steps, time_of, machine_of, job_of, place_of, those_below, table, problem_of}

-- the least value of f on a list that begins with x
abbrev pub least_of : (ℕ → ℕ) → ℕ → List ℕ → ℕ
least_of f x [] = f x
least_of f x (y ∷ ys) = min (f x) (least_of f y ys)

-- the first entry of least key in a list that begins with x
abbrev pub first_least : (ℕ → ℕ) → ℕ → List ℕ → ℕ
first_least key x ys = fold (λ b i. cond (nat_lt (key i) (key b)) i b) x ys

-- a placed step, by job and flat number
pub record Placed : Type 0 where
  pub job : ℕ
  pub step : ℕ
  pub start : ℕ

-- the number of placed steps of a job
abbrev pub steps_done : List Placed → ℕ → ℕ
steps_done [] j = 0
steps_done (p ∷ xs) j = cond (nat_eq p.job j) (suc (steps_done xs j)) (steps_done xs j)

-- the end of the last placed step of a job. The newest step is first in the list.
abbrev pub job_end : JobShop → List Placed → ℕ → ℕ
job_end s [] j = 0
job_end s (p ∷ xs) j = cond (nat_eq p.job j) (p.start + time_of s p.step) (job_end s xs j)

-- the greatest end of the placed steps of positive time on a machine
abbrev pub machine_free : JobShop → List Placed → ℕ → ℕ
machine_free s [] m = 0
machine_free s (p ∷ xs) m =
    cond (nat_eq (machine_of s p.step) m && nat_lt 0 (time_of s p.step))
    (max (p.start + time_of s p.step) (machine_free s xs m))
    (machine_free s xs m)

abbrev pub is_placed : JobShop → List Placed → ℕ → Bool
is_placed s xs x = nat_lt (place_of s x) (steps_done xs (job_of s x))

abbrev pub has_next : JobShop → List Placed → ℕ → Bool
has_next s xs j = nat_lt (steps_done xs j) s.machines

-- the flat number of the next step of a job
abbrev pub next_step : JobShop → List Placed → ℕ → ℕ
next_step s xs j = j * s.machines + steps_done xs j

-- the first instant from h on at which the machine is free, or h itself for a step of time 0
abbrev pub raised : ℕ → ℕ → ℕ → ℕ
raised time h f = cond (nat_eq time 0) h (max h f)

-- the head of the next step of a job
unfoldable pub ready : JobShop → List Placed → ℕ → ℕ
ready s xs j =
    raised (time_of s (next_step s xs j)) (job_end s xs j)
    (machine_free s xs (machine_of s (next_step s xs j)))

-- the end of the next step of a job if it is placed now
abbrev pub next_end : JobShop → List Placed → ℕ → ℕ
next_end s xs j = ready s xs j + time_of s (next_step s xs j)

abbrev pub place : JobShop → List Placed → ℕ → List Placed
place s xs j = record { job = j; step = next_step s xs j; start = ready s xs j } ∷ xs

-- the letter of a job: its number from 1
abbrev pub letter_of : ℕ → ℕ
letter_of j = suc j

abbrev pub job_of_letter : ℕ → ℕ
job_of_letter zero = 0
job_of_letter (suc j) = j

-- the placed steps after the letters of a word, the newest first
abbrev pub placed_by : JobShop → List Placed → List ℕ → List Placed
placed_by s xs [] = xs
placed_by s xs (a ∷ w) = placed_by s (place s xs (job_of_letter a)) w

abbrev pub with_next : JobShop → List Placed → List ℕ
with_next s xs = those_below s.jobs (has_next s xs)

abbrev pub with_zero : JobShop → List Placed → List ℕ
with_zero s xs =
    those_below s.jobs (λ j. has_next s xs j && nat_eq (time_of s (next_step s xs j)) 0)

-- the jobs whose next step is on the machine of the next step of job b and starts before its end
abbrev pub rivals : JobShop → List Placed → ℕ → List ℕ
rivals s xs b =
    those_below s.jobs (λ j. has_next s xs j
    && (nat_eq (machine_of s (next_step s xs j)) (machine_of s (next_step s xs b))
    && nat_lt (ready s xs j) (next_end s xs b)))

abbrev pub rivals_of_first : JobShop → List Placed → List ℕ → List ℕ
rivals_of_first s xs [] = []
rivals_of_first s xs (j ∷ js) = rivals s xs (first_least (next_end s xs) j js)

abbrev pub jobs_by : JobShop → List Placed → List ℕ → List ℕ
jobs_by s xs [] = rivals_of_first s xs (with_next s xs)
jobs_by s xs (z ∷ zs) = z ∷ []

-- the jobs that may follow
unfoldable pub jobs_after : JobShop → List Placed → List ℕ
jobs_after s xs = jobs_by s xs (with_zero s xs)

-- the letters that may follow
abbrev pub letters_after : JobShop → List Placed → List ℕ
letters_after s xs = map letter_of (jobs_after s xs)

-- each letter of w may follow the letters before it, after the placed steps
abbrev pub Follows : JobShop → List Placed → List ℕ → Type 0
Follows s xs [] = Unit {0}
Follows s xs (a ∷ w) = Contains (letters_after s xs) a × Follows s (place s xs (job_of_letter a)) w

-- a list of letters, each of which may follow those before it
abbrev pub IsWord : JobShop → List ℕ → Type 0
IsWord s w = Follows s [] w

-- all steps are placed
abbrev pub is_full : JobShop → List Placed → Bool
is_full s xs = all_below s.jobs (λ j. not (has_next s xs j))

-- the start of a step, 0 if it isn't placed
abbrev pub start_in : List Placed → ℕ → ℕ
start_in [] x = 0
start_in (p ∷ xs) x = cond (nat_eq p.step x) p.start (start_in xs x)

-- the starts of all steps in flat order
abbrev pub starts_of : JobShop → List Placed → List ℕ
starts_of s xs = table (count_steps s) (start_in xs)

-- the makespan of the starts of the placed steps
unfoldable pub makespan_of : JobShop → List Placed → ℕ
makespan_of s xs = makespan (problem_of s) (starts_of s xs)
