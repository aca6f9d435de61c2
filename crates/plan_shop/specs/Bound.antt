-- Lower bounds of partial schedules (docs/definitions.md, "Job shops"; one-machine bounds as in
-- Lageweg, Lenstra and Rinnooy Kan 1977).
use Rattle.std.specs.Prelude.{ℕ, zero, suc, ◌+◌, ◌-◌, max, cond, ◌&&◌, not, List, [], ◌∷◌, nat_lt, nat_eq}
use Rattle.std.specs.List.{sum_by}
use Rattle.plan_sgs.specs.Problem.{greatest_below}
use Rattle.plan_shop.specs.Shop.{JobShop, count_steps, time_of, machine_of, job_of, place_of, times_from, those_below}
use Rattle.plan_shop.specs.Words.{least_of, Placed, steps_done, job_end, machine_free, is_placed, has_next, next_step, raised, ready}

-- the head of the step k after the next one of a job
abbrev pub head_at : JobShop → List Placed → ℕ → ℕ → ℕ
head_at s xs j zero = ready s xs j
head_at s xs j (suc k) =
    raised (time_of s (next_step s xs j + suc k))
    (head_at s xs j k + time_of s (next_step s xs j + k))
    (machine_free s xs (machine_of s (next_step s xs j + suc k)))

-- the head of an unplaced step
abbrev pub head_of : JobShop → List Placed → ℕ → ℕ
head_of s xs x = head_at s xs (job_of s x) (place_of s x - steps_done xs (job_of s x))

-- the total time of the steps after a step in its job
abbrev pub tail_of : JobShop → ℕ → ℕ
tail_of s x = times_from s (suc x) (s.machines - suc (place_of s x))

-- the unplaced steps of positive time on a machine
abbrev pub pending : JobShop → List Placed → ℕ → List ℕ
pending s xs m =
    those_below (count_steps s) (λ x. not (is_placed s xs x)
    && (nat_eq (machine_of s x) m && nat_lt 0 (time_of s x)))

-- 0 if no step is pending, else the sum of the least head, all times and the least tail
abbrev pub bound_of_pending : JobShop → List Placed → List ℕ → ℕ
bound_of_pending s xs [] = 0
bound_of_pending s xs (x ∷ zs) =
    least_of (head_of s xs) x zs + sum_by (time_of s) (x ∷ zs) + least_of (tail_of s) x zs

abbrev pub job_bound : JobShop → List Placed → ℕ → ℕ
job_bound s xs j =
    cond (has_next s xs j)
    (ready s xs j + times_from s (next_step s xs j) (s.machines - steps_done xs j))
    (job_end s xs j)

-- the bound of the placed steps
unfoldable pub bound_of : JobShop → List Placed → ℕ
bound_of s xs =
    max (greatest_below s.jobs (job_bound s xs)) (greatest_below s.machines (λ m.
    bound_of_pending s xs (pending s xs m)))
