-- Rows of small shops, worked out by hand: letters, starts, makespans and bounds.
use Rattle.std.proofs.Common.{ℕ, ◌≡◌, List, [], ◌∷◌, refl}
use Rattle.plan_orlib.specs.declared.steps.Step.{Step}
use Rattle.plan_shop.specs.Shop.{JobShop, problem_of}
use Rattle.plan_shop.specs.Words.{ready, jobs_after, letters_after, starts_of, makespan_of, start_in}
use Rattle.plan_shop.specs.Bound.{bound_of}
use Rattle.plan_shop.specs.Rules.{spt, mwkr, fcfs, giffler}
use Rattle.plan_shop.specs.Laws.{placed_in}

abbrev on : ℕ → ℕ → Step
on machine time = record { machine = machine; time = time }

abbrev two : List Step → JobShop
two steps = record { machines = 2; jobs = 2; steps = steps }

-- `0 3 1 2` / `0 2 1 4`
abbrev first : JobShop
first = two (on 0 3 ∷ on 1 2 ∷ on 0 2 ∷ on 1 4 ∷ [])

-- `0 4 1 1` / `0 1 1 3`
abbrev second : JobShop
second = two (on 0 4 ∷ on 1 1 ∷ on 0 1 ∷ on 1 3 ∷ [])

-- `0 4 1 2` / `1 1 0 0`
abbrev third : JobShop
third = two (on 0 4 ∷ on 1 2 ∷ on 1 1 ∷ on 0 0 ∷ [])

-- `0 2 1 1` / `1 2 0 1`
abbrev tie : JobShop
tie = two (on 0 2 ∷ on 1 1 ∷ on 1 2 ∷ on 0 1 ∷ [])

-- `0 1 1 1` / `0 9 1 1` / `1 2 0 0`
abbrev waits : JobShop
waits = record { machines = 2; jobs = 3; steps = on 0 1 ∷ on 1 1 ∷ on 0 9 ∷ on 1 1 ∷ on 1 2 ∷ on 0 0 ∷ [] }

first_bound : bound_of first [] ≡ 8
unfolding bound_of ready
first_bound = refl

first_spt : starts_of first (placed_in first (giffler first (spt first))) ≡ 2 ∷ 5 ∷ 0 ∷ 7 ∷ []
unfolding giffler jobs_after ready
first_spt = refl

first_spt_makespan : makespan_of first (placed_in first (giffler first (spt first))) ≡ 11
unfolding giffler jobs_after ready makespan_of problem_of
first_spt_makespan = refl

first_mwkr : makespan_of first (placed_in first (giffler first (mwkr first))) ≡ 8
unfolding giffler jobs_after ready makespan_of problem_of
first_mwkr = refl

first_fcfs : makespan_of first (placed_in first (giffler first (fcfs first))) ≡ 9
unfolding giffler jobs_after ready makespan_of problem_of
first_fcfs = refl

second_mwkr : starts_of second (placed_in second (giffler second (mwkr second))) ≡ 0 ∷ 4 ∷ 4 ∷ 5 ∷ []
unfolding giffler jobs_after ready
second_mwkr = refl

second_mwkr_makespan : makespan_of second (placed_in second (giffler second (mwkr second))) ≡ 8
unfolding giffler jobs_after ready makespan_of problem_of
second_mwkr_makespan = refl

second_word : starts_of second (placed_in second (2 ∷ 2 ∷ 1 ∷ 1 ∷ [])) ≡ 1 ∷ 5 ∷ 0 ∷ 1 ∷ []
unfolding ready
second_word = refl

second_makespan : makespan_of second (placed_in second (2 ∷ 2 ∷ 1 ∷ 1 ∷ [])) ≡ 6
unfolding ready makespan_of problem_of
second_makespan = refl

third_letters : letters_after third [] ≡ 2 ∷ []
unfolding jobs_after ready
third_letters = refl

third_letters_2 : letters_after third (placed_in third (2 ∷ [])) ≡ 2 ∷ []
unfolding jobs_after ready
third_letters_2 = refl

third_letters_22 : letters_after third (placed_in third (2 ∷ 2 ∷ [])) ≡ 1 ∷ []
unfolding jobs_after ready
third_letters_22 = refl

third_letters_221 : letters_after third (placed_in third (2 ∷ 2 ∷ 1 ∷ [])) ≡ 1 ∷ []
unfolding jobs_after ready
third_letters_221 = refl

third_spt : giffler third (spt third) ≡ 2 ∷ 2 ∷ 1 ∷ 1 ∷ []
unfolding giffler jobs_after ready
third_spt = refl

third_mwkr : giffler third (mwkr third) ≡ 2 ∷ 2 ∷ 1 ∷ 1 ∷ []
unfolding giffler jobs_after ready
third_mwkr = refl

third_fcfs : giffler third (fcfs third) ≡ 2 ∷ 2 ∷ 1 ∷ 1 ∷ []
unfolding giffler jobs_after ready
third_fcfs = refl

third_starts : starts_of third (placed_in third (2 ∷ 2 ∷ 1 ∷ 1 ∷ [])) ≡ 0 ∷ 4 ∷ 0 ∷ 1 ∷ []
unfolding ready
third_starts = refl

third_makespan : makespan_of third (placed_in third (2 ∷ 2 ∷ 1 ∷ 1 ∷ [])) ≡ 6
unfolding ready makespan_of problem_of
third_makespan = refl

-- a next step that starts at the least end doesn't compete
tie_letters : letters_after tie (placed_in tie (1 ∷ [])) ≡ 2 ∷ []
unfolding jobs_after ready
tie_letters = refl

waits_letters : letters_after waits [] ≡ 1 ∷ 2 ∷ []
unfolding jobs_after ready
waits_letters = refl

waits_letters_23 : letters_after waits (placed_in waits (2 ∷ 3 ∷ [])) ≡ 3 ∷ []
unfolding jobs_after ready
waits_letters_23 = refl

-- a step of time 0 doesn't wait for its machine
waits_start : start_in (placed_in waits (2 ∷ 3 ∷ 3 ∷ [])) 5 ≡ 2
unfolding ready
waits_start = refl
