-- Words of the priority rules (docs/definitions.md, "Job shops"; rules as in Panwalkar and
-- Iskander, A survey of scheduling rules, Operations Research 25, 1977). A rule chooses one of the
-- jobs that may follow the placed steps. Ties go to the least job number.
use Rattle.std.specs.Prelude.{ℕ, zero, suc, ◌-◌, ◌*◌, cond, nat_lt, List, [], ◌∷◌, Contains}
use Rattle.std.specs.List.{fold}
use Rattle.plan_shop.specs.Shop.{JobShop, time_of, times_from}
use Rattle.plan_shop.specs.Words.{first_least, Placed, steps_done, next_step, ready, place, letter_of, jobs_after}

-- the first entry of greatest key in a list that begins with x
abbrev pub first_greatest : (ℕ → ℕ) → ℕ → List ℕ → ℕ
first_greatest key x ys = fold (λ b i. cond (nat_lt (key b) (key i)) i b) x ys

-- the first entry of least key in a list, 0 if it is empty
abbrev pub least_by : (ℕ → ℕ) → List ℕ → ℕ
least_by key [] = 0
least_by key (j ∷ js) = first_least key j js

-- the first entry of greatest key in a list, 0 if it is empty
abbrev pub greatest_by : (ℕ → ℕ) → List ℕ → ℕ
greatest_by key [] = 0
greatest_by key (j ∷ js) = first_greatest key j js

-- the time of the next step of a job
abbrev pub next_time : JobShop → List Placed → ℕ → ℕ
next_time s xs j = time_of s (next_step s xs j)

-- the total time of the unplaced steps of a job
abbrev pub time_left : JobShop → List Placed → ℕ → ℕ
time_left s xs j = times_from s (next_step s xs j) (s.machines - steps_done xs j)

-- shortest processing time: the job whose next step takes the least time
abbrev pub spt : JobShop → List Placed → List ℕ → ℕ
spt s xs js = least_by (next_time s xs) js

-- most work remaining: the job with the greatest total time of unplaced steps
abbrev pub mwkr : JobShop → List Placed → List ℕ → ℕ
mwkr s xs js = greatest_by (time_left s xs) js

-- first come, first served: the job whose next step has the least head
abbrev pub fcfs : JobShop → List Placed → List ℕ → ℕ
fcfs s xs js = least_by (ready s xs) js

-- a rule that chooses one of the given jobs
abbrev pub Chooses : (List Placed → List ℕ → ℕ) → Type 0
Chooses rule = (xs : List Placed) (j : ℕ) (js : List ℕ) → Contains (j ∷ js) (rule xs (j ∷ js))

-- the next n letters, each that of the job that the rule chooses among those that may follow
abbrev pub rule_word : JobShop → (List Placed → List ℕ → ℕ) → ℕ → List Placed → List ℕ
rule_word s rule zero xs = []
rule_word s rule (suc n) xs =
    letter_of (rule xs (jobs_after s xs))
    ∷ rule_word s rule n (place s xs (rule xs (jobs_after s xs)))

-- the word of a rule
unfoldable pub giffler : JobShop → (List Placed → List ℕ → ℕ) → List ℕ
giffler s rule = rule_word s rule (s.jobs * s.machines) []
