-- Words of a project: lists of activities, each placed in its turn by serial generation
-- (docs/definitions.md, "Words of a project"; the precedence tree of Patterson, Słowiński, Talbot
-- and Węglarz 1989, Sprecher 2000). Letters are activity numbers from 1 on.
use Rattle.std.specs.Prelude.{ℕ, suc, ◌+◌, ◌*◌, ◌/◌, ◌%◌, max, min, Bool, cond, List, [], ◌∷◌, ◌++◌, length, get_or, map, nat_lt, Option, None, Contains}
use Rattle.plan_sgs.specs.Problem.{Problem, count, duration, need, capacity, total, greatest_below, all_below, makespan}
use Rattle.plan_sgs.specs.Serial.{end_from, unplaced, serial_from, serial}
use Rattle.plan_sgs.specs.Rules.{places, is_member, eligible}
use Rattle.plan_sgs.specs.Instances.{Planned, problem_of}
use Rattle.plan_sgs.specs.PathTails.{tail_of, longest_of}

-- the number of activities, which is the greatest length of a word
abbrev pub depth_of : Planned → ℕ
depth_of i = count (problem_of i)

-- the starts of the letters of a word, each placed in turn at its earliest start
abbrev pub placed_by : Planned → List ℕ → List (Option ℕ)
placed_by i w = serial_from (problem_of i) (unplaced (depth_of i)) (places w)

-- the letters that may follow a word, in rising order: the activities that aren't in it but whose
-- predecessors all are
unfoldable pub letters_after : Planned → List ℕ → List ℕ
letters_after i w = map suc (eligible (problem_of i) (places w) (depth_of i))

-- each letter of w may follow the letters before it, after u
abbrev pub Follows : Planned → List ℕ → List ℕ → Type 0
Follows i u [] = Unit {0}
Follows i u (a ∷ w) = Contains (letters_after i u) a × Follows i (u ++ a ∷ []) w

-- a list of letters, each of which may follow those before it
abbrev pub IsWord : Planned → List ℕ → Type 0
IsWord i w = Follows i [] w

-- all activities are placed
unfoldable pub is_full : Planned → List ℕ → Bool
is_full i w = all_below (depth_of i) (λ j. is_member j (places w))

-- the starts of a full word
abbrev pub starts_by : Planned → List ℕ → List ℕ
starts_by i w = serial (problem_of i) (places w)

-- the makespan of a full word
unfoldable pub makespan_by : Planned → List ℕ → ℕ
makespan_by i w = makespan (problem_of i) (starts_by i w)

-- the work on a resource: the sum of duration times need of all activities
abbrev pub work_of : Problem → ℕ → ℕ
work_of p k = total (count p) (λ i. duration p i * need p i k)

-- a quotient, rounded up
abbrev pub rounded_up : ℕ → ℕ → ℕ
rounded_up a b = a / b + min (a % b) 1

-- the least busy time of a resource, 0 if its capacity is 0
abbrev pub busy_of : Problem → ℕ → ℕ
busy_of p k = cond (nat_lt 0 (capacity p k)) (rounded_up (work_of p k) (capacity p k)) 0

-- the part of the bound that is the same for all words: the longest path and the busy times of the
-- resources
unfoldable pub least_of_all : Planned → ℕ
least_of_all i =
    max (longest_of i.project.network) (greatest_below (length i.capacities) (busy_of (problem_of i)))

-- the sum of start and tail of an activity by its index, 0 if it isn't placed
abbrev pub reach_of : Planned → List (Option ℕ) → ℕ → ℕ
reach_of i placed j = end_from (tail_of i.project.network (suc j)) (get_or placed j None)

-- the bound of a word
unfoldable pub bound_of : Planned → List ℕ → ℕ
bound_of i w = max (least_of_all i) (greatest_below (depth_of i) (reach_of i (placed_by i w)))
