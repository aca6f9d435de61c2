-- Laws of words: full words are feasible and active, the bound is a lower bound, and for each
-- feasible schedule some letter leads to a schedule that is no later (docs/definitions.md,
-- "Job shops").
use Rattle.std.specs.Prelude.{◌≡◌, ℕ, suc, ◌+◌, ◌*◌, ◌≤◌, ◌<◌, true, false, cond, List, [], ◌∷◌, ◌++◌, length, get_or, nat_eq, Contains, ◌↔◌, ◌⊎◌}
use Rattle.std.specs.List.{AllPairs}
use Rattle.plan_sgs.specs.Problem.{need, all_placed, KeepsArcs, KeepsCapacities, IsFeasible, IsActive, IsShortest, makespan}
use Rattle.plan_shop.specs.Shop.{JobShop, count_steps, time_of, machine_of, job_of, problem_of}
use Rattle.plan_shop.specs.Words.{Placed, steps_done, next_step, ready, next_end, letter_of, placed_by, letters_after, IsWord, is_full, starts_of, makespan_of}
use Rattle.plan_shop.specs.Bound.{bound_of}
use Rattle.plan_shop.specs.Rules.{next_time, time_left, spt, mwkr, fcfs, Chooses, giffler}
use Rattle.plan_shop.specs.Continuation.{Continues}

-- the placed steps of a word
abbrev pub placed_in : JobShop → List ℕ → List Placed
placed_in s w = placed_by s [] w

-- each step starts at the end of its predecessor in the job or later
abbrev pub IsChained : JobShop → List ℕ → Type 0
IsChained s starts =
    (x : ℕ) → suc x < count_steps s → job_of s (suc x) ≡ job_of s x
    → get_or starts x 0 + time_of s x ≤ get_or starts (suc x) 0

-- no two steps of positive time overlap on a machine
abbrev pub IsApart : JobShop → List ℕ → Type 0
IsApart s starts =
    (x y : ℕ) → x < y → y < count_steps s → machine_of s x ≡ machine_of s y → 0 < time_of s x
    → 0 < time_of s y → (get_or starts x 0 + time_of s x ≤ get_or starts y 0)
    ⊎ (get_or starts y 0 + time_of s y ≤ get_or starts x 0)

-- the arcs of the problem lead from each step to its successor in the job
unfoldable pub ArcsAreNeighbours : JobShop → Type 0
ArcsAreNeighbours s = (starts : List ℕ) → KeepsArcs (problem_of s) starts ↔ IsChained s starts

-- a step needs 1 of its machine and 0 of the others
unfoldable pub NeedsAreMachines : JobShop → Type 0
NeedsAreMachines s =
    (x k : ℕ) → x < count_steps s → need (problem_of s) x k ≡ cond (nat_eq (machine_of s x) k) 1 0

-- the capacities are kept exactly if no two steps overlap
unfoldable pub CapacitiesKeepApart : JobShop → Type 0
CapacitiesKeepApart s =
    (starts : List ℕ) → length starts ≡ count_steps s
    → KeepsCapacities (problem_of s) (all_placed starts) ↔ IsApart s starts

-- a feasible list that continues a word
pub record IsContinued (s : JobShop) (w starts : List ℕ) : Type 0 where
  pub feasible : IsFeasible (problem_of s) starts
  pub continues : Continues s (λ x. get_or starts x 0) (placed_in s w)

-- every full word is feasible
unfoldable pub FullIsFeasible : JobShop → Type 0
FullIsFeasible s =
    (w : List ℕ) → IsWord s w → is_full s (placed_in s w) ≡ true
    → IsFeasible (problem_of s) (starts_of s (placed_in s w))

-- every full word is active
unfoldable pub FullIsActive : JobShop → Type 0
FullIsActive s =
    (w : List ℕ) → IsWord s w → is_full s (placed_in s w) ≡ true
    → IsActive (problem_of s) (starts_of s (placed_in s w))

-- the bound of a word is at most the makespan of every feasible list that continues it
unfoldable pub BoundIsLeast : JobShop → Type 0
BoundIsLeast s =
    (w starts : List ℕ) → IsWord s w → IsContinued s w starts
    → bound_of s (placed_in s w) ≤ makespan (problem_of s) starts

-- a letter, and a feasible list that continues the word with it and in which no step starts later
pub record Letter (s : JobShop) (w starts : List ℕ) : Type 0 where
  pub letter : ℕ
  pub other : List ℕ
  pub follows : Contains (letters_after s (placed_in s w)) letter
  pub continued : IsContinued s (w ++ letter ∷ []) other
  pub no_later : (x : ℕ) → get_or other x 0 ≤ get_or starts x 0

-- if a feasible list continues a word that isn't full, there is such a letter
unfoldable pub LetterIsThere : JobShop → Type 0
LetterIsThere s =
    (w starts : List ℕ) → IsWord s w → is_full s (placed_in s w) ≡ false → IsContinued s w starts
    → Letter s w starts

-- the word of a rule is a full word
unfoldable pub RuleIsFull : JobShop → Type 0
RuleIsFull s =
    (rule : List Placed → List ℕ → ℕ) → Chooses rule → IsWord s (giffler s rule)
    × (is_full s (placed_in s (giffler s rule)) ≡ true)

-- the schedule of a rule's word is active
unfoldable pub RuleIsActive : JobShop → Type 0
RuleIsActive s =
    (rule : List Placed → List ℕ → ℕ) → Chooses rule
    → IsActive (problem_of s) (starts_of s (placed_in s (giffler s rule)))

-- the first entry of least key of a list: no other key is less, and each earlier key is greater
pub record IsFirstLeast (key : ℕ → ℕ) (js : List ℕ) (j : ℕ) : Type 0 where
  pub place : ℕ
  pub inside : place < length js
  pub there : get_or js place 0 ≡ j
  pub least : (i : ℕ) → i < length js → key j ≤ key (get_or js i 0)
  pub first : (i : ℕ) → i < place → key j < key (get_or js i 0)

-- the first entry of greatest key of a list
pub record IsFirstGreatest (key : ℕ → ℕ) (js : List ℕ) (j : ℕ) : Type 0 where
  pub place : ℕ
  pub inside : place < length js
  pub there : get_or js place 0 ≡ j
  pub greatest : (i : ℕ) → i < length js → key (get_or js i 0) ≤ key j
  pub first : (i : ℕ) → i < place → key (get_or js i 0) < key j

-- each rule chooses the first job of its key, for all placed steps and lists of jobs
unfoldable pub RulesChoose : JobShop → Type 0
RulesChoose s = (xs : List Placed) (j : ℕ) (js : List ℕ) →
    IsFirstLeast (next_time s xs) (j ∷ js) (spt s xs (j ∷ js))
    × IsFirstGreatest (time_left s xs) (j ∷ js) (mwkr s xs (j ∷ js))
    × IsFirstLeast (ready s xs) (j ∷ js) (fcfs s xs (j ∷ js))

-- the letters that may follow are in rising order
unfoldable pub ShopLettersRise : JobShop → Type 0
ShopLettersRise s = (xs : List Placed) → AllPairs (λ a b. a < b) (letters_after s xs)

-- no word is longer than the number of steps
unfoldable pub ShopWordsAreFinite : JobShop → Type 0
ShopWordsAreFinite s = (w : List ℕ) → IsWord s w → length w ≤ s.jobs * s.machines

-- the bound of a word is at most the makespan of every full word that begins with it
unfoldable pub ShopBoundHolds : JobShop → Type 0
ShopBoundHolds s =
    (u v : List ℕ) → IsWord s (u ++ v) → is_full s (placed_in s (u ++ v)) ≡ true
    → bound_of s (placed_in s u) ≤ makespan_of s (placed_in s (u ++ v))

-- a full word whose schedule has at most a makespan
pub record Reaches (s : JobShop) (most : ℕ) : Type 0 where
  pub word : List ℕ
  pub is_word : IsWord s word
  pub full : is_full s (placed_in s word) ≡ true
  pub makespan : makespan_of s (placed_in s word) ≤ most

-- for every feasible list there is a full word with a makespan that is no greater
unfoldable pub WordsReach : JobShop → Type 0
WordsReach s =
    (starts : List ℕ) → IsFeasible (problem_of s) starts
    → Reaches s (makespan (problem_of s) starts)

-- a full word of least makespan among all full words gives a shortest schedule
unfoldable pub LeastWordIsShortest : JobShop → Type 0
LeastWordIsShortest s =
    (w : List ℕ) → IsWord s w → is_full s (placed_in s w) ≡ true
    → ((v : List ℕ) → IsWord s v → is_full s (placed_in s v) ≡ true
    → makespan_of s (placed_in s w) ≤ makespan_of s (placed_in s v))
    → IsShortest (problem_of s) (starts_of s (placed_in s w))

-- a full word with these starts
pub record IsSpelled (s : JobShop) (starts : List ℕ) : Type 0 where
  pub word : List ℕ
  pub is_word : IsWord s word
  pub full : is_full s (placed_in s word) ≡ true
  pub same : starts_of s (placed_in s word) ≡ starts

-- every active list is the schedule of a full word
unfoldable pub ActiveIsSpelled : JobShop → Type 0
ActiveIsSpelled s = (starts : List ℕ) → IsActive (problem_of s) starts → IsSpelled s starts

-- the least job whose next step has time 0
pub record IsFirstZero (s : JobShop) (xs : List Placed) (j : ℕ) : Type 0 where
  pub job : j < s.jobs
  pub next : steps_done xs j < s.machines
  pub none : time_of s (next_step s xs j) ≡ 0
  pub first : (k : ℕ) → k < j → steps_done xs k < s.machines → 0 < time_of s (next_step s xs k)

-- the least job whose next step would end first
pub record IsFirstEnd (s : JobShop) (xs : List Placed) (j : ℕ) : Type 0 where
  pub job : j < s.jobs
  pub next : steps_done xs j < s.machines
  pub least : (k : ℕ) → k < s.jobs → steps_done xs k < s.machines
      → next_end s xs j ≤ next_end s xs k
  pub first : (k : ℕ) → k < j → steps_done xs k < s.machines → next_end s xs j < next_end s xs k

-- no next step has time 0, and the next step of the job is on the machine of the step that would
-- end first and would start before that end
pub record Competes (s : JobShop) (xs : List Placed) (j : ℕ) : Type 0 where
  pub job : j < s.jobs
  pub next : steps_done xs j < s.machines
  pub positive : (k : ℕ) → k < s.jobs → steps_done xs k < s.machines
      → 0 < time_of s (next_step s xs k)
  pub winner : ℕ
  pub first_end : IsFirstEnd s xs winner
  pub machine : machine_of s (next_step s xs j) ≡ machine_of s (next_step s xs winner)
  pub sooner : ready s xs j < next_end s xs winner

-- the letters that may follow: that of the first next step of time 0, or else those of the steps
-- that compete for the machine of the step that would end first
unfoldable pub LettersAreThese : JobShop → Type 0
LettersAreThese s =
    (xs : List Placed) (j : ℕ) → Contains (letters_after s xs) (letter_of j)
    ↔ (IsFirstZero s xs j ⊎ Competes s xs j)
