-- The best schedule of a job shop that a search within a budget finds (docs/definitions.md, "Best
-- schedules").
use Rattle.std.specs.Prelude.{◌≡◌, ℕ, ◌≤◌, ◌<◌, true, List, All, Option, Some, None}
use Rattle.plan_shop.specs.Shop.{JobShop, count_steps}
use Rattle.plan_sgs.specs.declared.schedule.Schedule.{Schedule}
use Rattle.plan_shop.specs.Words.{IsWord, is_full, starts_of, makespan_of}
use Rattle.plan_shop.specs.Laws.{placed_in}
use Rattle.plan_shop.specs.Names.{word_by}
use Rattle.plan_shop.specs.declared.rule.ShopRule.TheVariants as rule
use Rattle.plan_exact.specs.Answers.{Outcome, outcome, is_optimal}
use Rattle.plan_exact.specs.ShopTrees.{tree_of}
use Rattle.plan_exact.specs.declared.shop_solution.Solved.{Solved}
use Rattle.plan_exact.specs.declared.fault.ExactFault.{ExactFault}
use Rattle.plan_exact.specs.declared.fault.ExactFault.TheVariants as fault

-- the word of the initial schedule: that of the rule `mwkr`
abbrev pub initial_word : JobShop → List ℕ
initial_word s = word_by rule.MostWorkRemaining s

-- the makespan of a word's schedule
abbrev pub makespan_by : JobShop → List ℕ → ℕ
makespan_by s w = makespan_of s (placed_in s w)

-- the starts of a word's schedule
abbrev pub starts_by : JobShop → List ℕ → List ℕ
starts_by s w = starts_of s (placed_in s w)

-- a word of the shop that places all steps
pub record IsFullWord (s : JobShop) (w : List ℕ) : Type 0 where
  pub is_word : IsWord s w
  pub full : is_full s (placed_in s w) ≡ true

-- a schedule is that of a word
pub record IsScheduleBy (s : JobShop) (w : List ℕ) (schedule : Schedule) : Type 0 where
  pub starts : schedule.starts.items ≡ starts_by s w
  pub makespan : schedule.makespan ≡ makespan_by s w
  pub within : All (λ t. t ≤ 10000000) schedule.starts.items

-- the answer of a search of the shop's words
unfoldable pub solution : JobShop → ℕ → Outcome
solution s budget = outcome (tree_of s) (makespan_by s (initial_word s)) budget

-- the word that was found, or the initial word if there is none
abbrev pub word_or : List ℕ → Option (List ℕ) → List ℕ
word_or initial None = initial
word_or initial (Some w) = w

-- the starts of an answer
abbrev pub answered_starts : JobShop → Outcome → List ℕ
answered_starts s answer = starts_by s (word_or (initial_word s) answer.found.word)

-- the number of steps and the budget are within their limits
abbrev pub IsBudget : ℕ → Type 0
IsBudget budget = (1 ≤ budget) × (budget ≤ 200000)

abbrev pub HasFewSteps : JobShop → Type 0
HasFewSteps s = count_steps s ≤ 100

-- the solution of a shop: the answer of the search within the limits
pub record IsSolution (s : JobShop) (budget : ℕ) (solved : Solved) : Type 0 where
  pub few_steps : HasFewSteps s
  pub allowed : IsBudget budget
  pub optimal : is_optimal solved.kind ≡ (solution s budget).optimal
  pub starts : solved.schedule.starts.items ≡ answered_starts s (solution s budget)
  pub makespan : solved.schedule.makespan ≡ (solution s budget).found.value
  pub within : All (λ t. t ≤ 10000000) solved.schedule.starts.items

-- the errors of a shop: its size, else the budget, or memory that runs out
abbrev pub RefusesSolving : JobShop → ℕ → ExactFault → Type 0
RefusesSolving s budget fault.NoMemory = Unit {0}
RefusesSolving s budget fault.TooLarge = 100 < count_steps s
RefusesSolving s budget fault.BadBudget = HasFewSteps s × (IsBudget budget → ⊥)
