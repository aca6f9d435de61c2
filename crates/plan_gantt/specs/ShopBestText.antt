-- The text of the best schedule of a job shop within the budget that a word spells, or its error
-- line (docs/definitions.md, "Texts").
use Rattle.std.specs.Prelude.{◌≡◌, ◌<◌, ℕ, List}
use Rattle.plan_sgs.specs.Problem.{IsActive, IsShortest, makespan}
use Rattle.plan_shop.specs.Shop.{JobShop, problem_of, count_steps}
use Rattle.plan_exact.specs.Budgets.{IsBudgetText}
use Rattle.plan_exact.specs.Solutions.{IsSolution, HasFewSteps}
use Rattle.plan_exact.specs.declared.answer.Kind.TheVariants.{Optimal}
use Rattle.plan_exact.specs.declared.shop_solution.Solved.{Solved}
use Rattle.plan_exact.specs.declared.fault.ExactFault.{ExactFault}
use Rattle.plan_exact.specs.declared.fault.ExactFault.TheVariants as exact
use Rattle.plan_gantt.specs.BestText.{best_text_of}
use Rattle.plan_gantt.specs.ExactFaultText.{exact_fault_text_of}

-- a text shows the result of a search of a shop's words within a budget: an active schedule, which
-- has the least makespan of all feasible ones if it is called optimal
pub record IsBestBy (budget : ℕ) (s : JobShop) (text : List ℕ) : Type 0 where
  pub solved : Solved
  pub solution : IsSolution s budget solved
  pub shortest : solved.kind ≡ Optimal → IsShortest (problem_of s) solved.schedule.starts.items
  pub active : IsActive (problem_of s) solved.schedule.starts.items
  pub makespan : solved.schedule.makespan ≡ makespan (problem_of s) solved.schedule.starts.items
  pub shown : text ≡ best_text_of s solved

-- a text shows the best schedule of a shop within the budget that a word spells
abbrev pub IsBestTextOf : List ℕ → JobShop → List ℕ → Type 0
IsBestTextOf word s text = (budget : ℕ) × IsBudgetText word budget × IsBestBy budget s text

-- the error of a shop: its size, or else a word that spells no budget
abbrev pub RefusesBest : List ℕ → JobShop → ExactFault → Type 0
RefusesBest word s exact.NoMemory = ⊥
RefusesBest word s exact.TooLarge = 100 < count_steps s
RefusesBest word s exact.BadBudget = HasFewSteps s × ((budget : ℕ) → IsBudgetText word budget → ⊥)

-- the line is the error of a shop that is rejected
abbrev pub TellsBestRefusal : List ℕ → JobShop → List ℕ → Type 0
TellsBestRefusal word s line =
    (first : ExactFault) × RefusesBest word s first × (line ≡ exact_fault_text_of first)
