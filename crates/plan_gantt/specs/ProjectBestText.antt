-- The text of the best schedule of a project within the budget that a word spells, or its error
-- line (docs/definitions.md, "Texts").
use Rattle.std.specs.Prelude.{◌≡◌, ◌<◌, ◌⊎◌, ℕ, List, ◌++◌}
use Rattle.plan_net.specs.Network.{count_of}
use Rattle.plan_sgs.specs.Problem.{IsActive, IsShortest, NeedsFit, makespan}
use Rattle.plan_sgs.specs.Instances.{Planned, problem_of, RefusesInstance}
use Rattle.plan_sgs.specs.declared.fault.SgsFault.{SgsFault}
use Rattle.plan_exact.specs.Budgets.{IsBudgetText}
use Rattle.plan_exact.specs.ProjectSolutions.{HasFewActivities, IsProjectSolution}
use Rattle.plan_exact.specs.declared.answer.Kind.TheVariants.{Optimal}
use Rattle.plan_exact.specs.declared.shop_solution.Solved.{Solved}
use Rattle.plan_exact.specs.declared.fault.ExactFault.{ExactFault}
use Rattle.plan_exact.specs.declared.fault.ExactFault.TheVariants as exact
use Rattle.plan_gantt.specs.BestText.{kind_line}
use Rattle.plan_gantt.specs.ScheduleTable.{schedule_table_text}
use Rattle.plan_gantt.specs.ScheduleFaultText.{schedule_fault_text_of}
use Rattle.plan_gantt.specs.ExactFaultText.{exact_fault_text_of}

-- the line of the kind and the makespan, then the table of the schedule
abbrev pub best_project_text_of : Planned → Solved → List ℕ
best_project_text_of i solved =
    kind_line solved.kind solved.schedule.makespan
    ++ schedule_table_text i.project.network solved.schedule.starts.items solved.schedule.makespan

-- a text shows the result of a search of a project's words within a budget: an active schedule,
-- which has the least makespan of all feasible ones if it is called optimal
pub record IsBestProjectBy (budget : ℕ) (i : Planned) (text : List ℕ) : Type 0 where
  pub solved : Solved
  pub solution : IsProjectSolution i budget solved
  pub shortest : solved.kind ≡ Optimal → IsShortest (problem_of i) solved.schedule.starts.items
  pub active : IsActive (problem_of i) solved.schedule.starts.items
  pub makespan : solved.schedule.makespan ≡ makespan (problem_of i) solved.schedule.starts.items
  pub shown : text ≡ best_project_text_of i solved

-- a text shows the best schedule of an instance within the budget that a word spells
abbrev pub IsBestProjectTextOf : List ℕ → Planned → List ℕ → Type 0
IsBestProjectTextOf word i text = (budget : ℕ) × IsBudgetText word budget × IsBestProjectBy budget i text

-- the error of an instance: its size, or else a word that spells no budget
abbrev pub RefusesBestProject : List ℕ → Planned → ExactFault → Type 0
RefusesBestProject word i exact.NoMemory = ⊥
RefusesBestProject word i exact.TooLarge = 40 < count_of i.project.network
RefusesBestProject word i exact.BadBudget = HasFewActivities i × ((budget : ℕ) → IsBudgetText word budget → ⊥)

-- the line is the error of an instance that is rejected
abbrev pub TellsNoBestProject : List ℕ → Planned → List ℕ → Type 0
TellsNoBestProject word i line =
    (first : ExactFault) × RefusesBestProject word i first × (line ≡ exact_fault_text_of first)

-- a line reports the first need that exceeds a capacity, or else the error of the search
abbrev pub TellsBestProjectRefusal : List ℕ → Planned → List ℕ → Type 0
TellsBestProjectRefusal word i line =
    ((first : SgsFault) × RefusesInstance i first × (line ≡ schedule_fault_text_of first))
    ⊎ (NeedsFit (problem_of i) × TellsNoBestProject word i line)
