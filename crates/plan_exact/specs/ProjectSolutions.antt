-- The best schedule of a project that a search within a budget finds (docs/definitions.md, "Best
-- schedules").
use Rattle.std.specs.Prelude.{◌≡◌, ℕ, ◌≤◌, ◌<◌, List, Option, Some, None}
use Rattle.plan_net.specs.Network.{count_of}
use Rattle.plan_sgs.specs.Problem.{makespan}
use Rattle.plan_sgs.specs.Keys.{IsRuleSchedule}
use Rattle.plan_sgs.specs.Instances.{Planned, problem_of}
use Rattle.plan_sgs.specs.Placement.{AllEndBy, latest_end}
use Rattle.plan_sgs.specs.ProjectWords.{starts_by}
use Rattle.plan_sgs.specs.declared.schedule.Schedule.{Schedule}
use Rattle.plan_sgs.specs.declared.rule.Rule.TheVariants as rule
use Rattle.plan_exact.specs.Answers.{Outcome, outcome, is_optimal}
use Rattle.plan_exact.specs.Solutions.{IsBudget}
use Rattle.plan_exact.specs.ProjectTrees.{project_tree}
use Rattle.plan_exact.specs.declared.shop_solution.Solved.{Solved}
use Rattle.plan_exact.specs.declared.fault.ExactFault.{ExactFault}
use Rattle.plan_exact.specs.declared.fault.ExactFault.TheVariants as fault

-- the number of activities is within its limit
abbrev pub HasFewActivities : Planned → Type 0
HasFewActivities i = count_of i.project.network ≤ 40

-- the answer of a search of the project's words from initial starts
unfoldable pub project_outcome : Planned → List ℕ → ℕ → Outcome
project_outcome i initial budget = outcome (project_tree i) (makespan (problem_of i) initial) budget

-- the starts of the word that was found, or the initial starts if there is none
abbrev pub starts_or : Planned → List ℕ → Option (List ℕ) → List ℕ
starts_or i initial None = initial
starts_or i initial (Some w) = starts_by i w

-- the initial schedule: that of the rule `lft`
pub record IsInitial (i : Planned) (schedule : Schedule) : Type 0 where
  pub starts : IsRuleSchedule i rule.LatestFinish schedule.starts.items
  pub makespan : schedule.makespan ≡ makespan (problem_of i) schedule.starts.items
  pub ends : AllEndBy (problem_of i) schedule.starts.items latest_end

-- a schedule is that of a word
pub record IsScheduleBy (i : Planned) (w : List ℕ) (schedule : Schedule) : Type 0 where
  pub starts : schedule.starts.items ≡ starts_by i w
  pub makespan : schedule.makespan ≡ makespan (problem_of i) schedule.starts.items
  pub ends : AllEndBy (problem_of i) schedule.starts.items latest_end

-- the result is the answer of a search from initial starts
pub record IsFoundFrom (i : Planned) (initial : List ℕ) (budget : ℕ) (solved : Solved) : Type 0 where
  pub optimal : is_optimal solved.kind ≡ (project_outcome i initial budget).optimal
  pub starts : solved.schedule.starts.items
      ≡ starts_or i initial (project_outcome i initial budget).found.word
  pub makespan : solved.schedule.makespan ≡ (project_outcome i initial budget).found.value

-- the solution of a project: the answer of the search within the limits, from the starts of the
-- rule `lft`
pub record IsProjectSolution (i : Planned) (budget : ℕ) (solved : Solved) : Type 0 where
  pub few_activities : HasFewActivities i
  pub allowed : IsBudget budget
  pub initial : List ℕ
  pub by_rule : IsRuleSchedule i rule.LatestFinish initial
  pub found : IsFoundFrom i initial budget solved
  pub ends : AllEndBy (problem_of i) solved.schedule.starts.items latest_end

-- the errors of a project: its size, else the budget, or memory that runs out
abbrev pub RefusesProject : Planned → ℕ → ExactFault → Type 0
RefusesProject i budget fault.NoMemory = Unit {0}
RefusesProject i budget fault.TooLarge = 40 < count_of i.project.network
RefusesProject i budget fault.BadBudget = HasFewActivities i × (IsBudget budget → ⊥)
