-- The output of `plan solve` for the bytes that it reads (docs/definitions.md, "Runs").
use Rattle.std.specs.Prelude.{◌≡◌, ◌≤◌, ℕ, List, ◌++◌}
use Rattle.plan_sgs.specs.Problem.{Problem, IsActive, IsShortest, makespan}
use Rattle.plan_solve.specs.Solutions.{IsLowerBound}
use Rattle.plan_solve.specs.declared.solutions.Solved.{Solved}
use Rattle.plan_documents.specs.Documents.{problem_of, count_of}
use Rattle.plan_cli.specs.ProofText.{IsBoundLine}
use Rattle.plan_cli.specs.Scheduled.{CanBeShown}
use Rattle.plan_cli.specs.Tables.{table_of}
use Rattle.plan_documents.specs.declared.documents.Plan.{Plan}

-- An active schedule of a problem that texts can show, with its makespan, and a lower bound of the
-- makespans of all feasible ones. If they meet, the schedule is a shortest one.
pub record Solves (problem : Problem) (count : ℕ) (solved : Solved) : Type 0 where
  pub active : IsActive problem solved.schedule.starts.items
  pub makespan : solved.schedule.makespan ≡ makespan problem solved.schedule.starts.items
  pub bound : IsLowerBound problem solved.lower
  pub below : solved.lower ≤ solved.schedule.makespan
  pub shortest : solved.lower ≡ solved.schedule.makespan →
      IsShortest problem solved.schedule.starts.items
  pub fits : CanBeShown count solved.schedule

-- the same of a plan
abbrev pub IsSolution : Plan → Solved → Type 0
IsSolution p solved = Solves (problem_of p) (count_of p) solved

-- a text is the line with a lower bound and a makespan, and then the table of a schedule
abbrev pub ShowsSolution : Plan → ℕ → List ℕ → ℕ → List ℕ → Type 0
ShowsSolution p lower starts ends text = (line : List ℕ) × IsBoundLine lower ends line
    × (text ≡ line ++ table_of p starts ends)

-- A text shows an active schedule of a plan with its makespan, and a lower bound of the makespans
-- of all feasible ones. If they meet, the schedule is a shortest one.
pub record IsSolvedBy (p : Plan) (text : List ℕ) : Type 0 where
  pub starts : List ℕ
  pub ends : ℕ
  pub lower : ℕ
  pub active : IsActive (problem_of p) starts
  pub makespan : ends ≡ makespan (problem_of p) starts
  pub bound : IsLowerBound (problem_of p) lower
  pub shortest : lower ≡ ends → IsShortest (problem_of p) starts
  pub shown : ShowsSolution p lower starts ends text

-- no line refuses a solution
abbrev pub TellsNoSolution : Plan → List ℕ → Type 0
TellsNoSolution p line = ⊥
