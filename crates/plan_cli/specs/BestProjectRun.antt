-- The output of `plan best-project` for the bytes that it reads (docs/definitions.md, "Runs").
use Rattle.std.specs.Prelude.{◌≡◌, ◌⊎◌, ℕ, List}
use Rattle.plan_psplib.specs.Project.{Project, SaysProject}
use Rattle.plan_sgs.specs.Instances.{Planned}
use Rattle.plan_exact.specs.ProjectSolutions.{RefusesProject}
use Rattle.plan_exact.specs.declared.fault.ExactFault.{ExactFault}
use Rattle.plan_exact.specs.declared.fault.ExactFault.TheVariants as exact
use Rattle.plan_gantt.specs.FirstFaults.{TellsFirstFailing}
use Rattle.plan_gantt.specs.ProjectBestText.{IsBestProjectTextOf, TellsBestProjectRefusal}
use Rattle.plan_gantt.specs.ExactFaultText.{exact_fault_text_of}
use Rattle.plan_documents.specs.ScheduleRun.{as_available}

-- a text shows the best schedule of the project in a file, within the budget of an argument and
-- with the capacities of the file
abbrev pub IsBestProjectTableOf : List ℕ → List ℕ → List ℕ → Type 0
IsBestProjectTableOf argument file text =
    (p : Project) × SaysProject file p × IsBestProjectTextOf argument (as_available p) text

-- a line gives the first check that a file fails, or else the refusal of its project
abbrev pub TellsWhyNoBestProject : List ℕ → List ℕ → List ℕ → Type 0
TellsWhyNoBestProject argument file line = TellsFirstFailing file line
    ⊎ ((p : Project) × SaysProject file p × TellsBestProjectRefusal argument (as_available p) line)

-- a line gives the refusal of a search within a budget
abbrev pub TellsSearchRefusal : ℕ → Planned → List ℕ → Type 0
TellsSearchRefusal budget i line =
    (first : ExactFault) × (first ≡ exact.NoMemory → ⊥) × RefusesProject i budget first
    × (line ≡ exact_fault_text_of first)
