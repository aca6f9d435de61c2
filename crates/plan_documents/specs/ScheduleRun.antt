-- The output of `plan schedule` for the bytes that it reads (docs/definitions.md, "Runs").
use Rattle.std.specs.Prelude.{◌≡◌, ◌⊎◌, ℕ, List}
use Rattle.plan_psplib.specs.Project.{Project, SaysProject}
use Rattle.plan_sgs.specs.Instances.{Planned, planned, RefusesInstance}
use Rattle.plan_sgs.specs.declared.fault.SgsFault.{SgsFault}
use Rattle.plan_gantt.specs.FirstFaults.{TellsFirstFailing}
use Rattle.plan_gantt.specs.ScheduleText.{IsScheduleTextOf, TellsRefusal}
use Rattle.plan_gantt.specs.ScheduleFaultText.{schedule_fault_text_of}

-- a project with the capacities of its file
abbrev pub as_available : Project → Planned
as_available p = planned p p.available

-- a text is the schedule table of the project in a file, by the rule with this name and with the
-- capacities of the file
abbrev pub IsScheduleTableOf : List ℕ → List ℕ → List ℕ → Type 0
IsScheduleTableOf name file text =
    (p : Project) × SaysProject file p × IsScheduleTextOf name (as_available p) text

-- a line gives the first check that a file fails, or else the refusal of its project
abbrev pub TellsWhyNoSchedule : List ℕ → List ℕ → List ℕ → Type 0
TellsWhyNoSchedule name file line = TellsFirstFailing file line
    ⊎ ((p : Project) × SaysProject file p × TellsRefusal name (as_available p) line)

-- a line gives the first need of an instance that is above its capacity
abbrev pub TellsNeed : Planned → List ℕ → Type 0
TellsNeed i line =
    (first : SgsFault) × RefusesInstance i first × (line ≡ schedule_fault_text_of first)

-- a line gives the error of a schedule
abbrev pub TellsSchedule : SgsFault → List ℕ → Type 0
TellsSchedule first line = line ≡ schedule_fault_text_of first
