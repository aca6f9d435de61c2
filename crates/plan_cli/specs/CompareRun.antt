-- The output of `plan compare` for the bytes that it reads (docs/definitions.md, "Runs").
use Rattle.std.specs.Prelude.{◌≡◌, ◌⊎◌, ◌++◌, ℕ, List, if◌then◌else◌, bytes_eq, codes}
use Rattle.plan_report.specs.Sheet.{Sheet}
use Rattle.plan_report.specs.StartsText.{SaysStarts}
use Rattle.plan_errors.specs.Faults.{refusal_line}
use Rattle.plan_errors.specs.Output.{Refuses}
use Rattle.plan_errors.specs.declared.context.About.{About}
use Rattle.plan_errors.specs.declared.context.About.TheVariants as subject
use Rattle.plan_errors.specs.declared.fault.CliFault.{CliFault}
use Rattle.plan_errors.specs.declared.fault.CliFault.TheVariants as fault
use Rattle.plan_views.specs.ComparisonTables as views
use Rattle.plan_documents.specs.Documents.{sheet_of}
use Rattle.plan_cli.specs.PlanRefs.{viewed}
use Rattle.plan_documents.specs.Starts.{TellsNoStarts}
use Rattle.plan_documents.specs.declared.documents.Plan.{Plan}

-- the line of an error with the name of a schedule behind it
abbrev pub named_line : List ℕ → List ℕ → List ℕ
named_line name line = line ++ codes " " ++ name

-- the same for an error: only a line gets the name, and memory can run out for it
abbrev pub IsNamedFault : List ℕ → CliFault → CliFault → Type 0
IsNamedFault name (fault.Refused refusal) named =
    Refuses (λ told. told ≡ named_line name (refusal_line refusal)) named
IsNamedFault name fault.Memory named = named ≡ fault.Memory
IsNamedFault name (fault.Input unread) named = named ≡ fault.Input unread
IsNamedFault name fault.Output named = named ≡ fault.Output

-- the argument with the starts of the schedule with this name; none for another name
abbrev pub subject_of : List ℕ → About
subject_of name = if bytes_eq name (codes "A") then subject.StartsA
    else if bytes_eq name (codes "B") then subject.StartsB else subject.Other

-- a line gives the first check that the starts of the schedule with this name fail
abbrev pub TellsNoStartsOf : List ℕ → Sheet → List ℕ → List ℕ → Type 0
TellsNoStartsOf name sheet text line =
    (plain : List ℕ) × TellsNoStarts sheet text plain × (line ≡ named_line name plain)

-- a line gives the first check that the starts of schedule A fail, or else those of schedule B
abbrev pub TellsNoPair : Sheet → List ℕ → List ℕ → List ℕ → Type 0
TellsNoPair sheet first second line = TellsNoStartsOf (codes "A") sheet first line
    ⊎ ((a : List ℕ) × SaysStarts sheet first a
    × TellsNoStartsOf (codes "B") sheet second line)

-- two texts say the starts of the schedules A and B, and this holds of them
abbrev pub SayPair : Sheet → List ℕ → List ℕ → (List ℕ → List ℕ → Type 0) → Type 0
SayPair sheet first second Holds = (a : List ℕ) × SaysStarts sheet first a
    × ((b : List ℕ) × SaysStarts sheet second b × Holds a b)

-- a text compares two schedules of a plan by their starts
abbrev pub Compares : Plan → List ℕ → List ℕ → List ℕ → Type 0
Compares p a b text = views.Compares (viewed p) a b text

-- a text compares the schedules with the starts in two texts
abbrev pub IsCompared : List ℕ → List ℕ → Plan → List ℕ → Type 0
IsCompared first second p text =
    SayPair (sheet_of p) first second (λ a b. Compares p a b text)

-- a line gives the first check that one of these texts fails
abbrev pub TellsNotCompared : List ℕ → List ℕ → Plan → List ℕ → Type 0
TellsNotCompared first second p line = TellsNoPair (sheet_of p) first second line
