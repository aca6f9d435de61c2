-- Verdicts on starts in a sentence with the ids and the names in a file (docs/definitions.md,
-- "Runs").
use Rattle.std.specs.Prelude.{ℕ, ◌-◌, List, ◌++◌, Option, Some, None, codes}
use Rattle.std.specs.Fmt.{decimal}
use Rattle.plan_sgs.specs.declared.verdict.Verdict.{Verdict}
use Rattle.plan_sgs.specs.declared.verdict.Verdict.TheVariants as verdict
use Rattle.plan_shop.specs.Shop.{JobShop}
use Rattle.plan_report.specs.VerdictText.{place_number, job_number}
use Rattle.plan_errors.specs.declared.parts.Key.TheVariants as key
use Rattle.plan_table.specs.Names.{Name, id_key, names_behind}
use Rattle.plan_documents.specs.Details.{label, names_under}
use Rattle.plan_documents.specs.Labels.{activity_called, id_label}
use Rattle.plan_documents.specs.declared.documents.Plan.{Plan}
use Rattle.plan_documents.specs.declared.documents.Plan.TheVariants as plan
use Rattle.plan_documents.specs.declared.documents.Subject.{Subject}

-- the number of a predecessor without a label, behind an activity with this label
abbrev pub number_behind : Option (List ℕ) → ℕ → List ℕ
number_behind None n = decimal n
number_behind (Some activity) n = codes "activity " ++ decimal n

-- a predecessor by its label, or else by its number
abbrev pub predecessor_called : Option (List ℕ) → ℕ → Option (List ℕ) → List ℕ
predecessor_called activity n None = number_behind activity n
predecessor_called activity n (Some label) = label

-- an activity starts before its predecessor ends, both with their labels
abbrev pub labelled_broken_text : ℕ → Option (List ℕ) → ℕ → Option (List ℕ) → List ℕ
labelled_broken_text activity label predecessor before =
    activity_called activity label ++ codes " starts before "
    ++ predecessor_called label predecessor before ++ codes " ends"

-- the same, with these ids and names
abbrev pub named_broken_text : List Name → List Name → ℕ → ℕ → List ℕ
named_broken_text ids names activity predecessor =
    labelled_broken_text activity (id_label ids names activity)
    predecessor (id_label ids names predecessor)

-- at time t more of resource k is in use than its capacity
abbrev pub named_over_text : List Name → ℕ → ℕ → List ℕ
named_over_text resources t k =
    codes "at time " ++ decimal t ++ codes " more of "
    ++ label (codes "resource") resources k ++ codes " is needed than there is"

-- an activity can start earlier
abbrev pub named_early_text : List Name → List Name → ℕ → List ℕ
named_early_text ids names activity =
    activity_called activity (id_label ids names activity) ++ codes " can start earlier"

-- a verdict on the starts of a project, whose activities have these ids and names
abbrev pub project_sentence : List Name → List Name → List Name → Verdict → List ℕ
project_sentence ids names resources (verdict.Arc i j) = named_broken_text ids names j i
project_sentence ids names resources (verdict.Over t k) = named_over_text resources t k
project_sentence ids names resources (verdict.Shift j) = named_early_text ids names j
project_sentence ids names resources verdict.Active = codes "active"

-- a step by its number in the job and by the name of the job
abbrev pub named_step_text : List Name → JobShop → ℕ → List ℕ
named_step_text jobs s x =
    codes "step " ++ decimal (place_number s x) ++ codes " of "
    ++ label (codes "job") jobs (job_number s x)

-- a step starts before its predecessor in the job ends
abbrev pub named_broken_job_text : List Name → JobShop → ℕ → ℕ → List ℕ
named_broken_job_text jobs s predecessor step =
    named_step_text jobs s step ++ codes " starts before step "
    ++ decimal (place_number s predecessor) ++ codes " ends"

-- at time t machine k - 1 has two steps or more
abbrev pub named_crowded_text : List Name → ℕ → ℕ → List ℕ
named_crowded_text machines t k =
    codes "at time " ++ decimal t ++ codes " more than one step is on "
    ++ label (codes "machine") machines (k - 1)

-- a verdict on the starts of a job shop, whose jobs and machines have these names
abbrev pub shop_sentence : List Name → List Name → JobShop → Verdict → List ℕ
shop_sentence jobs machines s (verdict.Arc i j) = named_broken_job_text jobs s i j
shop_sentence jobs machines s (verdict.Over t k) = named_crowded_text machines t k
shop_sentence jobs machines s (verdict.Shift j) =
    named_step_text jobs s j ++ codes " can start earlier"
shop_sentence jobs machines s verdict.Active = codes "active"

-- a verdict on the starts of the plan of a subject in a file; waits have their ids
abbrev pub verdict_sentence : Subject → List ℕ → Plan → Verdict → List ℕ
verdict_sentence of file (plan.Project i ids) v =
    project_sentence (names_behind id_key file) (names_under of file key.Activity)
    (names_under of file key.Resource) v
verdict_sentence of file (plan.Shop s) v =
    shop_sentence (names_under of file key.Job) (names_under of file key.Machine) s v
