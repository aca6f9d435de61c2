-- Verdicts on starts in a sentence (docs/definitions.md, "Reports"). Steps of a job shop are named
-- by their number in the job and by the job, both from 1, and machines are numbered from 0, as in
-- the table of a job shop.
use Rattle.std.specs.Prelude.{ℕ, ◌+◌, ◌-◌, ◌/◌, ◌%◌, List, ◌++◌, codes}
use Rattle.std.specs.Fmt.{decimal}
use Rattle.plan_sgs.specs.declared.verdict.Verdict.{Verdict}
use Rattle.plan_sgs.specs.declared.verdict.Verdict.TheVariants.{Arc, Over, Shift, Active}
use Rattle.plan_shop.specs.Shop.{JobShop}

-- an activity starts before its predecessor ends
abbrev pub broken_text : ℕ → ℕ → List ℕ
broken_text activity predecessor =
    codes "activity " ++ decimal activity ++ codes " starts before " ++ decimal predecessor
    ++ codes " ends"

-- at time t more of resource k is in use than its capacity
abbrev pub over_text : ℕ → ℕ → List ℕ
over_text t k =
    codes "at time " ++ decimal t ++ codes " more of resource " ++ decimal k
    ++ codes " is needed than there is"

-- a verdict on the starts of a project
abbrev pub sentence_of : Verdict → List ℕ
sentence_of (Arc i j) = broken_text j i
sentence_of (Over t k) = over_text t k
sentence_of (Shift j) = codes "activity " ++ decimal j ++ codes " can start earlier"
sentence_of Active = codes "active"

-- the numbers of a step in its job and of the job, for the step with number x from 1 on
abbrev pub place_number : JobShop → ℕ → ℕ
place_number s x = (x - 1) % s.machines + 1

abbrev pub job_number : JobShop → ℕ → ℕ
job_number s x = (x - 1) / s.machines + 1

-- a step
abbrev pub step_text : JobShop → ℕ → List ℕ
step_text s x =
    codes "step " ++ decimal (place_number s x) ++ codes " of job " ++ decimal (job_number s x)

-- a step starts before its predecessor in the job ends
abbrev pub broken_job_text : JobShop → ℕ → ℕ → List ℕ
broken_job_text s predecessor step =
    step_text s step ++ codes " starts before step " ++ decimal (place_number s predecessor)
    ++ codes " ends"

-- at time t machine k - 1 has two steps or more
abbrev pub crowded_text : ℕ → ℕ → List ℕ
crowded_text t k =
    codes "at time " ++ decimal t ++ codes " more than one step is on machine " ++ decimal (k - 1)

-- a verdict on the starts of a job shop
abbrev pub shop_sentence_of : JobShop → Verdict → List ℕ
shop_sentence_of s (Arc i j) = broken_job_text s i j
shop_sentence_of s (Over t k) = crowded_text t k
shop_sentence_of s (Shift j) = step_text s j ++ codes " can start earlier"
shop_sentence_of s Active = codes "active"
