-- The jobs of a table, one activity after another.
use Rattle.std.proofs.Common.{◌≡◌, ℕ, ◌+◌, ◌<◌, ◌≤◌, Bool, true, false, List, [], ◌∷◌, ◌++◌, length, map, take, get_or, refl, sym, ap, ◌∙◌, subst, arith, cond}
use Rattle.plan_table.specs.declared.table.Activity as declared
use Rattle.plan_table.specs.declared.jobs.Job as declared_job
use Rattle.std.specs.Prelude.{All}
use Rattle.std.specs.List.{AllByRecursion}
use Rattle.std.proofs.lemmas.List.{length-map}
use Rattle.std.proofs.lemmas.List.Elements.{All-from_recursion}
use Rattle.plan_table.specs.Numbered.{numbered}
use Rattle.plan_table.specs.Table.{Activity, activity_of}
use Rattle.plan_table.specs.Jobs.{Job, job_in, job_of, jobs_of, dummy, is_first, follows, numbers_where, or_last, last_job_of}
use Rattle.plan_table.proofs.NumberedLemmas.{numbered-more}

-- the number of the next activity, if it passes
pub next_number : (test : Activity → Bool) (xs : List declared.Activity) (k : ℕ) (x : declared.Activity) (passes : Bool) (old new : List ℕ) →
    k < length xs → x ≡ get_or xs k x → passes ≡ test (activity_of x) →
    old ≡ numbers_where test (map activity_of (take k xs)) →
    new ≡ old ++ cond passes ((k + 2) ∷ []) [] →
    new ≡ numbers_where test (map activity_of (take (k + 1) xs))
next_number test xs k x passes old new below is tested before written =
    let number : k + 2 ≡ 2 + k = omega arith in
    let so_far = numbers_where test (map activity_of (take k xs)) in
    written ∙ ap (λ ns. ns ++ cond passes ((k + 2) ∷ []) []) before
    ∙ ap (λ b. so_far ++ cond b ((k + 2) ∷ []) []) tested
    ∙ ap (λ j. so_far ++ cond (test (activity_of x)) (j ∷ []) []) number
    ∙ sym (numbered-more (λ j a. cond (test a) (j ∷ []) []) activity_of 2 xs k x x below is)

-- the jobs of activities, of which all are these
abbrev pub jobs_so_far : List Activity → List Activity → List Job
jobs_so_far all activities = numbered (λ j a. job_of all j a ∷ []) 2 activities

-- ---- what holds of all jobs

each_job : (P : Job → Type 0) (Q : Activity → Type 0) (all : List Activity) (last : Job) → ((j : ℕ) (a : Activity) → Q a → P (job_of all j a)) → P last →
    (n : ℕ) (xs : List Activity) → AllByRecursion Q xs → AllByRecursion P (numbered (λ j a. job_of all j a ∷ []) n xs ++ last ∷ [])
each_job P Q all last each end n [] h = (end, tt)
each_job P Q all last each end n (x ∷ xs) h = (each n x h.0, each_job P Q all last each end (n + 1) xs h.1)

-- what holds of the dummies and of the activities' jobs
pub all_jobs : (P : Job → Type 0) (Q : Activity → Type 0) (all : List Activity) (k : ℕ) → P (dummy (numbers_where is_first all) k) → P (dummy [] k) →
    ((j : ℕ) (a : Activity) → Q a → P (job_of all j a)) → AllByRecursion Q all → AllByRecursion P (jobs_of all k)
all_jobs P Q all k first last each h = (first, each_job P Q all (dummy [] k) each last 2 all h)

no_fact : (xs : List Activity) → AllByRecursion (λ a. Unit {0}) xs
no_fact [] = tt
no_fact (x ∷ xs) = (tt, no_fact xs)

pub where_short : (test : Activity → Bool) (n : ℕ) (xs : List Activity) → length (numbered (λ j a. cond (test a) (j ∷ []) []) n xs) ≤ length xs
where_short test n [] = omega arith
where_short test n (x ∷ xs) = by_test (where_short test (n + 1) xs) (test x)
  where
    by_test : length (numbered (λ j a. cond (test a) (j ∷ []) []) (n + 1) xs) ≤ length xs → (b : Bool) →
        length (cond b (n ∷ []) [] ++ numbered (λ j a. cond (test a) (j ∷ []) []) (n + 1) xs) ≤ length (x ∷ xs)
    by_test rest true = omega (arith, rest)
    by_test rest false = omega (arith, rest)

pub or_last_short : (last most : ℕ) (js : List ℕ) → 1 ≤ most → length js ≤ most → length (or_last last js) ≤ most
or_last_short last most [] some short = omega (arith, some)
or_last_short last most (j ∷ js) some short = short

-- no job has more successors than a project has jobs
abbrev pub IsShort : Job → Type 0
IsShort job = length job.successors ≤ 502

pub short_jobs : (all : List Activity) (k : ℕ) → length all ≤ 500 → AllByRecursion IsShort (jobs_of all k)
short_jobs all k few =
    all_jobs IsShort (λ a. Unit {0}) all k
    (let n = where_short is_first 2 all in omega (arith, n, few))
    (omega arith)
    (λ j a h. or_last_short (last_job_of all) 502 (numbers_where (follows j) all) (omega arith)
    (let n = where_short (follows j) 2 all in omega (arith, n, few)))
    (no_fact all)

-- the number of jobs
pub jobs_count : (all : List Activity) (k : ℕ) → length (jobs_of all k) ≡ length all + 2
jobs_count all k =
    let n = each 2 all in omega (arith, n)
  where
    each : (n : ℕ) (xs : List Activity) → length (numbered (λ j a. job_of all j a ∷ []) n xs ++ dummy [] k ∷ []) ≡ length xs + 1
    each n [] = refl
    each n (x ∷ xs) = let rest = each (n + 1) xs in omega (arith, rest)

-- ---- what holds of what is seen

all_seen : {A C : Type 0} (P : A → Type 0) (view : C → A) (xs : List C) → AllByRecursion P (map view xs) → AllByRecursion (λ x. P (view x)) xs
all_seen P view [] h = tt
all_seen P view (x ∷ xs) h = (h.0, all_seen P view xs h.1)

-- the jobs that are kept have few successors, and there are few of them
pub kept_jobs_short : (jobs : List declared_job.Job) (all : List Activity) (k : ℕ) → map job_in jobs ≡ jobs_of all k → length all ≤ 500 →
    (length jobs ≤ 502) × All (λ (job : declared_job.Job). length job.successors.items ≤ 502) jobs
kept_jobs_short jobs all k is few =
    let size : length (map job_in jobs) ≡ length jobs = length-map jobs job_in in
    let count = ap length is ∙ jobs_count all k in
    let P : List Job → Type 0 = λ js. AllByRecursion IsShort js in (
      omega (arith, size, count, few),
      All-from_recursion (λ (job : declared_job.Job). length job.successors.items ≤ 502) jobs
          (all_seen IsShort job_in jobs (subst P (sym is) (short_jobs all k few))),
    )
