-- Shops at the front of streams: reading succeeds exactly for the words that begin with the shop's
-- numbers.
use Rattle.std.proofs.Common.{◌≡◌, ℕ, zero, suc, ◌+◌, ◌≤◌, ◌<◌, List, [], ◌∷◌, ◌++◌, Some, Ok, length, map, get_or, refl, sym, ap, ◌∙◌, subst, append_assoc, append-nil, arith}
use Rattle.std.specs.Prelude.{nat_lt, All}
use Rattle.std.specs.List.{AllByRecursion, flat_map}
use Rattle.std.proofs.lemmas.Bool.{ltb-true, lt-ltb}
use Rattle.std.proofs.lemmas.List.{get_or-map, length-map}
use Rattle.std.proofs.lemmas.List.Elements.{All-from_recursion, recursion_from_All}
use Rattle.std.proofs.lemmas.List.Sums.{sum_by_push, sum_by-cons}
use Rattle.plan_psplib.specs.declared.text.fault.FileCode.TheVariants as code
use Rattle.plan_psplib.specs.Numbers.{number}
use Rattle.plan_psplib.specs.Streams.{LineWord, Stream}
use Rattle.plan_psplib.specs.Tokens.{check, number_at, limited_at, greatest_total, duration_at}
use Rattle.plan_psplib.specs.Says.{Spells}
use Rattle.plan_psplib.proofs.GoesLemmas.{Goes, goes_append, goes_split, then_ok, ok_bind, same_ok, check_ok, ok_check, number_goes, goes_number, limited_goes, goes_limited}
use Rattle.plan_psplib.proofs.AmountsLemmas.{duration_goes, goes_duration}
use Rattle.plan_orlib.specs.declared.steps.Step.{Step}
use Rattle.plan_orlib.specs.Shop.{Shop, IsShop, IsStep, IsJob, most_jobs, most_machines, time_of, total_time}
use Rattle.plan_orlib.specs.ShopText.{machine_at, step_at, steps_at, jobs_at, shop_at}
use Rattle.plan_orlib.specs.Says.{job_numbers, shop_numbers, BeginsWith}

-- ---- words that begin with some numbers

pub goes_begins : (s t : Stream) (ns : List ℕ) → Goes s ns t → BeginsWith s.words ns
goes_begins s t [] p = ([], s.words, refl, refl)
goes_begins s t (n ∷ ns) p =
    let rest = goes_begins (record { last = p.0.line; words = p.1 }) t ns p.4 in
    (p.0 ∷ rest.0, rest.1, p.2 ∙ ap (λ ws. p.0 ∷ ws) rest.2, ap (λ x. x ∷ map (λ w. number w.text) rest.0) p.3 ∙ ap (λ xs. Some n ∷ xs) rest.3)

same_rest : {A : Type 0} (x y : A) (xs ys : List A) → x ∷ xs ≡ y ∷ ys → xs ≡ ys
same_rest x y xs ys e = cc

same_first : {A : Type 0} (x y : A) (xs ys : List A) → x ∷ xs ≡ y ∷ ys → x ≡ y
same_first x y xs ys e = cc

begins_goes : (s : Stream) (front rest : List LineWord) (ns : List ℕ) → s.words ≡ front ++ rest → Spells front ns → (t : Stream) × Goes s ns t
begins_goes s [] rest [] at e = (s, refl)
begins_goes s [] rest (n ∷ ns) at e = absurd (cc)
begins_goes s (word ∷ words) rest [] at e = absurd (cc)
begins_goes s (word ∷ words) rest (n ∷ ns) at e =
    let behind = begins_goes (record { last = word.line; words = words ++ rest }) words rest ns refl (same_rest (number word.text) (Some n) (map (λ w. number w.text) words) (map Some ns) e) in
    (behind.0, (word, words ++ rest, at, same_first (number word.text) (Some n) (map (λ w. number w.text) words) (map Some ns) e, behind.1))

-- ---- steps

pub machine_goes : (machines : ℕ) (s : Stream) (x : ℕ × Stream) → machine_at machines s ≡ Ok x → Goes s (x.0 ∷ []) x.1 × (x.0 < machines)
unfolding machine_at
machine_goes machines s x e =
    then_ok (number_at s) _ x e (λ n read e.
    then_ok (check (nat_lt n.0.value machines) code.BadMachine n.0.line) _ x e (λ u holds e.
    let P : ℕ × Stream → Type 0 = λ z. Goes s (z.0 ∷ []) z.1 × (z.0 < machines) in
    subst P (same_ok (n.0.value, n.1) x e) (number_goes s n read, ltb-true n.0.value machines (check_ok _ code.BadMachine n.0.line u holds))))

goes_machine : (machines n : ℕ) (s t : Stream) → Goes s (n ∷ []) t → n < machines → machine_at machines s ≡ Ok (n, t)
unfolding machine_at
goes_machine machines n s t p below =
    ok_bind (number_at s) _ (record { value = n; line = t.last }, t) (n, t) (goes_number s t n p)
    (ok_bind (check (nat_lt n machines) code.BadMachine t.last) _ tt (n, t) (ok_check _ code.BadMachine t.last (lt-ltb n machines below)) refl)

pub step_goes : (machines total : ℕ) (s : Stream) (x : Step × Stream) → step_at machines total s ≡ Ok x →
    Goes s (x.0.machine ∷ x.0.time ∷ []) x.1 × IsStep machines x.0 × (total + x.0.time ≤ greatest_total)
unfolding step_at
step_goes machines total s x e =
    then_ok (machine_at machines s) _ x e (λ m first e.
    then_ok (duration_at total m.1) _ x e (λ p second e.
    let machine = machine_goes machines s m first in
    let time = duration_goes total m.1 p second in
    let P : Step × Stream → Type 0 = λ z. Goes s (z.0.machine ∷ z.0.time ∷ []) z.1 × IsStep machines z.0 × (total + z.0.time ≤ greatest_total) in
    subst P (same_ok (record { machine = m.0; time = p.0 }, p.1) x e) (goes_append s m.1 p.1 (m.0 ∷ []) (p.0 ∷ []) machine.0 time.0, (machine.1, time.1), time.2)))

goes_step : (machines total : ℕ) (step : Step) (s t : Stream) → Goes s (step.machine ∷ step.time ∷ []) t →
    IsStep machines step → total + step.time ≤ greatest_total → step_at machines total s ≡ Ok (step, t)
unfolding step_at
goes_step machines total step s t p is fits =
    let a = goes_split s t (step.machine ∷ []) (step.time ∷ []) p in
    ok_bind (machine_at machines s) _ (step.machine, a.0) (step, t) (goes_machine machines step.machine s a.0 a.1 is.0)
    (ok_bind (duration_at total a.0) _ (step.time, t) (step, t) (goes_duration total step.time a.0 t a.2 is.1 fits) refl)

-- ---- jobs

-- the steps of a job after other steps of it; earlier is the sum of the times of the jobs before
record AreSteps (machines more earlier : ℕ) (before new : List Step) (s t : Stream) : Type 0 where
  count : length new ≡ more
  goes : Goes s (job_numbers new) t
  each : AllByRecursion (IsStep machines) new
  total : earlier + time_of before + time_of new ≤ greatest_total

steps_goes : (machines total more : ℕ) (before : List Step) (s : Stream) (x : List Step × Stream) →
    total + time_of before ≤ greatest_total → steps_at machines total more before s ≡ Ok x →
    (new : List Step) × (x.0 ≡ before ++ new) × AreSteps machines more total before new s x.1
unfolding steps_at
steps_goes machines total zero before s x fits e =
    let P : List Step × Stream → Type 0 = λ z. (new : List Step) × (z.0 ≡ before ++ new) × AreSteps machines 0 total before new s z.1 in
    subst P (same_ok (before, s) x e) ([], sym (append-nil before), record { count = refl; goes = refl; each = tt; total = omega (arith, fits) })
steps_goes machines total (suc more) before s x fits e =
    then_ok (step_at machines (total + time_of before) s) _ x e (λ y read e.
    let one = step_goes machines (total + time_of before) s y read in
    let pushed = sum_by_push (λ (step : Step). step.time) before y.0 in
    let fits_now : total + time_of (before ++ y.0 ∷ []) ≤ greatest_total = omega (arith, pushed, one.2) in
    let rest = steps_goes machines total more (before ++ y.0 ∷ []) y.1 x fits_now e in
    let sums = sum_by-cons (λ (step : Step). step.time) y.0 rest.0 in (
      y.0 ∷ rest.0,
      rest.1 ∙ append_assoc before (y.0 ∷ []) rest.0,
      record {
        count = ap suc rest.2.count;
        goes = goes_append s y.1 x.1 (y.0.machine ∷ y.0.time ∷ []) (job_numbers rest.0) one.0 rest.2.goes;
        each = (one.1, rest.2.each);
        total = let total = rest.2.total in omega (arith, pushed, sums, total);
      },
    ))

goes_steps : (machines total : ℕ) (before new : List Step) (s t : Stream) → Goes s (job_numbers new) t →
    AllByRecursion (IsStep machines) new → total + time_of before + time_of new ≤ greatest_total →
    steps_at machines total (length new) before s ≡ Ok (before ++ new, t)
unfolding steps_at
goes_steps machines total before [] s t p each fits = ap (λ (u : Stream). Ok (before, u)) (sym p) ∙ ap (λ (xs : List Step). Ok (xs, t)) (sym (append-nil before))
goes_steps machines total before (step ∷ steps) s t p each fits =
    let a = goes_split s t (step.machine ∷ step.time ∷ []) (job_numbers steps) p in
    let pushed = sum_by_push (λ (step : Step). step.time) before step in
    let sums = sum_by-cons (λ (step : Step). step.time) step steps in
    ok_bind (step_at machines (total + time_of before) s) _ (step, a.0) (before ++ step ∷ steps, t) (goes_step machines (total + time_of before) step s a.0 a.1 each.0 (omega (arith, sums, fits)))
    (goes_steps machines total (before ++ step ∷ []) steps a.0 t a.2 each.1 (omega (arith, pushed, sums, fits)) ∙ ap (λ (xs : List Step). Ok (xs, t)) (append_assoc before (step ∷ []) steps))

-- the jobs after other jobs
record AreJobs (machines more : ℕ) (before new : List (List Step)) (s t : Stream) : Type 0 where
  count : length new ≡ more
  goes : Goes s (flat_map job_numbers new) t
  each : AllByRecursion (IsJob machines) new
  total : total_time before + total_time new ≤ greatest_total

jobs_goes : (machines more : ℕ) (before : List (List Step)) (s : Stream) (x : List (List Step) × Stream) →
    total_time before ≤ greatest_total → jobs_at machines more before s ≡ Ok x →
    (new : List (List Step)) × (x.0 ≡ before ++ new) × AreJobs machines more before new s x.1
unfolding jobs_at
jobs_goes machines zero before s x fits e =
    let P : List (List Step) × Stream → Type 0 = λ z. (new : List (List Step)) × (z.0 ≡ before ++ new) × AreJobs machines 0 before new s z.1 in
    subst P (same_ok (before, s) x e) ([], sym (append-nil before), record { count = refl; goes = refl; each = tt; total = omega (arith, fits) })
jobs_goes machines (suc more) before s x fits e =
    then_ok (steps_at machines (total_time before) machines [] s) _ x e (λ y read e.
    let job = steps_goes machines (total_time before) machines [] s y (omega (arith, fits)) read in
    let steps = job.2 in
    let same : job.0 ≡ y.0 = sym job.1 in
    let Spelled : List Step → Type 0 = λ j. Goes s (job_numbers j) y.1 × IsJob machines j × (total_time before + time_of j ≤ greatest_total) in
    let steps_total = steps.total in
    let one : Spelled y.0 = subst Spelled same (steps.goes, (steps.count, All-from_recursion (IsStep machines) job.0 steps.each), omega (arith, steps_total)) in
    let pushed = sum_by_push time_of before y.0 in
    let fits_now : total_time (before ++ y.0 ∷ []) ≤ greatest_total = omega (arith, pushed, one.2) in
    let rest = jobs_goes machines more (before ++ y.0 ∷ []) y.1 x fits_now e in
    let sums = sum_by-cons time_of y.0 rest.0 in (
      y.0 ∷ rest.0,
      rest.1 ∙ append_assoc before (y.0 ∷ []) rest.0,
      record {
        count = ap suc rest.2.count;
        goes = goes_append s y.1 x.1 (job_numbers y.0) (flat_map job_numbers rest.0) one.0 rest.2.goes;
        each = (one.1, rest.2.each);
        total = let total = rest.2.total in omega (arith, pushed, sums, total);
      },
    ))

goes_jobs : (machines : ℕ) (before new : List (List Step)) (s t : Stream) →
    Goes s (flat_map job_numbers new) t → AllByRecursion (IsJob machines) new →
    total_time before + total_time new ≤ greatest_total →
    jobs_at machines (length new) before s ≡ Ok (before ++ new, t)
unfolding jobs_at
goes_jobs machines before [] s t p each fits = ap (λ (u : Stream). Ok (before, u)) (sym p) ∙ ap (λ (xs : List (List Step)). Ok (xs, t)) (sym (append-nil before))
goes_jobs machines before (job ∷ jobs) s t p each fits =
    let a = goes_split s t (job_numbers job) (flat_map job_numbers jobs) p in
    let pushed = sum_by_push time_of before job in
    let sums = sum_by-cons time_of job jobs in
    let read = goes_steps machines (total_time before) [] job s a.0 a.1 (recursion_from_All (IsStep machines) job each.0.1) (omega (arith, sums, fits)) in
    let counted : steps_at machines (total_time before) machines [] s ≡ Ok (job, a.0) = ap (λ more. steps_at machines (total_time before) more [] s) (sym each.0.0) ∙ read in
    ok_bind (steps_at machines (total_time before) machines [] s) _ (job, a.0) (before ++ job ∷ jobs, t) counted
    (goes_jobs machines (before ++ job ∷ []) jobs a.0 t a.2 each.1 (omega (arith, pushed, sums, fits)) ∙ ap (λ (xs : List (List Step)). Ok (xs, t)) (append_assoc before (job ∷ []) jobs))

-- ---- shops

-- the words that were read begin with the numbers of the result
pub shop_spelled : (s : Stream) (d : Shop) → shop_at s ≡ Ok d → BeginsWith s.words (shop_numbers d) × IsShop d
unfolding shop_at
shop_spelled s d e =
    then_ok (limited_at 1 most_jobs s) _ d e (λ n first e.
    then_ok (limited_at 1 most_machines n.1) _ d e (λ m second e.
    then_ok (jobs_at m.0 n.0 [] m.1) _ d e (λ x third e.
    let jobs = limited_goes 1 most_jobs s n first in
    let machines = limited_goes 1 most_machines n.1 m second in
    let rows = jobs_goes m.0 n.0 [] m.1 x (omega arith) third in
    let are = rows.2 in
    let Counted : ℕ → Type 0 = λ k. Goes s (k ∷ []) n.1 × (1 ≤ k) × (k ≤ most_jobs) in
    let counted : Counted (length rows.0) = subst Counted (sym are.count) jobs in
    let total = are.total in
    let new : Shop = record { machines = m.0; jobs = rows.0 } in
    let same : new ≡ d = ap (λ (jobs : List (List Step)). let shop : Shop = record { machines = m.0; jobs = jobs } in shop) (sym rows.1) ∙ same_ok (record { machines = m.0; jobs = x.0 }) d e in
    let P : Shop → Type 0 = λ shop. BeginsWith s.words (shop_numbers shop) × IsShop shop in
    let whole = goes_append s n.1 x.1 (length rows.0 ∷ []) (m.0 ∷ flat_map job_numbers rows.0) counted.0 (goes_append n.1 m.1 x.1 (m.0 ∷ []) (flat_map job_numbers rows.0) machines.0 are.goes) in
    subst P same (
      goes_begins s x.1 (shop_numbers new) whole,
      record {
        jobs = (counted.1, counted.2);
        machines = (machines.1, machines.2);
        steps = All-from_recursion (IsJob m.0) rows.0 are.each;
        total = omega (arith, total);
      },
    ))))

-- words that begin with the numbers of a shop are read as that shop
pub shop_read : (s : Stream) (d : Shop) → BeginsWith s.words (shop_numbers d) → IsShop d → shop_at s ≡ Ok d
unfolding shop_at
shop_read s d begins is =
    let all = begins_goes s begins.0 begins.1 (shop_numbers d) begins.2 begins.3 in
    let a = goes_split s all.0 (length d.jobs ∷ []) (d.machines ∷ flat_map job_numbers d.jobs) all.1 in
    let b = goes_split a.0 all.0 (d.machines ∷ []) (flat_map job_numbers d.jobs) a.2 in
    let total = is.total in
    ok_bind (limited_at 1 most_jobs s) _ (length d.jobs, a.0) d (goes_limited 1 most_jobs (length d.jobs) s a.0 a.1 is.jobs.0 is.jobs.1)
    (ok_bind (limited_at 1 most_machines a.0) _ (d.machines, b.0) d (goes_limited 1 most_machines d.machines a.0 b.0 b.1 is.machines.0 is.machines.1)
    (ok_bind (jobs_at d.machines (length d.jobs) [] b.0) _ (d.jobs, all.0) d
    (goes_jobs d.machines [] d.jobs b.0 all.0 b.2 (recursion_from_All (IsJob d.machines) d.jobs is.steps)
    (omega (arith, total))) refl))

-- a fact of all jobs is a fact of the job at k
pub job_at_good : {X : Type 0} (P : List Step → Type 0) (items : X → List Step) (rows : List X) (k : ℕ)
    (row : X) → row ≡ get_or rows k row → k < length (map items rows) → All P (map items rows) → P (items row)
job_at_good P items rows k row is below all =
    let counted = length-map rows items in
    let same : get_or (map items rows) k (items row) ≡ items row = get_or-map items rows k row (items row) (omega (arith, counted, below)) ∙ ap items (sym is) in
    subst P same (all k (items row) below)
