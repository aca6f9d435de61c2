-- The jobs of a table within the limits: their successors, durations and needs.
use Rattle.std.proofs.Common.{◌≡◌, ℕ, zero, suc, ◌+◌, ◌≤◌, Bool, true, false, List, [], ◌∷◌, ◌++◌, length, map, replicate, sum, refl, sym, ◌∙◌, arith, cond}
use Rattle.std.specs.Prelude.{nat_eq}
use Rattle.std.specs.List.{AllByRecursion, IsDistinct, sum_by}
use Rattle.std.proofs.lemmas.Bool.{ne_eqb}
use Rattle.std.proofs.lemmas.List.{length-map, length-replicate}
use Rattle.std.proofs.lemmas.List.Sums.{sum_by-cons}
use Rattle.plan_net.specs.Successors.{IsRow}
use Rattle.plan_psplib.specs.Says.{IsNeeds}
use Rattle.plan_table.specs.Numbered.{numbered}
use Rattle.plan_table.specs.Table.{Activity, Resource, Table}
use Rattle.plan_table.specs.Jobs.{Job, job_of, table_jobs, durations_of, dummy, is_first, follows, numbers_where, or_last, last_job_of, or_zero, capacities_of}
use Rattle.plan_table.specs.Limits.{IsEntry, IsSupply, IsWithinLimits}
use Rattle.plan_table.specs.ProjectText.{horizon_of}
use Rattle.plan_table.proofs.JobLemmas.{all_jobs, where_short, or_last_short}

all_along : {A : Type 0} (P Q : A → Type 0) → ((x : A) → P x → Q x) → (xs : List A) → AllByRecursion P xs → AllByRecursion Q xs
all_along P Q f [] h = tt
all_along P Q f (x ∷ xs) h = (f x h.0, all_along P Q f xs h.1)

-- ---- rows of successors

-- numbers of a list, from n on
abbrev Between : ℕ → ℕ → ℕ → Type 0
Between n m j = (n ≤ j) × (j ≤ m)

-- the numbers of the activities that pass lie from n on, and none stands twice
where_row : (test : Activity → Bool) (n m : ℕ) (xs : List Activity) → n + length xs ≤ m + 1 →
    AllByRecursion (Between n m) (numbered (λ j a. cond (test a) (j ∷ []) []) n xs) × IsDistinct nat_eq (numbered (λ j a. cond (test a) (j ∷ []) []) n xs)
unfolding IsDistinct
where_row test n m [] fits = (tt, tt)
where_row test n m (x ∷ xs) fits = by_test (where_row test (n + 1) m xs (omega (arith, fits))) (test x)
  where
    by_test : AllByRecursion (Between (n + 1) m) (numbered (λ j a. cond (test a) (j ∷ []) []) (n + 1) xs) × IsDistinct nat_eq (numbered (λ j a. cond (test a) (j ∷ []) []) (n + 1) xs) → (b : Bool) →
        AllByRecursion (Between n m) (cond b (n ∷ []) [] ++ numbered (λ j a. cond (test a) (j ∷ []) []) (n + 1) xs)
        × IsDistinct nat_eq (cond b (n ∷ []) [] ++ numbered (λ j a. cond (test a) (j ∷ []) []) (n + 1) xs)
    by_test further true = (
      ((omega arith, omega (arith, fits)), all_along (Between (n + 1) m) (Between n m) (λ j h. (omega (arith, h.0), h.1)) _ further.0),
      (all_along (Between (n + 1) m) (λ y. nat_eq n y ≡ false) (λ j h. ne_eqb n j (λ e. omega (arith, e, h.0))) _ further.0, further.1),
    )
    by_test further false = (all_along (Between (n + 1) m) (Between n m) (λ j h. (omega (arith, h.0), h.1)) _ further.0, further.1)

-- the numbers that pass are a row of successors
row_of_numbers : (test : Activity → Bool) (all : List Activity) → IsRow (length all + 2) (numbers_where test all)
row_of_numbers test all =
    let h = where_row test 2 (length all + 2) all (omega arith) in
    (all_along (Between 2 (length all + 2)) (Between 1 (length all + 2)) (λ j b. (omega (arith, b.0), b.1)) _ h.0, h.1)

row_or_last : (n : ℕ) (js : List ℕ) → 1 ≤ n → IsRow n js → IsRow n (or_last n js)
unfolding IsDistinct
row_or_last n [] some row = (((some, omega arith), tt), (tt, tt))
row_or_last n (j ∷ js) some row = row

-- a job of n, of k resources
pub record IsGoodJob (n k : ℕ) (job : Job) : Type 0 where
  pub row : IsRow n job.successors
  pub short : length job.successors ≤ 502
  pub duration : job.duration ≤ 10000
  pub needs : IsNeeds k job.needs

or_zero_small : (ns : List ℕ) → AllByRecursion (λ n. n ≤ 10000) ns → AllByRecursion (λ n. n ≤ 10000) (or_zero ns)
or_zero_small [] h = (omega arith, tt)
or_zero_small (n ∷ ns) h = h

or_zero_length : (ms ns : List ℕ) → length ms ≡ length ns → length (or_zero ms) ≡ length (or_zero ns)
or_zero_length [] [] e = refl
or_zero_length [] (n ∷ ns) e = absurd (omega (arith, e))
or_zero_length (m ∷ ms) [] e = absurd (omega (arith, e))
or_zero_length (m ∷ ms) (n ∷ ns) e = e

zeros_small : (k : ℕ) → AllByRecursion (λ n. n ≤ 10000) (replicate k 0)
zeros_small zero = tt
zeros_small (suc k) = (omega arith, zeros_small k)

-- the jobs of a table within the limits
pub good_jobs : (t : Table) → IsWithinLimits t → AllByRecursion (IsGoodJob (length t.activities + 2) (length (capacities_of t.resources))) (table_jobs t)
unfolding IsDistinct
good_jobs t limits =
    let all = t.activities in
    let n = length all + 2 in
    let k = length (capacities_of t.resources) in
    let few = limits.rows in
    let empty : IsRow n [] = (tt, tt) in
    all_jobs (IsGoodJob n k) (IsEntry (length all) (length t.resources)) all k
    (record { row = row_of_numbers is_first all; short = let s = where_short is_first 2 all in omega (arith, s, few); duration = omega arith; needs = (length-replicate k 0, zeros_small k) })
    (record { row = empty; short = omega arith; duration = omega arith; needs = (length-replicate k 0, zeros_small k) })
    (λ j a entry. record {
      row = row_or_last n (numbers_where (follows j) all) (omega arith) (row_of_numbers (follows j) all);
      short = or_last_short (last_job_of all) 502 (numbers_where (follows j) all) (omega arith) (let s = where_short (follows j) 2 all in omega (arith, s, few));
      duration = entry.duration;
      needs = (or_zero_length a.needs (map (λ r. r.capacity) t.resources) (entry.whole ∙ sym (length-map t.resources (λ r. r.capacity))), or_zero_small a.needs entry.needs);
    })
    limits.activities

-- the durations of the jobs in all are those of the activities
pub jobs_total : (t : Table) → sum (durations_of (table_jobs t)) ≡ horizon_of t.activities
jobs_total t =
    let rest = each 2 t.activities in
    let whole = sum_by-cons (λ n. n) 0 (durations_of (numbered (λ j a. job_of t.activities j a ∷ []) 2 t.activities ++ dummy [] (length (capacities_of t.resources)) ∷ [])) in
    omega (arith, rest, whole)
  where
    each : (n : ℕ) (xs : List Activity) →
        sum (durations_of (numbered (λ j a. job_of t.activities j a ∷ []) n xs ++ dummy [] (length (capacities_of t.resources)) ∷ [])) ≡ sum_by (λ a. a.duration) xs
    each n [] = refl
    each n (x ∷ xs) =
        let further = each (n + 1) xs in
        let left = sum_by-cons (λ n. n) x.duration (durations_of (numbered (λ j a. job_of t.activities j a ∷ []) (n + 1) xs ++ dummy [] (length (capacities_of t.resources)) ∷ [])) in
        let right = sum_by-cons (λ (a : Activity). a.duration) x xs in
        omega (arith, further, left, right)

-- ---- resources

capacities_small : (rs : List Resource) → AllByRecursion IsSupply rs → AllByRecursion (λ n. n ≤ 10000) (map (λ r. r.capacity) rs)
capacities_small [] h = tt
capacities_small (r ∷ rs) h = (h.0.capacity, capacities_small rs h.1)

pub good_capacities : (t : Table) → IsWithinLimits t → AllByRecursion (λ n. n ≤ 10000) (capacities_of t.resources)
good_capacities t limits = or_zero_small (map (λ r. r.capacity) t.resources) (capacities_small t.resources limits.resources)

or_zero_some : (ns : List ℕ) → length ns ≤ 16 → (1 ≤ length (or_zero ns)) × (length (or_zero ns) ≤ 16)
or_zero_some [] few = (omega arith, omega arith)
or_zero_some (n ∷ ns) few = (omega arith, few)

pub capacities_fit : (t : Table) → IsWithinLimits t → (1 ≤ length (capacities_of t.resources)) × (length (capacities_of t.resources) ≤ 16)
capacities_fit t limits =
    let size : length (map (λ r. r.capacity) t.resources) ≡ length t.resources = length-map t.resources (λ r. r.capacity) in
    let few = limits.columns in
    or_zero_some (map (λ r. r.capacity) t.resources) (omega (arith, size, few))
