-- The network of a table within the limits.
use Rattle.std.proofs.Common.{◌≡◌, ℕ, zero, suc, ◌+◌, ◌-◌, ◌≤◌, List, [], ◌∷◌, length, slice_index, sym, subst, ◌∙◌, arith}
use Rattle.std.specs.List.{AllByRecursion}
use Rattle.std.proofs.lemmas.List.{length-map}
use Rattle.std.proofs.lemmas.List.Sums.{sum_by-take-le}
use Rattle.plan_net.specs.Network.{unlagged}
use Rattle.plan_net.specs.Limits.{HasGoodSize, HasGoodDurations}
use Rattle.plan_net.specs.Successors.{AreRows}
use Rattle.plan_table.specs.Table.{Table}
use Rattle.plan_table.specs.Jobs.{table_jobs, durations_of, rows_of, capacities_of}
use Rattle.plan_table.specs.Limits.{IsWithinLimits}
use Rattle.plan_table.proofs.JobLemmas.{jobs_count}
use Rattle.plan_table.proofs.GoodJobLemmas.{good_jobs, jobs_total}
use Rattle.plan_table.proofs.LawLemmas.{job_rows, job_durations}

durations_count : (t : Table) → length (durations_of (table_jobs t)) ≡ length t.activities + 2
durations_count t = length-map (table_jobs t) (λ job. job.duration) ∙ jobs_count t.activities (length (capacities_of t.resources))

small_get : (xs : List ℕ) (k : ℕ) → AllByRecursion (λ x. x ≤ 10000) xs → slice_index xs k ≤ 10000
small_get [] k h = omega arith
small_get (x ∷ xs) zero h = h.0
small_get (x ∷ xs) (suc k) h = small_get xs k h.1

pub table_size : (t : Table) → IsWithinLimits t → HasGoodSize (unlagged (durations_of (table_jobs t)) [])
table_size t limits = let n = durations_count t in let rows = limits.rows in (omega (arith, n), omega (arith, n, rows))

pub table_durations : (t : Table) → IsWithinLimits t → HasGoodDurations (unlagged (durations_of (table_jobs t)) [])
table_durations t limits j active =
    let part = sum_by-take-le (λ n. n) (durations_of (table_jobs t)) j in
    let whole = jobs_total t in
    let total = limits.total in (
      small_get (durations_of (table_jobs t)) (j - 1) (job_durations (length t.activities + 2) (length (capacities_of t.resources)) (table_jobs t) (good_jobs t limits)),
      omega (arith, part, whole, total),
    )

pub table_rows : (t : Table) → IsWithinLimits t → AreRows (length (durations_of (table_jobs t))) (rows_of (table_jobs t))
table_rows t limits =
    let n = durations_count t in
    let rows = job_rows (length t.activities + 2) (length (capacities_of t.resources)) (table_jobs t) (good_jobs t limits) in
    subst (λ m. AreRows m (rows_of (table_jobs t))) (sym n) (record {
      whole = length-map (table_jobs t) (λ job. job.successors) ∙ jobs_count t.activities (length (capacities_of t.resources));
      each = rows;
    })
