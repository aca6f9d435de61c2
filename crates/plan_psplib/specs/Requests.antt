-- The requests section and the availabilities (docs/definitions.md, "Files").
use Rattle.std.specs.Prelude.{ℕ, zero, suc, ◌+◌, List, [], ◌∷◌, ◌++◌, Result, Ok, map, sum}
use Rattle.plan_psplib.specs.declared.text.fault.FileCode.TheVariants as code
use Rattle.plan_psplib.specs.declared.text.fault.Fault.{Fault}
use Rattle.plan_psplib.specs.declared.sm.requests.Request as declared
use Rattle.plan_psplib.specs.declared.sm.requests.Requests as declared_requests
use Rattle.plan_psplib.specs.Streams.{Stream}
use Rattle.plan_psplib.specs.Tokens.{◌>>=◌, greatest, duration_at, expect_at, within_at, end_at}

-- the request of a job: its duration, and its need for each resource
pub record Request : Type 0 where
  pub duration : ℕ
  pub needs : List ℕ

-- the requests of the jobs, in order: their durations and their needs
pub record Requests : Type 0 where
  pub durations : List ℕ
  pub needs : List (List ℕ)

-- the same, as the program keeps them
abbrev pub request_of : declared.Request → Request
request_of r = record { duration = r.duration; needs = r.needs.items }

abbrev pub requests_of : declared_requests.Requests → Requests
requests_of r = record { durations = r.durations.items; needs = map (λ row. row.items) r.needs.items }

-- as many more amounts, after those before
unfoldable pub amounts_at : ℕ → List ℕ → Stream → Result (List ℕ × Stream) Fault
amounts_at zero before s = Ok (before, s)
amounts_at (suc more) before s = do
  amount ← within_at greatest s
  amounts_at more (before ++ amount.0 ∷ []) amount.1

-- the row of a job: its number, the mode 1, its duration, its amounts of k resources
unfoldable pub request_row_at : ℕ → ℕ → ℕ → Stream → Result (Request × Stream) Fault
request_row_at k job total s = do
  mode ← expect_at job code.JobOrder s
  time ← expect_at 1 code.Modes mode
  duration ← duration_at total time
  needs ← amounts_at k [] duration.1
  Ok (record { duration = duration.0; needs = needs.0 }, needs.1)

-- rows with one more at the end
abbrev pub with_row : Requests → Request → Requests
with_row rows row = record { durations = rows.durations ++ row.duration ∷ []; needs = rows.needs ++ row.needs ∷ [] }

-- the rows of as many jobs, from one job on, after the rows before
unfoldable pub request_rows_at : ℕ → ℕ → ℕ → Requests → Stream → Result (Requests × Stream) Fault
request_rows_at k zero job rows s = Ok (rows, s)
request_rows_at k (suc more) job rows s = do
  row ← request_row_at k job (sum rows.durations) s
  request_rows_at k more (job + 1) (with_row rows row.0) row.1

-- the requests of n jobs for k resources, from the whole section
unfoldable pub requests : ℕ → ℕ → Stream → Result Requests Fault
requests n k s = do
  rows ← request_rows_at k n 1 (record { durations = []; needs = [] }) s
  nothing_left ← end_at rows.1
  Ok rows.0

-- the availabilities of k resources, from the whole section
unfoldable pub availabilities : ℕ → Stream → Result (List ℕ) Fault
availabilities k s = do
  amounts ← amounts_at k [] s
  nothing_left ← end_at amounts.1
  Ok amounts.0
