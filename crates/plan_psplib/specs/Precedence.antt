-- The precedence section (docs/definitions.md, "Files").
use Rattle.std.specs.Prelude.{◌≡◌, ℕ, zero, suc, ◌+◌, ◌<◌, ◌==◌, ◌&&◌, Bool, length, slice_index, List, [], ◌∷◌, ◌++◌, Result, Ok, nat_le, not}
use Rattle.std.specs.List.{list_any}
use Rattle.plan_net.specs.Successors.{arcs_from}
use Rattle.plan_psplib.specs.declared.text.fault.FileCode.TheVariants as code
use Rattle.plan_psplib.specs.declared.text.fault.Fault.{Fault}
use Rattle.plan_psplib.specs.Streams.{Stream}
use Rattle.plan_psplib.specs.Tokens.{◌>>=◌, LineNumber, check, number_at, expect_at, end_at}

-- the next word, which must be the number of one of n jobs
unfoldable pub job_at : ℕ → Stream → Result (LineNumber × Stream) Fault
job_at n s = do
  job ← number_at s
  inside ← check (nat_le 1 job.0.value && nat_le job.0.value n) code.JobOrder job.0.line
  Ok job

-- the job is in the list
abbrev pub is_among : List ℕ → ℕ → Bool
is_among jobs job = list_any (λ other. other == job) jobs

-- the next word, which must be one of n jobs that the row hasn't named before
unfoldable pub successor_at : ℕ → List ℕ → Stream → Result (ℕ × Stream) Fault
successor_at n before s = do
  job ← job_at n s
  new ← check (not (is_among before job.0.value)) code.Double job.0.line
  Ok (job.0.value, job.1)

-- as many more successors, after those that the row has named before
unfoldable pub successors_at : ℕ → ℕ → List ℕ → Stream → Result (List ℕ × Stream) Fault
successors_at n zero before s = Ok (before, s)
successors_at n (suc more) before s = do
  next ← successor_at n before s
  successors_at n more (before ++ next.0 ∷ []) next.1

-- the row of a job: its number, the number of modes (1), the number of successors, the successors
unfoldable pub precedence_row_at : ℕ → ℕ → Stream → Result (List ℕ × Stream) Fault
precedence_row_at n job s = do
  modes ← expect_at job code.JobOrder s
  count ← expect_at 1 code.Modes modes
  successors ← number_at count
  successors_at n successors.0.value [] successors.1

-- the rows of as many jobs, from one job on, after the arcs of the rows before
unfoldable pub precedence_rows_at : ℕ → ℕ → ℕ → List (ℕ × ℕ) → Stream → Result (List (ℕ × ℕ) × Stream) Fault
precedence_rows_at n zero job arcs s = Ok (arcs, s)
precedence_rows_at n (suc more) job arcs s = do
  row ← precedence_row_at n job s
  precedence_rows_at n more (job + 1) (arcs ++ arcs_from job row.0) row.1

-- the arcs of the whole section
unfoldable pub precedence : ℕ → Stream → Result (List (ℕ × ℕ)) Fault
precedence n s = do
  rows ← precedence_rows_at n n 1 [] s
  nothing_left ← end_at rows.1
  Ok rows.0

-- marks by job: those of the jobs that a row has named are the number of the row, no other mark is
abbrev pub AreMarks : ℕ → List ℕ → List ℕ → Type 0
AreMarks row marks jobs = (job : ℕ) → job < length marks → (slice_index marks job == row) ≡ is_among jobs job

-- each mark is less than n
abbrev pub AreBelow : ℕ → List ℕ → Type 0
AreBelow n marks = (job : ℕ) → job < length marks → slice_index marks job < n
