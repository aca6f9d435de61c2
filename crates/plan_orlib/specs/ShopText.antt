-- Reading of a job shop text in order: its shop, or the first check that fails
-- (docs/definitions.md, "Job shop files").
use Rattle.std.specs.Prelude.{◌≡◌, ℕ, zero, suc, ◌+◌, List, [], ◌∷◌, ◌++◌, Option, Some, None, Result, Ok, Err, nat_lt}
use Rattle.plan_psplib.specs.declared.text.fault.FileCode.TheVariants as code
use Rattle.plan_psplib.specs.declared.text.fault.Fault.{Fault}
use Rattle.plan_psplib.specs.declared.text.fault.FileFault.{FileFault}
use Rattle.plan_psplib.specs.Lines.{last_line}
use Rattle.plan_psplib.specs.Streams.{Stream}
use Rattle.plan_psplib.specs.Tokens.{◌>>=◌, fault, check, number_at, limited_at, duration_at}
use Rattle.plan_psplib.specs.Plain.{plain}
use Rattle.plan_orlib.specs.declared.steps.Step.{Step}
use Rattle.plan_orlib.specs.Instances.{stream_of, names_of}
use Rattle.plan_orlib.specs.Shop.{Shop, most_jobs, most_machines, time_of, total_time}

-- the next word, which must be the number of one of the machines, counted from 0
unfoldable pub machine_at : ℕ → Stream → Result (ℕ × Stream) Fault
machine_at machines s = do
  n ← number_at s
  known ← check (nat_lt n.0.value machines) code.BadMachine n.0.line
  Ok (n.0.value, n.1)

-- a machine and a time; total is the sum of the times before
unfoldable pub step_at : ℕ → ℕ → Stream → Result (Step × Stream) Fault
step_at machines total s = do
  machine ← machine_at machines s
  time ← duration_at total machine.1
  Ok (record { machine = machine.0; time = time.0 }, time.1)

-- as many more steps of a job, after those before; total is the sum of the times of earlier jobs
unfoldable pub steps_at : ℕ → ℕ → ℕ → List Step → Stream → Result (List Step × Stream) Fault
steps_at machines total zero before s = Ok (before, s)
steps_at machines total (suc more) before s = do
  step ← step_at machines (total + time_of before) s
  steps_at machines total more (before ++ step.0 ∷ []) step.1

-- as many more jobs, after those before, each with as many steps as there are machines
unfoldable pub jobs_at : ℕ → ℕ → List (List Step) → Stream → Result (List (List Step) × Stream) Fault
jobs_at machines zero before s = Ok (before, s)
jobs_at machines (suc more) before s = do
  job ← steps_at machines (total_time before) machines [] s
  jobs_at machines more (before ++ job.0 ∷ []) job.1

-- the number of jobs, the number of machines, and the steps; words after the last step aren't read
unfoldable pub shop_at : Stream → Result Shop Fault
shop_at s = do
  jobs ← limited_at 1 most_jobs s
  machines ← limited_at 1 most_machines jobs.1
  rows ← jobs_at machines.0 jobs.0 [] machines.1
  Ok (record { machines = machines.0; jobs = rows.0 })

abbrev pub found_stream : ℕ → Option Stream → Result Stream Fault
found_stream last None = fault code.NoInstance last
found_stream last (Some s) = Ok s

-- the stream of the first instance of a name in a text, or the first check that fails before it is
-- read
unfoldable pub located : List ℕ → List ℕ → Result Stream Fault
located name text = do
  text_good ← plain text
  found_stream (last_line text) (stream_of name text)

-- the shop of the first instance of a name in a text, or the first check that fails
unfoldable pub shop : List ℕ → List ℕ → Result Shop Fault
shop name text = do
  text_good ← plain text
  s ← found_stream (last_line text) (stream_of name text)
  shop_at s

-- the names of a text, or the first check that fails
unfoldable pub names : List ℕ → Result (List (List ℕ)) Fault
names text = do
  text_good ← plain text
  Ok (names_of text)

-- a reading ends with this fault
abbrev pub FailsWith : {A : Type 0} → Result A Fault → FileFault → Type 0
FailsWith read fault = (read ≡ Err (record { code = fault.code; line = fault.line })) × (fault.cycle.items ≡ [])
