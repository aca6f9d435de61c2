-- The loops over the steps of a job, and over the jobs.
use Rattle.std.proofs.Common.{◌≡◌, ℕ, suc, ◌-◌, ◌+◌, ◌≤◌, ◌<◌, List, [], ◌∷◌, ◌++◌, Result, Ok, refl, sym}
use Rattle.plan_psplib.specs.declared.text.fault.Fault.{Fault}
use Rattle.plan_psplib.specs.declared.text.fault.ReadError.{ReadError}
use Rattle.plan_psplib.specs.Streams.{Stream}
use Rattle.plan_psplib.specs.Tokens.{◌>>=◌, Fails}
use Rattle.plan_psplib.proofs.LoopLemmas.{goes_on, fails, is_done}
use Rattle.plan_orlib.specs.declared.steps.Step.{Step}
use Rattle.plan_orlib.specs.Shop.{time_of, total_time}
use Rattle.plan_orlib.specs.ShopText.{step_at, steps_at, jobs_at}

-- the state of the loop over steps: the steps so far, and the rest of the stream
abbrev Steps : Type 0
Steps = List Step × Stream

module _ (machines total : ℕ) where
  abbrev other_steps : ℕ → Steps → Result (List Step × Stream) Fault
  other_steps k s = steps_at machines total k s.0 s.1

  abbrev one_step : Steps → Result (Step × Stream) Fault
  one_step s = step_at machines (total + time_of s.0) s.1

  abbrev behind_step : Steps → (Step × Stream) → Steps
  behind_step s v = (s.0 ++ v.0 ∷ [], v.1)

  steps-suc : (k : ℕ) (s : Steps) → other_steps (suc k) s ≡ (one_step s >>= λ v. other_steps k (behind_step s v))
  unfolding steps_at
  steps-suc k s = refl

  pub steps_go_on : (count i : ℕ) (before : List Step) (s : Stream) (step : Step) (after : Stream)
      (whole : Result (List Step × Stream) Fault) → i < count →
      step_at machines (total + time_of before) s ≡ Ok (step, after) →
      steps_at machines total (count - i) before s ≡ whole →
      steps_at machines total (count - (i + 1)) (before ++ step ∷ []) after ≡ whole
  steps_go_on count i before s step after whole = goes_on other_steps one_step behind_step steps-suc count i (before, s) (step, after) whole

  pub steps_fail : (e : ReadError) (count i : ℕ) (before : List Step) (s : Stream)
      (whole : Result (List Step × Stream) Fault) → i < count →
      Fails e (step_at machines (total + time_of before) s) →
      steps_at machines total (count - i) before s ≡ whole → Fails e whole
  steps_fail e count i before s whole = fails other_steps one_step behind_step steps-suc e count i (before, s) whole

  pub steps_done : (count i : ℕ) (before : List Step) (s : Stream)
      (whole : Result (List Step × Stream) Fault) → count ≤ i →
      steps_at machines total (count - i) before s ≡ whole → whole ≡ Ok (before, s)
  unfolding steps_at
  steps_done count i before s whole past is = sym (is_done other_steps one_step behind_step steps-suc count i (before, s) whole past is)

-- the state of the loop over jobs: the jobs so far, and the rest of the stream
abbrev Jobs : Type 0
Jobs = List (List Step) × Stream

module _ (machines : ℕ) where
  abbrev other_jobs : ℕ → Jobs → Result (List (List Step) × Stream) Fault
  other_jobs k s = jobs_at machines k s.0 s.1

  abbrev one_job : Jobs → Result (List Step × Stream) Fault
  one_job s = steps_at machines (total_time s.0) machines [] s.1

  abbrev behind_job : Jobs → (List Step × Stream) → Jobs
  behind_job s v = (s.0 ++ v.0 ∷ [], v.1)

  jobs-suc : (k : ℕ) (s : Jobs) → other_jobs (suc k) s ≡ (one_job s >>= λ v. other_jobs k (behind_job s v))
  unfolding jobs_at
  jobs-suc k s = refl

  pub jobs_go_on : (count i : ℕ) (before : List (List Step)) (s : Stream) (job : List Step) (after : Stream)
      (whole : Result (List (List Step) × Stream) Fault) → i < count →
      steps_at machines (total_time before) machines [] s ≡ Ok (job, after) →
      jobs_at machines (count - i) before s ≡ whole →
      jobs_at machines (count - (i + 1)) (before ++ job ∷ []) after ≡ whole
  jobs_go_on count i before s job after whole = goes_on other_jobs one_job behind_job jobs-suc count i (before, s) (job, after) whole

  pub jobs_fail : (e : ReadError) (count i : ℕ) (before : List (List Step)) (s : Stream)
      (whole : Result (List (List Step) × Stream) Fault) → i < count →
      Fails e (steps_at machines (total_time before) machines [] s) →
      jobs_at machines (count - i) before s ≡ whole → Fails e whole
  jobs_fail e count i before s whole = fails other_jobs one_job behind_job jobs-suc e count i (before, s) whole

  pub jobs_done : (count i : ℕ) (before : List (List Step)) (s : Stream)
      (whole : Result (List (List Step) × Stream) Fault) → count ≤ i →
      jobs_at machines (count - i) before s ≡ whole → whole ≡ Ok (before, s)
  unfolding jobs_at
  jobs_done count i before s whole past is = sym (is_done other_jobs one_job behind_job jobs-suc count i (before, s) whole past is)
