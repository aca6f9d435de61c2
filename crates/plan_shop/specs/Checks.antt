-- Results of the parts of a check of the starts of a shop. No public clause cites these words
-- (docs/definitions.md, "Job shops").
use Rattle.std.specs.Prelude.{◌≡◌, ℕ, suc, ◌+◌, ◌≤◌, ◌<◌, ◌⊎◌, List, slice_index}
use Rattle.plan_sgs.specs.Verdicts.{IsOver}
use Rattle.plan_shop.specs.Shop.{JobShop, count_steps, time_of, machine_of, job_of, problem_of}

-- step x + 1 belongs to the job of step x and starts too soon
abbrev pub IsBrokenAfter : JobShop → List ℕ → ℕ → Type 0
IsBrokenAfter s starts x =
    (job_of s (suc x) ≡ job_of s x)
    × (slice_index starts (suc x) < slice_index starts x + time_of s x)

-- a step is under way on a machine at an instant
abbrev pub IsUnderWayAt : JobShop → List ℕ → ℕ → ℕ → ℕ → Type 0
IsUnderWayAt s starts t m x =
    (machine_of s x ≡ m) × (slice_index starts x ≤ t) × (t < slice_index starts x + time_of s x)

-- the least machine that is overloaded at an instant
abbrev pub IsLeastOver : JobShop → List ℕ → ℕ → ℕ → Type 0
IsLeastOver s starts t m =
    IsOver (problem_of s) starts t m × ((l : ℕ) → IsOver (problem_of s) starts t l → m ≤ l)

-- an instant is the end of the predecessor of step x in its job, or 0 if x is the first step
pub record IsReleaseOf (s : JobShop) (starts : List ℕ) (x r : ℕ) : Type 0 where
  pub above : (y : ℕ) → suc y ≡ x → job_of s x ≡ job_of s y → slice_index starts y + time_of s y ≤ r
  pub reached : (r ≡ 0)
      ⊎ ((y : ℕ) × (suc y ≡ x) × (job_of s x ≡ job_of s y)
      × (r ≡ slice_index starts y + time_of s y))

-- if step x of positive time started at t, it would overlap step y on their machine, and y starts
-- before the old start of x
abbrev pub IsInTheWay : JobShop → List ℕ → ℕ → ℕ → ℕ → Type 0
IsInTheWay s starts x t y =
    (machine_of s y ≡ machine_of s x) × (0 < time_of s x) × (0 < time_of s y)
    × (slice_index starts y < slice_index starts x) × (slice_index starts y < t + time_of s x)
    × (t < slice_index starts y + time_of s y)

-- the end of a step that is in the way of step x
abbrev pub IsEndInTheWay : JobShop → List ℕ → ℕ → ℕ → ℕ → Type 0
IsEndInTheWay s starts x t e =
    (y : ℕ) × (y < count_steps s) × IsInTheWay s starts x t y
    × (e ≡ slice_index starts y + time_of s y)
