-- How the calls of a reader or a writer are counted (docs/definitions.md, "Devices").
use Rattle.std.specs.Prelude.{◌≡◌, ℕ, ◌+◌, ◌⊎◌, Result, is_ok, if◌then◌else◌}

-- the most calls that one whole read or write makes; without an end by then it fails
abbrev pub most_calls : ℕ
most_calls = 2113536

-- a call raised the count of calls by one, and the count of faults by one exactly if it failed
abbrev pub IsCounted : {A E : Type 0} → ℕ → ℕ → ℕ → ℕ → Result A E → Type 0
IsCounted calls calls_after faults faults_after result = (calls_after ≡ calls + 1) × (faults_after ≡ (if is_ok result then faults else faults + 1))

-- exactly one call failed, or no call failed and the limit of calls was reached
abbrev pub HasFailed : ℕ → ℕ → ℕ → ℕ → Type 0
HasFailed calls calls_after faults faults_after = (faults_after ≡ faults + 1) ⊎ ((faults_after ≡ faults) × (calls_after ≡ calls + most_calls))
