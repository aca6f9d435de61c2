-- The place of the next word of a section, by the numbers before it: whole rows of the first jobs,
-- and the first numbers of the row of the next job (docs/definitions.md, "Files").
use Rattle.std.specs.Prelude.{◌≡◌, ◌⊎◌, ℕ, ◌+◌, ◌<◌, ◌≤◌, List, [], ◌∷◌, ◌++◌, length, sum}
use Rattle.std.specs.List.{AllByRecursion}
use Rattle.plan_net.specs.Successors.{IsRow}
use Rattle.plan_psplib.specs.Says.{IsNeeds, precedence_numbers, request_numbers}
use Rattle.plan_psplib.specs.Tokens.{greatest, greatest_total}

-- ---- the precedence section of n jobs

-- the rows of the jobs before this one, and these numbers of its own row
abbrev pub IsInRow : ℕ → List ℕ → ℕ → List ℕ → Type 0
IsInRow n before job own = (rows : List (List ℕ)) × (job ≡ length rows + 1) × (job ≤ n)
    × AllByRecursion (IsRow n) rows × (before ≡ precedence_numbers 1 rows ++ own)

-- the next word is the number of this job
abbrev pub IsAtJob : ℕ → List ℕ → ℕ → Type 0
IsAtJob n before job = IsInRow n before job []

-- the next word is a number of modes
abbrev pub IsAtModes : ℕ → List ℕ → Type 0
IsAtModes n before = (job : ℕ) × IsInRow n before job (job ∷ [])

-- the next word is a number of successors
abbrev pub IsAtCount : ℕ → List ℕ → Type 0
IsAtCount n before = (job : ℕ) × IsInRow n before job (job ∷ 1 ∷ [])

-- the next word is a successor: the row has listed these, and has more
abbrev pub IsAtSuccessor : ℕ → List ℕ → List ℕ → Type 0
IsAtSuccessor n before listed = (job : ℕ) × (count : ℕ)
    × IsInRow n before job (job ∷ 1 ∷ count ∷ listed) × (length listed < count) × IsRow n listed

-- a next word is missing
abbrev pub IsBegunPrecedence : ℕ → List ℕ → Type 0
IsBegunPrecedence n before = ((job : ℕ) × IsAtJob n before job) ⊎ IsAtModes n before
    ⊎ IsAtCount n before ⊎ ((listed : List ℕ) × IsAtSuccessor n before listed)

-- no word is missing: the rows of n jobs
abbrev pub IsWholePrecedence : ℕ → List ℕ → Type 0
IsWholePrecedence n before = (rows : List (List ℕ)) × (length rows ≡ n)
    × AllByRecursion (IsRow n) rows × (before ≡ precedence_numbers 1 rows)

-- ---- the requests section of n jobs and k resources

-- durations within their limits, and as many rows of needs
abbrev pub AreRequests : ℕ → List ℕ → List (List ℕ) → Type 0
AreRequests k durations needs = (length needs ≡ length durations)
    × AllByRecursion (λ duration. duration ≤ greatest) durations × (sum durations ≤ greatest_total)
    × AllByRecursion (IsNeeds k) needs

-- the rows of the jobs before this one, with these durations, and these numbers of its own row
abbrev pub IsInRequest : ℕ → ℕ → List ℕ → ℕ → List ℕ → List ℕ → Type 0
IsInRequest n k before job durations own = (needs : List (List ℕ))
    × (job ≡ length durations + 1) × (job ≤ n) × AreRequests k durations needs
    × (before ≡ request_numbers 1 durations needs ++ own)

-- the next word is the number of this job
abbrev pub IsAtRequest : ℕ → ℕ → List ℕ → ℕ → Type 0
IsAtRequest n k before job = (durations : List ℕ) × IsInRequest n k before job durations []

-- the next word is a mode
abbrev pub IsAtMode : ℕ → ℕ → List ℕ → Type 0
IsAtMode n k before = (job : ℕ) × (durations : List ℕ)
    × IsInRequest n k before job durations (job ∷ [])

-- the next word is a duration, after these
abbrev pub IsAtDuration : ℕ → ℕ → List ℕ → List ℕ → Type 0
IsAtDuration n k before durations = (job : ℕ) × IsInRequest n k before job durations (job ∷ 1 ∷ [])

-- amounts of some of k resources
abbrev pub AreFirstAmounts : ℕ → List ℕ → Type 0
AreFirstAmounts k amounts = (length amounts < k)
    × AllByRecursion (λ amount. amount ≤ greatest) amounts

-- the next word is a need
abbrev pub IsAtNeed : ℕ → ℕ → List ℕ → Type 0
IsAtNeed n k before = (job : ℕ) × (durations : List ℕ) × (duration : ℕ) × (needs : List ℕ)
    × IsInRequest n k before job durations (job ∷ 1 ∷ duration ∷ needs)
    × (duration ≤ greatest) × (sum durations + duration ≤ greatest_total) × AreFirstAmounts k needs

-- a next word is missing
abbrev pub AreBegunRequests : ℕ → ℕ → List ℕ → Type 0
AreBegunRequests n k before = ((job : ℕ) × IsAtRequest n k before job) ⊎ IsAtMode n k before
    ⊎ ((durations : List ℕ) × IsAtDuration n k before durations) ⊎ IsAtNeed n k before

-- no word is missing: the rows of n jobs
abbrev pub AreWholeRequests : ℕ → ℕ → List ℕ → Type 0
AreWholeRequests n k before = (durations : List ℕ) × (needs : List (List ℕ))
    × (length durations ≡ n) × AreRequests k durations needs
    × (before ≡ request_numbers 1 durations needs)
