-- Clauses, facts and conflicts: what they say of all plans that cost less than an upper bound
-- (docs/definitions.md, "Clauses"). Conflict analysis as in Marques-Silva and Sakallah (1999).
use Rattle.std.specs.Prelude.{◌≡◌, ◌≢◌, ℕ, ◌≤◌, ◌<◌, ◌⊎◌, Bool, not, nat_eq, List, Option, Some, None, All, Contains}
use Rattle.plan_kernel.specs.declared.literal.Literal.{Literal}
use Rattle.plan_kernel.specs.declared.input.Input.{Input}
use Rattle.plan_kernel.specs.Plans.{IsPlan, cost}
use Rattle.plan_kernel.specs.Literals.{at, level, Fails, negated}

-- a plan that costs less than a number
pub record IsShorter (input : Input) (upper : ℕ) (starts : List ℕ) : Type 0 where
  pub plan : IsPlan input starts
  pub less : cost input starts < upper

-- a clause holds in each of them: not all of its literals fail
abbrev pub IsConsequence : Input → ℕ → List Literal → Type 0
IsConsequence input upper clause =
    (starts : List ℕ) → IsShorter input upper starts → All (Fails input starts) clause → ⊥

-- each fact holds in each of them
abbrev pub AreFacts : Input → ℕ → List ℕ → Type 0
AreFacts input upper facts =
    (starts : List ℕ) → IsShorter input upper starts
    → (half : ℕ) → at facts half ≤ level input starts half

-- the literals of a conflict hold together in none of them
abbrev pub IsConflict : Input → ℕ → List ℕ → Type 0
IsConflict input upper values =
    (starts : List ℕ) → IsShorter input upper starts
    → ((half : ℕ) → at values half ≤ level input starts half) → ⊥

-- there is none of them
abbrev pub NoneIsShorter : Input → ℕ → Type 0
NoneIsShorter input upper = (starts : List ℕ) → IsShorter input upper starts → ⊥

-- each half that isn't 0 is listed
abbrev pub IsListed : List ℕ → List ℕ → Type 0
IsListed values touched = (half : ℕ) → at values half ≢ 0 → Contains touched half

-- a half is another one
abbrev pub is_other : ℕ → ℕ → Bool
is_other half other = not (nat_eq other half)

-- no value has fallen
abbrev pub IsRaised : List ℕ → List ℕ → Type 0
IsRaised old new = (half : ℕ) → at old half ≤ at new half

-- a literal is a fact, or in the conflict
abbrev pub IsCovered : List ℕ → List ℕ → Literal → Type 0
IsCovered facts values l = (l.value ≤ at facts l.half) ⊎ (l.value ≤ at values l.half)

-- the value of a half is 0 now, and all others are as before
abbrev pub IsClearedAt : List ℕ → List ℕ → ℕ → Type 0
IsClearedAt old new half = (other : ℕ) → (at new other ≡ at old other) ⊎ (other ≡ half)

-- a literal implies the pivot, which is there
abbrev pub Implies : Literal → Option Literal → Type 0
Implies l None = ⊥
Implies l (Some pivot) = (l.half ≡ pivot.half) × (pivot.value ≤ l.value)

-- the negation of each literal of a clause is covered, unless it implies the pivot
abbrev pub AreCovered : List ℕ → List ℕ → Option Literal → List Literal → Type 0
AreCovered facts values pivot clause = All (λ l. Implies l pivot ⊎ IsCovered facts values (negated l)) clause

-- the negation of the literal of a half, if it has one, is in a clause
abbrev pub IsNegatedAt : List ℕ → List Literal → ℕ → Type 0
IsNegatedAt values clause half =
    at values half ≢ 0 → Contains clause (negated (record { half = half; value = at values half }))

-- those of some halves
abbrev pub AreNegated : List ℕ → List Literal → List ℕ → Type 0
AreNegated values clause halves = All (IsNegatedAt values clause) halves

-- the negation of each literal of a conflict is in a clause
abbrev pub IsNegated : List ℕ → List Literal → Type 0
IsNegated values clause = (half : ℕ) → IsNegatedAt values clause half

-- no fact is above its value of before, but at one half, where it is at most a value
abbrev pub IsRaisedTo : List ℕ → List ℕ → ℕ → ℕ → Type 0
IsRaisedTo old new half value =
    (other : ℕ) → (at new other ≤ at old other) ⊎ ((other ≡ half) × (at new other ≤ value))

-- the negation of some clause that holds was put in
abbrev pub HasAdded : Input → ℕ → List ℕ → List ℕ → Option Literal → Type 0
HasAdded input upper facts values pivot =
    (clause : List Literal) × IsConsequence input upper clause × AreCovered facts values pivot clause
