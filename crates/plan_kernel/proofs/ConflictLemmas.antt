-- Conflicts: what their beginning, a resolution and their negation say.
use Rattle.std.proofs.Common.{◌≡◌, ℕ, ◌≤◌, ◌<◌, ◌⊎◌, inl, inr, List, Some, None, ap, arith}
use Rattle.std.proofs.lemmas.Bool.{cases_lt, cases_eq}
use Rattle.std.proofs.lemmas.List.Elements.{All-contains, All-weaker}
use Rattle.plan_kernel.specs.declared.literal.TheConstants.{LIMIT}
use Rattle.plan_kernel.specs.declared.literal.Literal.{Literal}
use Rattle.plan_kernel.specs.declared.input.Input.{Input}
use Rattle.plan_kernel.specs.Literals.{at, level, Fails, negated}
use Rattle.plan_kernel.specs.Clauses.{IsShorter, IsConsequence, AreFacts, IsConflict, IsRaised, IsCovered, IsClearedAt, Implies, IsNegated, HasAdded}
use Rattle.plan_kernel.proofs.LevelLemmas.{negated_holds, negated_fails}

-- where facts hold and a conflict's literals hold, a literal whose negation is covered fails
covered_fails : (input : Input) (upper : ℕ) (facts values starts : List ℕ) (l : Literal) → upper ≤ LIMIT → AreFacts input upper facts → IsShorter input upper starts
    → ((half : ℕ) → at values half ≤ level input starts half) → IsCovered facts values (negated l) → Fails input starts l
covered_fails input upper facts values starts l limit are short hold (inl fact) =
    negated_holds input upper starts l short limit (omega (arith, fact, are starts short (negated l).half))
covered_fails input upper facts values starts l limit are short hold (inr value) =
    negated_holds input upper starts l short limit (omega (arith, value, hold (negated l).half))

-- the negation of a clause is a conflict
pub begun : (input : Input) (upper : ℕ) (facts values : List ℕ) → upper ≤ LIMIT → AreFacts input upper facts → HasAdded input upper facts values None → IsConflict input upper values
begun input upper facts values limit are (clause, follows, covered) starts short hold =
    follows starts short (All-weaker (λ l. Implies l None ⊎ IsCovered facts values (negated l)) (Fails input starts) each clause covered) where
      each : (l : Literal) → Implies l None ⊎ IsCovered facts values (negated l) → Fails input starts l
      each l (inl never) = absurd never
      each l (inr is) = covered_fails input upper facts values starts l limit are short hold is

-- what is left of a conflict at a half, and the negation of a clause but for what implies the
-- literal at that half, are a conflict
pub resolved : (input : Input) (upper half value : ℕ) (facts old cleared new : List ℕ) → upper ≤ LIMIT → AreFacts input upper facts → IsConflict input upper old
    → value ≡ at old half → IsClearedAt old cleared half → IsRaised cleared new
    → HasAdded input upper facts new (Some (record { half = half; value = value })) → IsConflict input upper new
resolved input upper half value facts old cleared new limit are conflict is others raised (clause, follows, covered) starts short hold =
    elim (cases_lt (level input starts half) value) [
      | inr holds ↦ conflict starts short (λ other. elim (others other) [
        | inl same ↦ omega (arith, same, raised other, hold other)
        | inr here ↦ omega (arith, holds, is, ap (at old) here, ap (level input starts) here)
      ])
      | inl fails ↦ follows starts short (All-weaker (λ l. Implies l (Some pivot) ⊎ IsCovered facts new (negated l)) (Fails input starts) (each fails) clause covered)
    ] where
      pivot : Literal
      pivot = record { half = half; value = value }

      each : level input starts half < value → (l : Literal) → Implies l (Some pivot) ⊎ IsCovered facts new (negated l) → Fails input starts l
      each fails l (inl implies) = omega (arith, fails, implies.1, ap (level input starts) implies.0)
      each fails l (inr is') = covered_fails input upper facts new starts l limit are short hold is'

-- the negation of a conflict is a clause that holds
pub taught : (input : Input) (upper : ℕ) (values : List ℕ) (clause : List Literal) → upper ≤ LIMIT → IsConflict input upper values → IsNegated values clause → IsConsequence input upper clause
taught input upper values clause limit conflict negates starts short fail = conflict starts short hold where
  hold : (half : ℕ) → at values half ≤ level input starts half
  hold half = elim (cases_eq (at values half) 0) [
    | inl none ↦ omega (arith, none)
    | inr some ↦
        let l : Literal = record { half = half; value = at values half } in
        negated_fails input upper starts l short limit (All-contains (Fails input starts) clause (negated l) fail (negates half some))
  ]
