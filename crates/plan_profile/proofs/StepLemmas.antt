-- The amounts of steps at an instant, and at the instant before a change.
use Rattle.std.proofs.Common.{◌≡◌, ℕ, zero, suc, ◌+◌, ◌≤◌, ◌<◌, List, length, get_or, refl, sym, ◌∙◌, ap, arith}
use Rattle.plan_profile.specs.Usage.{IsRising, used_before}
use Rattle.plan_profile.specs.Steps.{changes_until, amount_at, amount, IsSteps}
use Rattle.plan_profile.proofs.SegmentLemmas.{until_above, until_change, until_before}

pub amount_row : (changes : List ℕ) (rows : List (List ℕ)) (t k : ℕ) → amount changes rows t k ≡ amount_at rows (changes_until changes t) k
unfolding amount
amount_row changes rows t k = refl

-- the amounts at an instant with i changes up to it are those of row i
pub amount_is : (changes : List ℕ) (rows : List (List ℕ)) (t k i : ℕ) → changes_until changes t ≡ i → amount changes rows t k ≡ amount_at rows i k
amount_is changes rows t k i e = amount_row changes rows t k ∙ ap (λ n. amount_at rows n k) e

-- the changes before change i are those with lower indices
pub until_just_before : (changes : List ℕ) (i t : ℕ) → IsRising changes → i < length changes → t + 1 ≡ get_or changes i 0 → changes_until changes t ≡ i
until_just_before changes i t rising inside e =
    let most : changes_until changes t ≤ i = until_before changes t i rising inside (omega arith) in
    let least : i ≤ changes_until changes t = until_above changes t i (omega arith) (λ j below. let r = rising j i below inside in omega arith) in
    omega arith

-- before change i the amounts are those of row i
pub before_change : (changes : List ℕ) (rows : List (List ℕ)) (i t k : ℕ) → IsSteps changes rows → i < length changes → get_or changes i 0 ≡ t
    → used_before (amount changes rows) t k ≡ amount_at rows i k
before_change changes rows zero zero k steps inside is = sym (steps.none_first k)
before_change changes rows (suc i) zero k steps inside is = let r = steps.rising 0 (suc i) (omega arith) inside in absurd (omega arith)
before_change changes rows i (suc t) k steps inside is =
    amount_is changes rows t k i (until_just_before changes i t steps.rising inside (omega arith))

-- from change i on, until the next, the amounts are those of row i + 1
pub from_change : (changes : List ℕ) (rows : List (List ℕ)) (i t k : ℕ) → IsSteps changes rows → i < length changes → get_or changes i 0 ≡ t
    → amount changes rows t k ≡ amount_at rows (i + 1) k
from_change changes rows i t k steps inside is =
    amount_is changes rows t k (i + 1) (ap (changes_until changes) (sym is) ∙ until_change changes i steps.rising inside)
