-- Verdicts on a list of starts: the first broken arc, else the first overload, else the first left
-- shift, else active (docs/definitions.md, "Schedules").
use Rattle.std.specs.Prelude.{◌≡◌, ℕ, ◌+◌, ◌-◌, ◌≤◌, ◌<◌, ◌⊎◌, List, length, get_or, All, Contains}
use Rattle.plan_sgs.specs.Problem.{Problem, Link, count, duration, capacity, usage, all_placed, KeepsArcs, IsFeasible, IsShift, IsActive}
use Rattle.plan_sgs.specs.declared.verdict.Verdict.{Verdict}
use Rattle.plan_sgs.specs.declared.verdict.Verdict.TheVariants.{Arc, Over, Shift, Active}

-- a list of starts breaks a link
abbrev pub Breaks : Problem → List ℕ → Link → Type 0
Breaks p s a = get_or s a.to 0 < get_or s a.from 0 + duration p a.from + a.lag

-- a pair of numbers is no later than another, ordered by the first number and then by the second
abbrev pub IsNoLater : ℕ → ℕ → ℕ → ℕ → Type 0
IsNoLater i j x y = (i < x) ⊎ ((i ≡ x) × (j ≤ y))

-- a link from i to j is broken, and no link before it, ordered by `from` and then by `to`
pub record IsFirstBroken (p : Problem) (s : List ℕ) (i j : ℕ) : Type 0 where
  pub broken : (a : Link) × Contains p.links a × Breaks p s a × (a.from ≡ i) × (a.to ≡ j)
  pub first : All (λ a. Breaks p s a → IsNoLater i j a.from a.to) p.links

-- the usage of resource k at t exceeds its capacity
pub record IsOver (p : Problem) (s : List ℕ) (t k : ℕ) : Type 0 where
  pub inside : k < length p.capacities
  pub more : capacity p k < usage p (all_placed s) t k

-- the list keeps all arcs; at t the usage of k exceeds its capacity; no usage does so before t, nor
-- that of a resource before k at t
pub record IsFirstOver (p : Problem) (s : List ℕ) (t k : ℕ) : Type 0 where
  pub arcs : KeepsArcs p s
  pub over : IsOver p s t k
  pub first : (u l : ℕ) → IsOver p s u l → IsNoLater t k u l

-- activity j can start earlier while all others keep their starts
pub record HasShift (p : Problem) (s : List ℕ) (j : ℕ) : Type 0 where
  pub other : List ℕ
  pub inside : j < count p
  pub shift : IsShift s other j
  pub feasible : IsFeasible p other

-- feasible; activity j can start earlier, and no lesser activity can
pub record IsFirstShift (p : Problem) (s : List ℕ) (j : ℕ) : Type 0 where
  pub feasible : IsFeasible p s
  pub shift : HasShift p s j
  pub first : (i : ℕ) → HasShift p s i → j ≤ i

-- the verdict on a list of starts, with activities and resources numbered from 1
abbrev pub IsFirstVerdict : Problem → List ℕ → Verdict → Type 0
IsFirstVerdict p s (Arc i j) = (0 < i) × (0 < j) × IsFirstBroken p s (i - 1) (j - 1)
IsFirstVerdict p s (Over t k) = (0 < k) × IsFirstOver p s t (k - 1)
IsFirstVerdict p s (Shift j) = (0 < j) × IsFirstShift p s (j - 1)
IsFirstVerdict p s Active = IsActive p s

-- each list with a start for each activity has exactly one first verdict
unfoldable pub OneVerdictIsFirst : Type 0
OneVerdictIsFirst =
    (p : Problem) (s : List ℕ) → length s ≡ count p
    → (v : Verdict) × IsFirstVerdict p s v × ((w : Verdict) → IsFirstVerdict p s w → w ≡ v)
