-- Scheduling problems, and feasible, active and shortest lists of starts (docs/definitions.md,
-- "Schedules"). A problem is a project with scarce resources as in Kolisch and Hartmann (1999). In
-- the problem of a job shop each job is a chain and each machine has capacity 1.
use Rattle.std.specs.Prelude.{◌≡◌, ◌≢◌, ℕ, zero, suc, ◌+◌, ◌≤◌, ◌<◌, max, Bool, true, cond, ◌&&◌, List, length, get_or, map, nat_lt, nat_le, All, Option, Some, None, [], ◌⊎◌}

-- the activity at place `to` starts no earlier than `lag` after the end of the one at place `from`
pub record Link : Type 0 where
  pub from : ℕ
  pub to : ℕ
  pub lag : ℕ

-- a scheduling problem: the durations of the activities, their links, their needs by resource, and
-- the capacities. Activities and resources are indexed from 0.
pub record Problem : Type 0 where
  pub durations : List ℕ
  pub links : List Link
  pub needs : List (List ℕ)
  pub capacities : List ℕ

-- the number of activities
abbrev pub count : Problem → ℕ
count p = length p.durations

-- the duration of an activity
abbrev pub duration : Problem → ℕ → ℕ
duration p i = get_or p.durations i 0

-- the need of an activity for a resource while it lasts
abbrev pub need : Problem → ℕ → ℕ → ℕ
need p i k = get_or (get_or p.needs i []) k 0

-- the capacity of a resource
abbrev pub capacity : Problem → ℕ → ℕ
capacity p k = get_or p.capacities k 0

-- the sum of f below n
abbrev pub total : ℕ → (ℕ → ℕ) → ℕ
total zero f = 0
total (suc n) f = total n f + f n

-- the greatest value of f below n, 0 if n is 0
abbrev pub greatest_below : ℕ → (ℕ → ℕ) → ℕ
greatest_below zero f = 0
greatest_below (suc n) f = max (greatest_below n f) (f n)

-- f passes at each number below n
abbrev pub all_below : ℕ → (ℕ → Bool) → Bool
all_below zero f = true
all_below (suc n) f = all_below n f && f n

-- the need of an activity with a given start for a resource at an instant, 0 if it isn't placed
abbrev pub amount_of : Problem → ℕ → ℕ → ℕ → Option ℕ → ℕ
amount_of p t k i None = 0
amount_of p t k i (Some start) =
    cond (nat_le start t && nat_lt t (start + duration p i)) (need p i k) 0

-- the usage of a resource by the placed activities at an instant
unfoldable pub usage : Problem → List (Option ℕ) → ℕ → ℕ → ℕ
usage p placed t k = total (count p) (λ i. amount_of p t k i (get_or placed i None))

-- a list of starts as a schedule in which all are placed
abbrev pub all_placed : List ℕ → List (Option ℕ)
all_placed starts = map Some starts

-- each activity starts no earlier than the end of each predecessor plus the lag
abbrev pub KeepsArcs : Problem → List ℕ → Type 0
KeepsArcs p s = All (λ a. get_or s a.from 0 + duration p a.from + a.lag ≤ get_or s a.to 0) p.links

-- at each instant the usage of each resource is at most its capacity
abbrev pub KeepsCapacities : Problem → List (Option ℕ) → Type 0
KeepsCapacities p placed = (t k : ℕ) → k < length p.capacities → usage p placed t k ≤ capacity p k

-- a list of starts that keeps arcs and capacities
pub record IsFeasible (p : Problem) (s : List ℕ) : Type 0 where
  pub each_started : length s ≡ count p
  pub arcs : KeepsArcs p s
  pub capacities : KeepsCapacities p (all_placed s)

-- other differs from s at one index only, and is less there
pub record IsShift (s other : List ℕ) (i : ℕ) : Type 0 where
  pub less : get_or other i 0 < get_or s i 0
  pub rest : (j : ℕ) → j ≢ i → get_or other j 0 ≡ get_or s j 0

-- feasible, and no feasible list differs from it at one index only and is less there
pub record IsActive (p : Problem) (s : List ℕ) : Type 0 where
  pub feasible : IsFeasible p s
  pub no_shift : (other : List ℕ) (i : ℕ) → i < count p → IsShift s other i → IsFeasible p other → ⊥

-- the greatest end
abbrev pub makespan : Problem → List ℕ → ℕ
makespan p s = greatest_below (count p) (λ i. get_or s i 0 + duration p i)

-- feasible, and no feasible list has a smaller makespan
pub record IsShortest (p : Problem) (s : List ℕ) : Type 0 where
  pub feasible : IsFeasible p s
  pub least : (other : List ℕ) → IsFeasible p other → makespan p s ≤ makespan p other

-- the ends of the links are activities
abbrev pub LinksInside : Problem → Type 0
LinksInside p = All (λ a. (a.from < count p) × (a.to < count p)) p.links

-- each link leads from a lesser rank to a greater one
abbrev pub IsRanked : Problem → (ℕ → ℕ) → Type 0
IsRanked p rank = All (λ a. rank a.from < rank a.to) p.links

-- an activity of positive duration that needs more than a capacity
abbrev pub IsTooMuch : Problem → ℕ → ℕ → Type 0
IsTooMuch p i k =
    (i < count p) × (k < length p.capacities) × (0 < duration p i) × (capacity p k < need p i k)

-- no activity of positive duration needs more than a capacity
abbrev pub NeedsFit : Problem → Type 0
NeedsFit p =
    (i k : ℕ) → i < count p → 0 < duration p i → k < length p.capacities → need p i k ≤ capacity p k

-- the least such activity, with its least such resource, by their numbers from 1 on
abbrev pub IsFirstTooMuch : Problem → ℕ → ℕ → Type 0
IsFirstTooMuch p activity resource =
    (i : ℕ) × (k : ℕ) × (activity ≡ suc i) × (resource ≡ suc k) × IsTooMuch p i k
    × ((h q : ℕ) → IsTooMuch p h q → (i < h) ⊎ ((i ≡ h) × (k ≤ q)))
