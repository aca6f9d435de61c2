-- A chain of activities without slack through a schedule (docs/definitions.md, "Reports").
use Rattle.std.specs.Prelude.{◌≡◌, ℕ, ◌+◌, ◌-◌, ◌≤◌, ◌<◌, ◌⊎◌, List, length, get_or, Contains}
use Rattle.std.specs.Prelude.{Bool, true, false, Option, Some, None}
use Rattle.plan_net.specs.Placed.{open_count}
use Rattle.plan_sgs.specs.Problem.{Problem, Link, count, duration, need, makespan}

-- both activities need a resource
abbrev pub ShareResource : Problem → ℕ → ℕ → Type 0
ShareResource p i j = (k : ℕ) × (k < length p.capacities) × (0 < need p i k) × (0 < need p j k)

-- j starts as early as an arc from i lets it
abbrev pub IsTightArc : Problem → List ℕ → ℕ → ℕ → Type 0
IsTightArc p s i j =
    (a : Link) × Contains p.links a × (a.from ≡ i) × (a.to ≡ j)
    × (get_or s i 0 + duration p i + a.lag ≡ get_or s j 0)

-- j starts at the end of i, both take time, and both need a resource
pub record TakesOver (p : Problem) (s : List ℕ) (i j : ℕ) : Type 0 where
  pub first_lasts : 0 < duration p i
  pub then_lasts : 0 < duration p j
  pub meets : get_or s i 0 + duration p i ≡ get_or s j 0
  pub shared : ShareResource p i j

-- j starts when i lets it, by an arc or by a resource
abbrev pub IsLinked : Problem → List ℕ → ℕ → ℕ → Type 0
IsLinked p s i j = IsTightArc p s i j ⊎ TakesOver p s i j

-- activities by their numbers from 1 on, none of which has slack. The first one starts at 0, the
-- last one ends at the makespan, and each of them lets the next one start.
pub record IsChain (p : Problem) (s slacks chain : List ℕ) : Type 0 where
  pub some : 1 ≤ length chain
  pub inside : (m : ℕ) → m < length chain → (1 ≤ get_or chain m 0) × (get_or chain m 0 ≤ count p)
  pub tight : (m : ℕ) → m < length chain → get_or slacks (get_or chain m 0 - 1) 0 ≡ 0
  pub first : get_or s (get_or chain 0 0 - 1) 0 ≡ 0
  pub last : get_or s (get_or chain (length chain - 1) 0 - 1) 0
      + duration p (get_or chain (length chain - 1) 0 - 1) ≡ makespan p s
  pub linked : (m : ℕ) → m + 1 < length chain
      → IsLinked p s (get_or chain m 0 - 1) (get_or chain (m + 1) 0 - 1)

-- there is no such chain
abbrev pub NoChain : Problem → List ℕ → List ℕ → Type 0
NoChain p s slacks = (chain : List ℕ) → IsChain p s slacks chain → ⊥

-- the activity at j ends the schedule, or it lets the target start, which has its number. No public
-- clause cites this word or those below.
abbrev pub Leads : Problem → List ℕ → Option ℕ → ℕ → Type 0
Leads p s None j = get_or s j 0 + duration p j ≡ makespan p s
Leads p s (Some target) j = IsLinked p s j (target - 1)

-- the activity at index m of those that were reached has no slack. It ends the schedule and is its
-- own next one, or it lets the next one start, which was reached earlier.
pub record IsReached (p : Problem) (s slacks : List ℕ) (m act next after : ℕ) : Type 0 where
  pub inside : (1 ≤ act) × (act ≤ count p)
  pub tight : get_or slacks (act - 1) 0 ≡ 0
  pub leads : ((next ≡ m) × Leads p s None (act - 1))
      ⊎ ((next < m) × Leads p s (Some after) (act - 1))

-- each of the activities that were reached, with the index of its next one
abbrev pub AreReached : Problem → List ℕ → List ℕ → List ℕ → List ℕ → Type 0
AreReached p s slacks reached nexts =
    (m : ℕ) → m < length reached
    → IsReached p s slacks m (get_or reached m 0) (get_or nexts m 0)
    (get_or reached (get_or nexts m 0) 0)

-- an activity is at some index
abbrev pub IsListed : List ℕ → ℕ → Type 0
IsListed reached act = (m : ℕ) × (m < length reached) × (get_or reached m 0 ≡ act)

-- the activities that were reached, and a mark for each of them
pub record IsSearch (p : Problem) (s slacks : List ℕ) (marks : List Bool)
    (reached nexts : List ℕ) : Type 0 where
  pub whole : length marks ≡ count p
  pub paired : length nexts ≡ length reached
  pub counted : length reached + open_count marks ≡ count p
  pub sound : AreReached p s slacks reached nexts
  pub listed : (j : ℕ) → j < count p → get_or marks j false ≡ true → IsListed reached (j + 1)

-- nothing that was reached is lost
pub record Keeps (marks marks2 : List Bool) (reached reached2 : List ℕ) : Type 0 where
  pub longer : length reached ≤ length reached2
  pub same : (m : ℕ) → m < length reached → get_or reached2 m 0 ≡ get_or reached m 0
  pub marked : (j : ℕ) → get_or marks j false ≡ true → get_or marks2 j false ≡ true

-- those of the first n activities without slack that lead to a target have a mark
abbrev pub AllMarked : Problem → List ℕ → List ℕ → List Bool → Option ℕ → ℕ → Type 0
AllMarked p s slacks marks target n =
    (j : ℕ) → j < n → get_or slacks j 0 ≡ 0 → Leads p s target j → get_or marks j false ≡ true

-- the activity at j has no mark and no slack, and leads to a target
abbrev pub IsNext : Problem → List ℕ → List ℕ → List Bool → Option ℕ → ℕ → Type 0
IsNext p s slacks marks target j =
    (get_or marks j false ≡ false) × (get_or slacks j 0 ≡ 0) × Leads p s target j

-- the activity that was reached at an index, if there is an index
abbrev pub target_at : List ℕ → Option ℕ → Option ℕ
target_at reached None = None
target_at reached (Some m) = Some (get_or reached m 0)

-- an index, or else n
abbrev pub index_or : Option ℕ → ℕ → ℕ
index_or None n = n
index_or (Some m) n = m

-- the activities that end the schedule have marks, and those that lead to an activity that was
-- reached before index n
pub record IsClosed (p : Problem) (s slacks : List ℕ) (marks : List Bool)
    (reached nexts : List ℕ) (n : ℕ) : Type 0 where
  pub search : IsSearch p s slacks marks reached nexts
  pub ends : AllMarked p s slacks marks None (count p)
  pub closed : (m : ℕ) → m < n → m < length reached
      → AllMarked p s slacks marks (Some (get_or reached m 0)) (count p)

-- all activities without slack from which the end can be reached
pub record AreAllReached (p : Problem) (s slacks reached nexts : List ℕ) : Type 0 where
  pub paired : length nexts ≡ length reached
  pub sound : AreReached p s slacks reached nexts
  pub ends : (j : ℕ) → j < count p → get_or slacks j 0 ≡ 0 → Leads p s None j
      → IsListed reached (j + 1)
  pub closed : (m j : ℕ) → m < length reached → j < count p → get_or slacks j 0 ≡ 0
      → Leads p s (Some (get_or reached m 0)) j → IsListed reached (j + 1)
