-- Eligible activities: marks on the taken activities, the number of predecessors that each activity
-- waits for, and a queue of those that wait for none. Lists are indexed from 0. No public clause
-- cites these words.
use Rattle.std.specs.Prelude.{◌≡◌, ℕ, ◌+◌, ◌-◌, ◌≤◌, ◌<◌, Bool, false, cond, not, ◌&&◌, nat_eq, nat_lt, List, length, get_or, slice_index, count_by, All, Option}
use Rattle.std.specs.Option.{MatchOption}
use Rattle.std.specs.BinaryHeap.{IsHeap}
use Rattle.std.specs.Ordering.{nat_cmp, ordering_then}
use Rattle.std.specs.declared.cmp.Ordering.{Ordering}
use Rattle.std.specs.declared.cmp.Reverse.{Reverse}
use Rattle.plan_net.specs.Network.{Net, IsActivity, IsArc, IsLeast}
use Rattle.plan_net.specs.Placed.{IsPlaced, IsOpen}
use Rattle.plan_sgs.specs.Problem.{Problem, Link}
use Rattle.plan_sgs.specs.Rules.{is_member}

-- exactly the activities of a list are marked, by their indices
pub record AreMarksOf (n : ℕ) (marks : List Bool) (taken : List ℕ) : Type 0 where
  pub size : length marks ≡ n
  pub each : (i : ℕ) → i < n → get_or marks i false ≡ is_member i taken

-- all predecessors of an activity are marked
abbrev pub IsReleased : Net → List Bool → ℕ → Type 0
IsReleased net marks j = (i : ℕ) → IsArc net i j → IsPlaced marks i

-- the least unmarked predecessor of an activity, or none if all are marked
abbrev pub WaitsFor : Net → List Bool → ℕ → Option ℕ → Type 0
WaitsFor net marks j pred =
    MatchOption pred (IsReleased net marks j) (IsLeast (λ i. IsArc net i j × IsOpen marks i))

-- for each of n activities the number of arcs that lead to it
pub record AreInDegrees (n : ℕ) (arcs : List (ℕ × ℕ)) (waits : List ℕ) : Type 0 where
  pub size : length waits ≡ n
  pub each : (h : ℕ) → h < n → slice_index waits h ≡ count_by (λ arc. nat_eq (arc.1 - 1) h) arcs

-- the number of arcs from one index to another
abbrev pub arcs_between : List (ℕ × ℕ) → ℕ → ℕ → ℕ
arcs_between arcs g h = count_by (λ arc. nat_eq (arc.0 - 1) g && nat_eq (arc.1 - 1) h) arcs

-- the count of each activity falls by the number of arcs from activity j to it
pub record Lowers (net : Net) (j : ℕ) (old new : List ℕ) : Type 0 where
  pub size : length new ≡ length old
  pub each : (h : ℕ) → h < length old
      → slice_index new h + arcs_between net.arcs (j - 1) h ≡ slice_index old h

-- a link leads to an activity from an activity that isn't taken
abbrev pub is_open : List ℕ → ℕ → Link → Bool
is_open taken h a = nat_eq a.to h && not (is_member a.from taken)

-- the number of such links
abbrev pub open_links : Problem → List ℕ → ℕ → ℕ
open_links p taken h = count_by (is_open taken h) p.links

-- an entry of a queue: the key of an activity, and its number
abbrev pub Entry : Type 0
Entry = Reverse (ℕ × ℕ)

-- the order of a queue: the lesser entry comes out later. It has the greater key, or the same key
-- and the greater number.
abbrev pub by_key : Entry → Entry → Ordering
by_key x y = ordering_then (nat_cmp y.0.0 x.0.0) (nat_cmp y.0.1 x.0.1)

-- an entry has the key of its activity
abbrev pub IsKeyed : List ℕ → Entry → Type 0
IsKeyed keys e = (1 ≤ e.0.1) × (e.0.1 ≤ length keys) × (e.0.0 ≡ slice_index keys (e.0.1 - 1))

-- a queue ordered by these keys
pub record IsQueue (keys : List ℕ) (entries : List Entry) : Type 0 where
  pub ordered : IsHeap by_key entries
  pub keyed : All (IsKeyed keys) entries

-- the number of times that the activity at an index is in a queue
abbrev pub times_in : List Entry → ℕ → ℕ
times_in entries h = count_by (λ e. nat_eq (e.0.1 - 1) h) entries

-- exactly the activities that wait for none are in the queue, each once
abbrev pub QueuesFree : List ℕ → List Entry → Type 0
QueuesFree waits entries =
    (h : ℕ) → h < length waits → times_in entries h ≡ cond (nat_eq (slice_index waits h) 0) 1 0

-- exactly the activities that wait for none now, but did for some before, are added to the queue,
-- each once
abbrev pub Joins : List ℕ → List ℕ → List Entry → List Entry → Type 0
Joins before now old new =
    (h : ℕ) → h < length now
    → times_in new h
    ≡ times_in old h + cond (nat_lt 0 (slice_index before h) && nat_eq (slice_index now h) 0) 1 0

-- an activity is eligible
abbrev pub CanCome : Net → List Bool → ℕ → Type 0
CanCome net marks j = IsActivity net j × IsOpen marks j × IsReleased net marks j
