-- Laws of serial generation (docs/definitions.md, "Schedules"; Kelley 1963, Sprecher, Kolisch and
-- Drexl 1995).
use Rattle.std.specs.Prelude.{ℕ, ◌≤◌, ◌<◌, List, Option, get_or, take}
use Rattle.plan_sgs.specs.Problem.{Problem, count, makespan, IsFeasible, IsActive, IsShortest, LinksInside, NeedsFit, IsRanked}
use Rattle.plan_sgs.specs.Serial.{serial, earliest, IsEarliest}
use Rattle.plan_sgs.specs.Rules.{IsActivityList, IsFirstBy, RisesBy, rule_list}

-- if all needs fit, the earliest start of an activity is the least instant from its release on at
-- which it fits
unfoldable pub EarliestIsLeast : Type 0
EarliestIsLeast =
    (p : Problem) (placed : List (Option ℕ)) (j : ℕ) → NeedsFit p → j < count p
    → IsEarliest p placed j (earliest p placed j)

-- the serial schedule of an order of all activities, each after its predecessors, is active
unfoldable pub SerialIsActive : Type 0
SerialIsActive =
    (p : Problem) (js : List ℕ) → LinksInside p → NeedsFit p → IsActivityList p js
    → IsActive p (serial p js)

-- the list of any key is an activity list; each entry is the first, by the key and then by the
-- number, of the activities that are eligible in its turn
unfoldable pub RuleTakesFirst : Type 0
RuleTakesFirst =
    (p : Problem) (rank key : ℕ → ℕ) → LinksInside p → IsRanked p rank
    → IsActivityList p (rule_list p key)
    × ((k : ℕ) → k < count p
    → IsFirstBy p key (take k (rule_list p key)) (get_or (rule_list p key) k 0))

-- the activities in the order of their starts; for equal starts predecessors come first
abbrev pub by_starts : Problem → List ℕ → List ℕ
by_starts p starts = rule_list p (λ i. get_or starts i 0)

-- if an order is sorted by the starts of a feasible list, its serial schedule starts no activity
-- later than that list
unfoldable pub SerialIsNoLater : Type 0
SerialIsNoLater =
    (p : Problem) (starts js : List ℕ) → LinksInside p → NeedsFit p → IsFeasible p starts
    → IsActivityList p js → RisesBy (λ i. get_or starts i 0) js
    → (i : ℕ) → i < count p → get_or (serial p js) i 0 ≤ get_or starts i 0

-- the order by the starts of a feasible list is an activity list, and its serial schedule is no
-- longer than the feasible list
unfoldable pub ByStartsIsNoLonger : Type 0
ByStartsIsNoLonger =
    (p : Problem) (rank : ℕ → ℕ) (starts : List ℕ) → LinksInside p → NeedsFit p → IsRanked p rank
    → IsFeasible p starts
    → IsActivityList p (by_starts p starts) × RisesBy (λ i. get_or starts i 0) (by_starts p starts)
    × (makespan p (serial p (by_starts p starts)) ≤ makespan p starts)

-- a serial schedule of least makespan among all serial schedules is a shortest feasible list
unfoldable pub LeastOfOrdersIsShortest : Type 0
LeastOfOrdersIsShortest =
    (p : Problem) (rank : ℕ → ℕ) (js : List ℕ) → LinksInside p → NeedsFit p → IsRanked p rank
    → IsActivityList p js
    → ((other : List ℕ) → IsActivityList p other
    → makespan p (serial p js) ≤ makespan p (serial p other))
    → IsShortest p (serial p js)
