-- States of a search: its knowledge of the schedules that it still looks for, and deductions from
-- them (docs/definitions.md, "Proofs of optima").
use Rattle.std.specs.Prelude.{◌≡◌, ℕ, ◌+◌, ◌≤◌, ◌<◌, ◌⊎◌, ◌&&◌, not, nat_le, nat_eq, filter, sum_by, Contains, Bool, true, List, Vec, Option, Some, None, get_or, length, All}
use Rattle.std.specs.declared.alloc.Global.{Global}
use Rattle.plan_prove.specs.Graphs.{time_in, IsBefore, KeepsClique, IsKept, NoneIsBelow}
use Rattle.plan_prove.specs.declared.graph.Pair.{Pair}
use Rattle.plan_prove.specs.declared.graph.Graph.{Graph}
use Rattle.plan_prove.specs.declared.state.Side.{Side}
use Rattle.plan_prove.specs.declared.state.Side.TheVariants.{Open, First, Second}
use Rattle.plan_prove.specs.declared.state.End.{End}
use Rattle.plan_prove.specs.declared.state.End.TheVariants.{Start, Finish}
use Rattle.plan_prove.specs.declared.state.State.{State}
use Rattle.plan_prove.specs.declared.known.Known.{Known}
use Rattle.plan_prove.specs.declared.edges.Others.{Others}

-- the starts keep the side of a pair that is taken
abbrev pub KeepsSide : Graph → List ℕ → Pair → Side → Type 0
KeepsSide g starts p Open = Unit {0}
KeepsSide g starts p First = IsBefore g starts p.first p.second
KeepsSide g starts p Second = IsBefore g starts p.second p.first

-- a state holds for starts: they keep the graph, each step starts at its head or later and ends at
-- least its tail before the limit, and each decided pair keeps its side
pub record Holds (g : Graph) (limit : ℕ) (state : State) (starts : List ℕ) : Type 0 where
  pub kept : IsKept g starts
  pub heads : (x : ℕ) → get_or state.heads.items x 0 ≤ get_or starts x 0
  pub tails : (x : ℕ) → get_or starts x 0 + time_in g x + get_or state.tails.items x 0 < limit
  pub sides : (k : ℕ) (p : Pair) → k < length g.pairs.items
      → KeepsSide g starts (get_or g.pairs.items k p) (get_or state.sides.items k Open)

-- a state is refuted: it holds for no starts
abbrev pub IsRefuted : Graph → ℕ → State → Type 0
IsRefuted g limit state = (starts : List ℕ) → Holds g limit state starts → ⊥

-- the new state holds for all starts for which the old one holds
abbrev pub Follows : Graph → ℕ → State → State → Type 0
Follows g limit old new = (starts : List ℕ) → Holds g limit old starts → Holds g limit new starts

-- the result of a deduction: `None` refutes the state, otherwise the new state follows
abbrev pub Deduces : Graph → ℕ → State → State → Option Bool → Type 0
Deduces g limit old new None = IsRefuted g limit old
Deduces g limit old new (Some _) = Follows g limit old new

-- one step goes before another in all starts for which the state holds
abbrev pub GoesBefore : Graph → ℕ → State → ℕ → ℕ → Type 0
GoesBefore g limit state x y =
    (starts : List ℕ) → Holds g limit state starts → IsBefore g starts x y

-- one step goes before another in no starts for which the state holds
abbrev pub NotBefore : Graph → ℕ → State → ℕ → ℕ → Type 0
NotBefore g limit state x y =
    (starts : List ℕ) → Holds g limit state starts → IsBefore g starts x y → ⊥

-- the state in which nothing is known
pub record IsRoot (state : State) : Type 0 where
  pub heads : (x : ℕ) → get_or state.heads.items x 0 ≡ 0
  pub tails : (x : ℕ) → get_or state.tails.items x 0 ≡ 0
  pub sides : (k : ℕ) → get_or state.sides.items k Open ≡ Open

-- no number is greater than before, except at one index, where it is at most a value
abbrev pub IsRaised : List ℕ → List ℕ → ℕ → ℕ → Type 0
IsRaised old new place value =
    (x : ℕ) → (get_or new x 0 ≤ get_or old x 0) ⊎ ((x ≡ place) × (get_or new x 0 ≤ value))

-- only the head of one step may have risen
pub record HeadRises (old new : State) (x value : ℕ) : Type 0 where
  pub raised : IsRaised old.heads.items new.heads.items x value
  pub tails : new.tails.items ≡ old.tails.items
  pub sides : new.sides.items ≡ old.sides.items

-- only the tail of one step may have risen
pub record TailRises (old new : State) (x value : ℕ) : Type 0 where
  pub raised : IsRaised old.tails.items new.tails.items x value
  pub heads : new.heads.items ≡ old.heads.items
  pub sides : new.sides.items ≡ old.sides.items

-- only the head or the tail of one step may have risen, by its end of the schedule
abbrev pub RaisesEnd : State → State → End → ℕ → ℕ → Type 0
RaisesEnd old new Start x value = HeadRises old new x value
RaisesEnd old new Finish x value = TailRises old new x value

-- the times of a step in a state
pub record IsKnown (g : Graph) (state : State) (x : ℕ) (known : Known) : Type 0 where
  pub head : known.head ≡ get_or state.heads.items x 0
  pub time : known.time ≡ time_in g x
  pub tail : known.tail ≡ get_or state.tails.items x 0

-- all sides are the same, except at one index, where it may be another one
abbrev pub TakesSide : List Side → List Side → ℕ → Side → Type 0
TakesSide old new place side =
    (k : ℕ) → (get_or new k Open ≡ get_or old k Open) ⊎ ((k ≡ place) × (get_or new k Open ≡ side))

-- a state is the old one with a side taken
pub record IsWithSide (old new : State) (place : ℕ) (side : Side) : Type 0 where
  pub heads : new.heads.items ≡ old.heads.items
  pub tails : new.tails.items ≡ old.tails.items
  pub sides : TakesSide old.sides.items new.sides.items place side

-- if all new states are refuted, so are the old ones and one more
abbrev pub Covers : Graph → ℕ → List State → List State → State → Type 0
Covers g limit new old state =
    All (IsRefuted g limit) new → All (IsRefuted g limit) old × IsRefuted g limit state

-- all states are refuted
abbrev pub AreRefuted : Graph → ℕ → List State → Type 0
AreRefuted g limit states = All (IsRefuted g limit) states

-- for every limit, if the states are refuted, no starts are below it
abbrev pub AreFirstStates : Graph → List State → Type 0
AreFirstStates g states = (limit : ℕ) → AreRefuted g limit states → NoneIsBelow g limit

-- no two of some steps overlap in starts that keep the graph
abbrev pub IsClique : Graph → Vec ℕ Global → Type 0
IsClique g clique = (starts : List ℕ) → IsKept g starts → KeepsClique g starts clique

-- a step starts at `head` or later in all starts for which the state holds
abbrev pub StartsFrom : Graph → ℕ → State → ℕ → ℕ → Type 0
StartsFrom g limit state x head =
    (starts : List ℕ) → Holds g limit state starts → head ≤ get_or starts x 0

-- a step ends more than `tail` before the limit in all starts for which the state holds
abbrev pub Leaves : Graph → ℕ → State → ℕ → ℕ → Type 0
Leaves g limit state x tail =
    (starts : List ℕ) → Holds g limit state starts → get_or starts x 0 + time_in g x + tail < limit

-- a step stays away from an end of the schedule
abbrev pub StaysAway : Graph → ℕ → State → End → ℕ → ℕ → Type 0
StaysAway g limit state Start x value = StartsFrom g limit state x value
StaysAway g limit state Finish x value = Leaves g limit state x value

-- the others by their least distances from an end: near to it and far from it
abbrev pub others_from : End → ℕ → ℕ → ℕ → Others
others_from Start near far but = record { head = near; tail = far; but = but }
others_from Finish near far but = record { head = far; tail = near; but = but }

-- a step is one of the others
abbrev pub is_other : State → Others → ℕ → Bool
is_other state others x =
    (not (nat_eq x others.but) && nat_le others.head (get_or state.heads.items x 0))
    && nat_le others.tail (get_or state.tails.items x 0)

-- the others among some steps
abbrev pub others_of : State → Others → List ℕ → List ℕ
others_of state others steps = filter (is_other state others) steps

-- the times of the others of a clique and of the left-out step fill the time from `start` to `rest`
-- before the limit
abbrev pub Fill : Graph → ℕ → State → Vec ℕ Global → Others → ℕ → ℕ → Type 0
Fill g limit state clique others start rest =
    limit
    ≤ start + (time_in g others.but + sum_by (time_in g) (others_of state others clique.items))
    + rest

-- the left-out step goes behind each of the others of a clique
abbrev pub IsBehind : Graph → ℕ → State → Vec ℕ Global → Others → Type 0
IsBehind g limit state clique others =
    (x : ℕ) → Contains clique.items x → is_other state others x ≡ true
    → GoesBefore g limit state x others.but

-- the left-out step goes ahead of each of the others of a clique
abbrev pub IsAhead : Graph → ℕ → State → Vec ℕ Global → Others → Type 0
IsAhead g limit state clique others =
    (x : ℕ) → Contains clique.items x → is_other state others x ≡ true
    → GoesBefore g limit state others.but x

-- the left-out step goes behind or ahead of each of the others, by the end
abbrev pub GoesBeyond : Graph → ℕ → State → Vec ℕ Global → End → Others → Type 0
GoesBeyond g limit state clique Start others = IsBehind g limit state clique others
GoesBeyond g limit state clique Finish others = IsAhead g limit state clique others
