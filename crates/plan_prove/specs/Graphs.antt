-- Disjunctive graphs of job shops (Roy and Sussmann 1964): the times of the steps, the arcs that
-- every schedule keeps, and the pairs of steps either of which may go first (docs/definitions.md,
-- "Proofs of optima").
use Rattle.std.specs.Prelude.{◌≡◌, ℕ, suc, ◌+◌, ◌≤◌, ◌<◌, ◌⊎◌, List, Vec, Contains, Bool, ◌&&◌, nat_eq, nat_lt, get_or, map, All}
use Rattle.std.specs.List.{AllPairs}
use Rattle.std.specs.declared.alloc.Global.{Global}
use Rattle.plan_shop.specs.Shop.{JobShop, IsShop, count_steps, time_of, machine_of, job_of, those_below}
use Rattle.plan_prove.specs.declared.graph.Pair.{Pair}
use Rattle.plan_prove.specs.declared.graph.Graph.{Graph}

-- the time of a step, 0 if there is no such step
abbrev pub time_in : Graph → ℕ → ℕ
time_in g x = get_or g.times.items x 0

-- one step ends before another starts, or at its start
abbrev pub IsBefore : Graph → List ℕ → ℕ → ℕ → Type 0
IsBefore g starts x y = get_or starts x 0 + time_in g x ≤ get_or starts y 0

-- the first step of a pair goes before the second
abbrev pub KeepsArc : Graph → List ℕ → Pair → Type 0
KeepsArc g starts p = IsBefore g starts p.first p.second

-- one of the two steps of a pair goes before the other
abbrev pub KeepsApart : Graph → List ℕ → Pair → Type 0
KeepsApart g starts p = IsBefore g starts p.first p.second ⊎ IsBefore g starts p.second p.first

-- no two of some steps in rising order overlap
pub record KeepsClique (g : Graph) (starts : List ℕ) (clique : Vec ℕ Global) : Type 0 where
  pub rising : AllPairs (λ x y. x < y) clique.items
  pub apart : (x y : ℕ) → Contains clique.items x → Contains clique.items y → x < y
      → IsBefore g starts x y ⊎ IsBefore g starts y x

-- starts that keep all arcs, pairs and cliques
pub record IsKept (g : Graph) (starts : List ℕ) : Type 0 where
  pub arcs : All (KeepsArc g starts) g.arcs.items
  pub pairs : All (KeepsApart g starts) g.pairs.items
  pub cliques : All (KeepsClique g starts) g.cliques.items

-- all steps end before a limit, so the makespan is below it
abbrev pub IsBelow : Graph → ℕ → List ℕ → Type 0
IsBelow g limit starts = (x : ℕ) → get_or starts x 0 + time_in g x < limit

-- no starts that keep a graph end before a limit
abbrev pub NoneIsBelow : Graph → ℕ → Type 0
NoneIsBelow g limit = (starts : List ℕ) → IsKept g starts → IsBelow g limit starts → ⊥

-- the times of all steps
abbrev pub times_of : JobShop → List ℕ
times_of s = map (λ w. w.time) s.steps

-- a step and its successor in the job
pub record IsArcOf (s : JobShop) (p : Pair) : Type 0 where
  pub next : p.second ≡ suc p.first
  pub inside : p.second < count_steps s
  pub one_job : job_of s p.second ≡ job_of s p.first

-- two steps of positive time are on one machine
pub record Compete (s : JobShop) (x y : ℕ) : Type 0 where
  pub machine : machine_of s x ≡ machine_of s y
  pub one_lasts : 0 < time_of s x
  pub other_lasts : 0 < time_of s y

-- a step and another one of a greater number that competes with it
pub record IsPairOf (s : JobShop) (p : Pair) : Type 0 where
  pub rising : p.first < p.second
  pub inside : p.second < count_steps s
  pub compete : Compete s p.first p.second

-- a step is on a machine and has positive time
abbrev pub lasts_on : JobShop → ℕ → ℕ → Bool
lasts_on s m x = nat_eq (machine_of s x) m && nat_lt 0 (time_of s x)

-- the steps of positive time of a machine, in rising order
abbrev pub lasting_on : JobShop → ℕ → List ℕ
lasting_on s m = those_below (count_steps s) (lasts_on s m)

-- the steps of positive time of some machine
abbrev pub IsCliqueOf : JobShop → Vec ℕ Global → Type 0
IsCliqueOf s clique = (m : ℕ) × (clique.items ≡ lasting_on s m)

-- a graph is that of a shop
pub record IsGraphOf (s : JobShop) (g : Graph) : Type 0 where
  pub shop : IsShop s
  pub times : g.times.items ≡ times_of s
  pub arcs : All (IsArcOf s) g.arcs.items
  pub pairs : All (IsPairOf s) g.pairs.items
  pub cliques : All (IsCliqueOf s) g.cliques.items
