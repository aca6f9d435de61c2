-- Progress of a search, and the reports on it to a watcher (docs/definitions.md, "Proofs of
-- optima").
use Rattle.std.specs.Prelude.{◌≡◌, ◌⊎◌, ◌≤◌, ℕ, List}
use Rattle.plan_sgs.specs.Problem.{IsActive, makespan}
use Rattle.plan_shop.specs.Shop.{JobShop, problem_of}
use Rattle.plan_prove.specs.Proofs.{IsLowerBound}
use Rattle.plan_prove.specs.declared.search.Search.{Search}

-- a report: the best makespan so far, a lower bound of all makespans, and the number of visited
-- nodes
pub record Progress : Type 0 where
  pub best : ℕ
  pub lower : ℕ
  pub nodes : ℕ

-- a watcher received at most one more report
abbrev pub Hears : (Progress → Type 0) → (Progress → Type 0) → Progress → Type 0
Hears before after told = (p : Progress) → after p → before p ⊎ (p ≡ told)

-- a watcher received no more reports
abbrev pub HearsNothing : (Progress → Type 0) → (Progress → Type 0) → Type 0
HearsNothing before after = (p : Progress) → after p → before p

-- a report is true of a shop: some active schedule has the best makespan, no feasible schedule has
-- a makespan below the lower bound, and the number of visited nodes is allowed
pub record IsProgressOf (s : JobShop) (allowed : ℕ) (p : Progress) : Type 0 where
  pub best : (starts : List ℕ) × IsActive (problem_of s) starts
      × (p.best ≡ makespan (problem_of s) starts)
  pub lower : IsLowerBound s p.lower
  pub below : p.lower ≤ p.best
  pub within : p.nodes ≤ allowed

-- all further reports to a watcher are true of a shop
abbrev pub HearsTruth : JobShop → ℕ → (Progress → Type 0) → (Progress → Type 0) → Type 0
HearsTruth s allowed before after = (p : Progress) → after p → before p ⊎ IsProgressOf s allowed p

-- a report has the data of a search
pub record IsKnownTo (search : Search) (p : Progress) : Type 0 where
  pub best : p.best ≡ search.proof.schedule.makespan
  pub lower : p.lower ≡ search.proof.lower
  pub within : p.nodes ≤ search.most

-- all further reports to a watcher have the data of a search
abbrev pub HearsKnown : Search → (Progress → Type 0) → (Progress → Type 0) → Type 0
HearsKnown search before after = (p : Progress) → after p → before p ⊎ IsKnownTo search p
