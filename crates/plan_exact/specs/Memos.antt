-- Cached answers by their questions (docs/definitions.md, "Kept answers").
use Rattle.std.specs.Prelude.{◌≡◌, ℕ, List, ◌∷◌, ◌++◌, map, take, All, Contains, ◌⊎◌}
use Rattle.lru.specs.LruCache.{LruCache}
use Rattle.plan_net.specs.Network.{Net}
use Rattle.plan_sgs.specs.Instances.{Planned}
use Rattle.plan_shop.specs.Shop.{JobShop}
use Rattle.plan_exact.specs.Solutions.{IsSolution}
use Rattle.plan_exact.specs.ProjectSolutions.{IsProjectSolution}
use Rattle.plan_exact.specs.declared.shop_solution.Solved.{Solved}
use Rattle.plan_exact.specs.declared.questions.Question.{Question}
use Rattle.plan_exact.specs.declared.questions.Question.TheVariants as question

-- the data on which the best schedule of a project depends: its network with the lags, the needs
-- and the capacities
pub record Content : Type 0 where
  pub network : Net
  pub needs : List (List ℕ)
  pub capacities : List ℕ

abbrev pub content_of : Planned → Content
content_of i =
    record { network = i.project.network; needs = i.project.needs; capacities = i.capacities }

-- a question: the best schedule of a shop, or of a project and its capacities, within a budget
pub data Asked : Type 0 where
  OfShop : JobShop → ℕ → Asked
  OfProject : Content → ℕ → Asked

abbrev pub asked_of_shop : JobShop → ℕ → Asked
asked_of_shop s budget = OfShop s budget

abbrev pub asked_of_project : Planned → ℕ → Asked
asked_of_project i budget = OfProject (content_of i) budget

-- the question of a key
abbrev pub asked_by : Question → Asked
asked_by (question.Shop q) =
    OfShop (record { machines = q.machines; jobs = q.jobs; steps = q.steps.items }) q.budget
asked_by (question.Project q) =
    OfProject (record {
      network = record { durations = q.durations.items; arcs = q.arcs.items; lags = q.lags.items };
      needs = map (λ row. row.items) q.needs.items;
      capacities = q.capacities.items;
    }) q.budget

-- a result answers a question. The result for a project is the solution of every instance with that
-- content.
abbrev pub Answers : Asked → Solved → Type 0
Answers (OfShop s budget) solved = IsSolution s budget solved
Answers (OfProject content budget) solved =
    (i : Planned) → content_of i ≡ content → IsProjectSolution i budget solved

-- the questions of some entries
abbrev pub questions : List (Question × Solved) → List Asked
questions entries = map (λ e. asked_by e.0) entries

-- an entry contains the answer to its key
abbrev pub IsAnswered : Question × Solved → Type 0
IsAnswered e = Answers (asked_by e.0) e.1

-- at most 64 entries, each with the answer to its key
pub record IsMemo (kept : LruCache Question Solved) : Type 0 where
  pub room : kept.cap ≡ 64
  pub answered : All IsAnswered kept.entries

-- a cached question moves to the front. A new one is added there, and the last of 64 is dropped.
abbrev pub Remembers : List Asked → Asked → List Asked → Type 0
Remembers old q new =
    ((before : List Asked) × (after : List Asked) × (old ≡ before ++ q ∷ after)
    × (new ≡ q ∷ before ++ after))
    ⊎ ((Contains old q → ⊥) × (new ≡ q ∷ take 63 old))
