-- The test of plans as their rows are read (docs/definitions.md, "Tables").
use Rattle.std.specs.Prelude.{◌≡◌, ◌⊎◌, ℕ, Bool, List, [], ◌∷◌, ◌++◌, Some, None, Option, IsTrue}
use Rattle.std.specs.Bool.{MatchBool}
use Rattle.std.specs.List.{AllZip}
use Rattle.sqlite_value.specs.Order.{Row}
use Rattle.sqlite_trees.specs.declared.store.Store.{Ghosts}
use Rattle.sqlite.specs.State.{State, Shown, Begins}
use Rattle.sqlite.specs.Effect.{Database, Reads}
use Rattle.sqlite.specs.Given.{HasGiven}
use Rattle.sqlite.specs.Held.{Held, state}
use Rattle.plan_rows.specs.World.{Plan}
use Rattle.plan_rows.specs.Rules.{IsPlanRow}
use Rattle.plan_rows.specs.PlanReview.{HasReviewed}
use Rattle.plan_store.specs.declared.plan_test.PlanTest.{PlanTest}
use Rattle.plan_store.specs.declared.plan_review.Next.{Next}
use Rattle.plan_store.specs.declared.plan_review.Next.TheVariants.{Good, Bad, End}
use Rattle.plan_store.specs.QueryEffect.{meaning_under, IsQueryUnder}
use Rattle.plan_store.specs.Rows.{written_plan, read_plan}
use Rattle.plan_store.specs.UntrustedRows.{HoldsPlan, TakesRow, TakesTable}
use Rattle.plan_store.specs.KeptPlans.{HoldsPlans}

-- these plans were tested and are kept
pub record HasSeen (plans : List Plan) (test : PlanTest) : Type 0 where
  pub reviewed : HasReviewed plans test.review
  pub kept : HoldsPlans plans test.kept

-- a plan that code can hold and that keeps the rules of rows
abbrev pub IsGoodPlan : Plan → Type 0
IsGoodPlan plan = HoldsPlan plan × IsPlanRow plan

-- the plan of a row, if it keeps the rules of rows
abbrev pub TakesGood : Row → Option Plan → Type 0
TakesGood = TakesRow written_plan IsGoodPlan

-- A row was tested after these plans.
abbrev pub ReviewsRow : Row → List Plan → PlanTest → Bool → Type 0
ReviewsRow row plans review good =
    MatchBool good ((plan : Plan) × TakesGood row (Some plan) × HasSeen (plans ++ plan ∷ []) review)
    (TakesGood row None)

-- the next plan, and its test after these plans
abbrev pub ComesNext : Option Row → List Plan → PlanTest → Next → Type 0
ComesNext None plans review next = (next ≡ End) × HasSeen plans review
ComesNext (Some row) plans review Good =
    (plan : Plan) × TakesGood row (Some plan) × HasSeen (plans ++ plan ∷ []) review
ComesNext (Some row) plans review Bad = TakesGood row None
ComesNext (Some row) plans review End = ⊥

-- As long as it is open, the tables are as they were.
abbrev pub Stays : State → State → Type 0
Stays old new =
    IsTrue new.is_open → IsTrue old.is_open × (new.now ≡ old.now) × (new.committed ≡ old.committed)

-- as long as it is open, the tables are as they were, or as they were committed
abbrev pub Leaves : State → State → Type 0
Leaves old new =
    IsTrue new.is_open
    → IsTrue old.is_open × ((new.now ≡ old.now) ⊎ (new.now ≡ old.committed)) × (new.committed ≡ old.committed)

module _ {S : Type 0} (g : Ghosts S) where
  -- the next plan after some rows of a query and their plans
  abbrev pub Goes : List ℕ → Row → Held S → Held S → List Row → List Plan → PlanTest → Next → Type 0
  Goes text params old new given plans review Good =
      (row : Row) × (plan : Plan) × HasGiven g text params new (given ++ row ∷ [])
      × TakesGood row (Some plan) × HasSeen (plans ++ plan ∷ []) review
  Goes text params old new given plans review Bad =
      (row : Row) × HasGiven g text params new (given ++ row ∷ []) × TakesGood row None
  Goes text params old new given plans review End =
      Shown text params (state g old) (state g new) given × HasSeen plans review

  abbrev pub Reviews : Held S → Held S → PlanTest → PlanTest → Next → Type 0
  Reviews old new before after next =
      (text : List ℕ) (params : Row) (given : List Row) (plans : List Plan)
      → HasGiven g text params old given → HasSeen plans before
      → Goes text params old new given plans after next

-- All rows of a query are plans that were tested and are good. Or the query begins with some rows,
-- and the last of them isn't a good plan.
abbrev pub ReviewsRows : List ℕ → Database → State → PlanTest → Bool → Type 0
ReviewsRows text db new review good =
    MatchBool good
    ((rows : List Row) × (plans : List Plan) × Reads (meaning_under db.schema text) db [] rows
    × AllZip (λ row plan. TakesGood row (Some plan)) rows plans × HasSeen plans review)
    ((rows : List Row) × (row : Row) × Begins text [] new (rows ++ row ∷ []) × TakesGood row None)

-- the same for the query that has begun
abbrev pub ReviewsRest : {S : Type 0} (g : Ghosts S) → Held S → Held S → PlanTest → Bool → Type 0
ReviewsRest g old new review good =
    (text : List ℕ) → IsQueryUnder old.schema text → HasGiven g text [] old []
    → ReviewsRows text (state g old).now (state g new) review good

-- A table holds good plans, which were tested, or it doesn't.
abbrev pub ReviewsPlans : List Row → PlanTest → Bool → Type 0
ReviewsPlans rows review good =
    MatchBool good
    ((plans : List Plan) × TakesTable written_plan read_plan IsGoodPlan rows (Some plans)
    × HasSeen plans review)
    (TakesTable written_plan read_plan IsGoodPlan rows None)
