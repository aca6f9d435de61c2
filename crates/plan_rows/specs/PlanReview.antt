-- The test of plans, one at a time, and of the other rows (docs/definitions.md, "Books").
use Rattle.std.specs.Prelude.{◌≡◌, ◌⊎◌, ◌&&◌, ℕ, Bool, true, not, List, [], ◌∷◌}
use Rattle.std.specs.List.{list_any, AllByRecursion, AllZip}
use Rattle.plan_psplib.specs.Project.{Project, SaysProject}
use Rattle.plan_rows.specs.declared.kinds.PlanKind.TheVariants as kinds
use Rattle.plan_rows.specs.declared.row_tests.other_rows.PlanSeen.{PlanSeen}
use Rattle.plan_rows.specs.declared.row_tests.review.Review.{Review}
use Rattle.plan_rows.specs.declared.tables.records.LagRecord.{LagRecord}
use Rattle.plan_rows.specs.Tables.{head_of, lag_kept, head_seen}
use Rattle.plan_rows.specs.World.{Text, Lag, Plan, is_plan}
use Rattle.plan_rows.specs.Plans.{HasPlaces, has_arc}
use Rattle.plan_rows.specs.Rules.{IsPlanRow}
use Rattle.plan_rows.specs.RowTests.{Tells, RowKey, HeldKey, shown_key, same_key, AreFirst}

-- ---- keys

-- it is one of the keys
abbrev pub holds_key : List HeldKey → HeldKey → Bool
holds_key keys q = list_any (λ k. same_key (shown_key q) (shown_key k)) keys

-- one of the rows has it
abbrev pub has_row : {R : Type 0} → (R → RowKey) → List R → HeldKey → Bool
has_row key rows q = list_any (λ row. same_key (shown_key q) (key row)) rows

-- the keys are those of the rows
abbrev pub AreKeys : {R : Type 0} → (R → RowKey) → List HeldKey → List R → Type 0
AreKeys key keys rows = (q : HeldKey) → holds_key keys q ≡ has_row key rows q

-- the key of a lag: its plan and its arc
abbrev pub arc_key : Lag → RowKey
arc_key lag = (lag.desk, lag.n, lag.source, lag.target)

abbrev pub lag_key_of : LagRecord → RowKey
lag_key_of row = arc_key (lag_kept row)

-- the key of the plan of a lag
abbrev pub owner_key_of : LagRecord → RowKey
owner_key_of row = ((lag_kept row).desk, (lag_kept row).n, 0, 0)

-- a lag of this plan
abbrev pub is_owner : Plan → LagRecord → Bool
is_owner plan row = same_key (plan.desk, plan.n, 0, 0) (owner_key_of row)

-- the key of an arc of a plan
abbrev pub key_at : Text → ℕ → ℕ × ℕ → RowKey
key_at desk n arc = (desk, n, arc.0, arc.1)

-- one of the arcs of a plan has it
abbrev pub is_arc_key : Text → ℕ → List (ℕ × ℕ) → HeldKey → Bool
is_arc_key desk n arcs q =
    list_any (λ arc. same_key (shown_key q) (key_at desk n arc)) arcs

-- the plan is a project, and has the arc
abbrev pub HasArc : Plan → RowKey → Type 0
HasArc plan key =
    (is_plan key.0 key.1 plan ≡ true) × (plan.kind ≡ kinds.Project)
    × ((p : Project) × SaysProject plan.body p × (has_arc p.network key.2 key.3 ≡ true))

-- one of the plans is a project that has the arc
abbrev pub SomeHasArc : List Plan → RowKey → Type 0
SomeHasArc [] key = ⊥
SomeHasArc (plan ∷ plans) key = HasArc plan key ⊎ SomeHasArc plans key

-- each lag is on an arc of one of the plans
abbrev pub AreOnArcs : List Plan → List Lag → Type 0
AreOnArcs plans lags = AllByRecursion (λ lag. SomeHasArc plans (arc_key lag)) lags

-- the key of a row is not one of these, or is one of them
abbrev pub IsStruck : List HeldKey → RowKey → Type 0
IsStruck keys key = (q : HeldKey) × (shown_key q ≡ key) × (holds_key keys q ≡ true → ⊥)

abbrev pub IsLeft : List HeldKey → RowKey → Type 0
IsLeft keys key = (q : HeldKey) × (shown_key q ≡ key) × (holds_key keys q ≡ true)

-- a key is removed if the plan has the arc
abbrev pub IsStruckBy : Plan → List HeldKey → List HeldKey → HeldKey → Type 0
IsStruckBy plan old new q =
    (yes : Bool) × (holds_key new q ≡ (holds_key old q && not yes))
    × Tells yes (HasArc plan (shown_key q))

-- a row has one of the remaining keys
abbrev pub SomeLeft : {R : Type 0} → (R → RowKey) → List HeldKey → List R → Type 0
SomeLeft key keys [] = ⊥
SomeLeft key keys (row ∷ rows) = IsLeft keys (key row) ⊎ SomeLeft key keys rows

-- ---- plans

-- a plan that keeps the rules of rows, and the tested plan without its file
pub record IsSeen (plan : Plan) (seen : PlanSeen) : Type 0 where
  pub row : IsPlanRow plan
  pub head : head_seen seen ≡ head_of plan
  pub places : HasPlaces plan.kind plan.name plan.body seen.places

abbrev pub AreSeen : List Plan → List PlanSeen → Type 0
AreSeen plans seen = AllZip IsSeen plans seen

-- These plans were tested and keep the rules of rows. The remaining keys are those of the lags that
-- are on no arc of these plans.
pub record HasReviewed (plans : List Plan) (review : Review) : Type 0 where
  pub seen : AreSeen plans review.plans.items
  pub owners : AreFirst owner_key_of review.owners review.beside.lags.now
  pub pending : (q : HeldKey) → has_row lag_key_of review.beside.lags.now q ≡ true
      → Tells (not (holds_key review.pending.keys q)) (SomeHasArc plans (shown_key q))
