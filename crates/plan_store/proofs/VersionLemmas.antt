-- From the rows that were read to the version of the tables, or to no office.
use Rattle.std.proofs.Common.{◌≡◌, ℤ, true, false, List, [], ◌∷◌, Option, Some, None, MatchOption, Ok, Result, IsTrue, IfOk, IsUtf8, refl, sym, ap, subst, ◌∙◌}
use Rattle.std.specs.List.{AllByRecursion}
use Rattle.sqlite_keyed.proofs.ListLemmas.{all_weaker, all_both}
use Rattle.sqlite_trees.specs.Tree.{Trees}
use Rattle.sqlite.specs.Effect.{Database}
use Rattle.sqlite.specs.State.{State, HasCleanDisk}
use Rattle.plan_rows.specs.declared.fault.BookFault.{BookFault}
use Rattle.plan_rows.specs.Tables.{world_beside}
use Rattle.plan_rows.specs.World.{Plan, World}
use Rattle.plan_rows.specs.Rules.{IsWorld, IsPlanRow}
use Rattle.plan_store.specs.declared.layout.Layout.{Layout}
use Rattle.plan_store.specs.declared.layout.Layout.TheVariants.{First, Second}
use Rattle.plan_store.specs.declared.untrusted_tables.OtherRows.{OtherRows}
use Rattle.plan_store.specs.declared.kept_plans.KeptPlans.{KeptPlans}
use Rattle.plan_store.specs.declared.plan_test.PlanTest.{PlanTest}
use Rattle.plan_store.specs.KeptPlans.{HoldsPlans}
use Rattle.plan_store.specs.Rows.{read_plan, written_plan}
use Rattle.plan_store.specs.Stores.{world_of}
use Rattle.plan_store.specs.Layouts.{meta_at, world_in, IsOfficeAt}
use Rattle.plan_store.specs.UntrustedRows.{HoldsPlan, TakesTable}
use Rattle.plan_store.specs.PlanReview.{HasSeen, IsGoodPlan, ReviewsPlans}
use Rattle.plan_store.specs.TableTests.{IsLaid, IsReadable, Looks, HoldsOthers, IsJudged, SaysOffice, world_others}
use Rattle.plan_store.proofs.HoldsLemmas.{plans_hold}
use Rattle.plan_store.proofs.TableTestLemmas.{looks_again}
use Rattle.plan_store.proofs.EnduringLemmas.{endures_itself}

-- both layouts have the same plans and the same office
same_office : (layout : Layout) (trees : Trees) → (world_in layout trees).office ≡ (world_of trees).office
same_office First trees = refl
same_office Second trees = refl

same_plans : (layout : Layout) (trees : Trees) → (world_in layout trees).plans ≡ (world_of trees).plans
same_plans First trees = refl
same_plans Second trees = refl

good_plans : (layout : Layout) (db : Database) (version : ℤ) → IsOfficeAt layout version db → AllByRecursion IsGoodPlan (world_of db.trees).plans
good_plans First db version h = all_both HoldsPlan IsPlanRow IsGoodPlan (λ plan holds row. (holds, row)) (world_of db.trees).plans (plans_hold (world_in First db.trees) h.rules h.names) h.rules.plans
good_plans Second db version h = all_both HoldsPlan IsPlanRow IsGoodPlan (λ plan holds row. (holds, row))
    (world_of db.trees).plans (plans_hold (world_in Second db.trees) h.rules h.names) h.rules.plans

-- tables with a plan that isn't good hold no office
no_office : (layout : Layout) (db : Database) → TakesTable written_plan read_plan IsGoodPlan (db.trees 5) None → (version : ℤ) → IsOfficeAt layout version db → ⊥
no_office layout db none version h = none h.plans (good_plans layout db version h)

module _ (layout : Layout) (s : State) (laid : IsLaid layout s) (it : OtherRows) (holds : HoldsOthers layout s.now it) where
  same_world : (plans : List Plan) → TakesTable written_plan read_plan IsGoodPlan (s.now.trees 5) (Some plans) → world_others it plans ≡ world_in layout s.now.trees
  same_world plans takes = ap (world_others it) (takes.1 ∙ sym (same_plans layout s.now.trees)) ∙ holds.world

  office_at : (plans : List Plan) → TakesTable written_plan read_plan IsGoodPlan (s.now.trees 5) (Some plans) → IsWorld (world_others it plans) → IsOfficeAt layout it.version s.now
  office_at plans takes rules = record {
    schema = laid.schema;
    meta = holds.meta ∙ ap (λ (w : World). meta_at it.version w.office ∷ []) holds.world ∙ ap (λ d. meta_at it.version d ∷ []) (same_office layout s.now.trees);
    published = holds.published;
    desks = holds.desks;
    plans = takes.0;
    binds = holds.binds;
    lags = holds.lags;
    names = subst (AllByRecursion (λ (row : Plan). IsUtf8 row.name)) takes.1 (all_weaker IsGoodPlan (λ row. IsUtf8 row.name) (λ row h. h.0.1) plans takes.2);
    rules = subst IsWorld (same_world plans takes) rules;
    sound = laid.in_order.sound;
  }

  pub told : (test : PlanTest) → ((plans : List Plan) →
      world_beside test.review.beside plans ≡ world_others it plans) → (found : Option KeptPlans) →
      ((plans : List Plan) → HasSeen plans test → MatchOption found
      (IsWorld (world_beside test.review.beside plans) → ⊥)
      (λ kept. IsWorld (world_beside test.review.beside plans) × HoldsPlans plans kept))
      → ReviewsPlans (s.now.trees 5) test true → IsJudged layout s.now it found
  told test beside (Some kept) tells (plans, takes, seen) =
      let h = tells plans seen in
      (office_at plans takes (subst IsWorld (beside plans) h.0), subst (λ l. HoldsPlans l kept) takes.1 h.1)
  told test beside None tells (plans, takes, seen) = λ version h. tells plans seen (subst IsWorld (sym (beside plans ∙ same_world plans takes)) h.rules)

  pub untold : (test : PlanTest) → ReviewsPlans (s.now.trees 5) test false → IsJudged layout s.now it None
  untold test none = no_office layout s.now none

module _ (layout : Layout) (old new : State) (ready : IsReadable layout old) where
  pub judged : (it : OtherRows) → (HasCleanDisk old → HoldsOthers layout old.now it) →
      {X : Type 0} (x : X) (Is : X → Type 0) (found : Option KeptPlans) →
      (IsLaid layout old → HoldsOthers layout old.now it → Is x → IsJudged layout old.now it found)
      → Looks layout old new (Ok x) Is → Looks layout old new (Ok found) (IsJudged layout old.now it)
  judged it holds x Is found f look = looks_again layout old new (Ok x) Is (Ok found) (IsJudged layout old.now it) look (λ clean.
      let said = look.answer clean in
      let was = look.same clean said.0 in
      (said.0, f (ready.laid (look.honesty clean) was.0) (holds (look.honesty clean)) said.1))

-- no query was run
pub looks_nowhere : (layout : Layout) (s : State) → IsReadable layout s →
    {X : Type 0} (r : Result X BookFault) (Is : X → Type 0) →
    IfOk r (λ x. HasCleanDisk s → IsTrue s.is_open × Is x) → Looks layout s s r Is
looks_nowhere layout s ready r Is answer = record {
  ready = ready;
  honesty = λ clean. clean;
  same =
      λ clean live. (live, refl);
  answer = answer;
  crash = λ clean trees may. may;
  endures = endures_itself s;
}

-- the version and the plans of an office, or none
pub says_none : (layout : Layout) (db : Database) (kept : KeptPlans) → ((version : ℤ) → IsOfficeAt layout version db → ⊥) → SaysOffice layout db (None, kept)
says_none layout db kept none = record { version = none; plans = λ some. cc }

pub says_some : (layout : Layout) (db : Database) (version : ℤ) (kept : KeptPlans) → IsOfficeAt layout version db → HoldsPlans (world_of db.trees).plans kept
    → SaysOffice layout db (Some version, kept)
says_some layout db version kept office holds = record { version = office; plans = λ some. holds }
