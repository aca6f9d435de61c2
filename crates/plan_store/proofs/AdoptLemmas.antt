-- The adoption of tables and the reasons for its failure.
use Rattle.std.proofs.Common.{◌≡◌, ◌≢◌, ◌⊎◌, inl, inr, ℕ, ℤ, pos, List, [], ◌∷◌, length, Result, Ok, Err, IsTrue, false, refl, sym, ap, subst, ◌∙◌, arith}
use Rattle.sqlite_value.specs.declared.value.Value.{Value}
use Rattle.sqlite_value.specs.declared.value.Value.TheVariants.{Int}
use Rattle.sqlite_value.specs.Order.{Row, column}
use Rattle.sqlite_trees.specs.Tree.{Trees}
use Rattle.sqlite_trees.specs.declared.store.Store.{Ghosts}
use Rattle.sqlite_schema.specs.declared.schema.Schema.{Schema}
use Rattle.sqlite.specs.Effect.{Database}
use Rattle.sqlite.specs.State.{State, HasCleanDisk}
use Rattle.sqlite.specs.Held.{Held, state}
use Rattle.plan_store.specs.declared.fault.StoreFault.{StoreFault}
use Rattle.plan_store.specs.declared.fault.StoreFault.TheVariants.{NotOurs, Version, NoMemory, Store}
use Rattle.plan_store.specs.declared.layout.Layout.{Layout}
use Rattle.plan_store.specs.declared.layout.Layout.TheVariants.{First, Second}
use Rattle.plan_store.specs.declared.leftover.Leftover.TheVariants as left
use Rattle.plan_rows.specs.World.{World}
use Rattle.plan_store.specs.declared.kept_plans.KeptPlans.{KeptPlans}
use Rattle.plan_store.specs.KeptPlans.{HoldsPlans, KeepsPlans}
use Rattle.plan_store.specs.Stores.{world_of, IsStore}
use Rattle.plan_store.specs.Layouts.{schema_of, IsOfficeAt}
use Rattle.plan_store.specs.Reload.{IsStoreOf}
use Rattle.plan_store.specs.TableTests.{IsLaid}
use Rattle.plan_store.specs.Adoption.{version_of, other_version, IsTaken, IsMigrated, IsCause, IsOpenAfter, Takes, IsWhole, IsRefused}

-- ---- the reason for a failed adoption

pub no_layout : (db : Database) → ((layout : Layout) → db.schema ≢ schema_of layout) → IsCause NotOurs db
no_layout db other = (λ h. other h.0 h.1.schema, λ h. other h.0 h.2.schema)

-- ---- adoption

open_after : (s : State) (fault : StoreFault) → (HasCleanDisk s → IsTrue s.is_open) → IsOpenAfter fault s
open_after s NotOurs live = live
open_after s Version live = live
open_after s NoMemory live = tt
open_after s Store live = tt

pub refuses : {X : Type 0} (s : State) (r : Result X StoreFault) (fault : StoreFault) → r ≡ Err fault →
    s.in_transaction ≡ false → (HasCleanDisk s → IsTrue s.is_open) → (HasCleanDisk s → IsCause fault s.now) →
    Takes s s r
refuses s r fault is outside live why = subst (Takes s s) (sym is) (record {
  outside = outside;
  honesty = λ clean. clean;
  taken = tt;
  durable = tt;
  cause = why;
  kept = λ clean live. refl;
  crash = λ clean trees may. inl may;
  is_open = open_after s fault live;
})

-- tables that were only read, and then adopted or not
module _ (old mid new : State) (clean_before : HasCleanDisk mid → HasCleanDisk old)
    (same : HasCleanDisk mid → mid.now ≡ old.now) (before : HasCleanDisk mid → (trees : Trees) →
    mid.may_leave trees → old.may_leave trees) where
  pub takes_made : Takes mid new {X = Unit {0}} (Ok tt) → {X : Type 0} (x : X) → Takes old new {X = X} (Ok x)
  takes_made it x = record {
    outside = it.outside;
    honesty = λ clean. clean_before (it.honesty clean);
    taken = λ clean. let t = it.taken clean in (t.0, subst (λ db. IsTaken db new.now) (same (it.honesty clean)) t.1);
    durable = it.durable;
    cause = tt;
    kept = tt;
    crash = tt;
    is_open = tt;
  }

  pub takes_refused : (fault : StoreFault) → Takes mid new {X = Unit {0}} (Err fault) → {X : Type 0} → Takes old new {X = X} (Err fault)
  takes_refused fault it = record {
    outside = it.outside;
    honesty = λ clean. clean_before (it.honesty clean);
    taken = tt;
    durable = tt;
    cause = λ clean. subst (IsCause fault) (same (it.honesty clean)) (it.cause clean);
    kept = λ clean live. it.kept clean live ∙ same (it.honesty clean);
    crash = λ clean trees may. left clean trees (it.crash clean trees may);
    is_open = it.is_open;
  }
    where
      left : HasCleanDisk new → (trees : Trees) → mid.may_leave trees ⊎ ((fault ≢ NotOurs) × (fault ≢ Version) × IsMigrated mid.now trees)
          → old.may_leave trees ⊎ ((fault ≢ NotOurs) × (fault ≢ Version) × IsMigrated old.now trees)
      left clean trees (inl may) = inl (before (it.honesty clean) trees may)
      left clean trees (inr made) = inr (made.0, made.1, subst (λ db. IsMigrated db trees) (same (it.honesty clean)) made.2)

-- the plans of tables that were adopted
pub kept_taken : (mid new : State) (kept : KeptPlans) → Takes mid new {X = Unit {0}} (Ok tt)
    → (HasCleanDisk mid → HoldsPlans (world_of mid.now.trees).plans kept) → KeepsPlans new kept
kept_taken mid new kept it holds = λ clean live. elim (it.taken clean).1 [
  | inl same ↦ subst (λ (db : Database). HoldsPlans (world_of db.trees).plans kept) (sym same.1) (holds (it.honesty clean))
  | inr moved ↦ subst (λ (w : World). HoldsPlans w.plans kept) (sym moved.1) (holds (it.honesty clean))
]
