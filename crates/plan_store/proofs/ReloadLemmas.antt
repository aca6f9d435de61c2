-- Tables that are read again are the same as before, and their rows are in order.
use Rattle.std.proofs.Common.{◌≡◌, ◌≤◌, Bool, true, false, IsTrue, refl, sym, ap, subst, ◌∙◌, arith}
use Rattle.std.specs.List.{AllByRecursion}
use Rattle.sqlite_trees.specs.Tree.{Trees}
use Rattle.sqlite_trees.specs.View.{View, doubt, IsClean, IsQuiet, IsRolledBack, IsShaped, IsOrdered}
use Rattle.sqlite_trees.specs.Objects.{catalog_tree, IsListed}
use Rattle.sqlite_trees.specs.declared.store.Store.{Ghosts}
use Rattle.sqlite_schema.specs.declared.schema.Schema.{Schema}
use Rattle.sqlite_catalog.specs.Listing.{IsSound}
use Rattle.sqlite_catalog.specs.Reading.{IsTableShaped}
use Rattle.sqlite_catalog.proofs.LayoutLemmas.{objects_rise}
use Rattle.sqlite_catalog.proofs.ReadLemmas.{lists_once, shaped_of}
use Rattle.sqlite_keyed.proofs.ListLemmas.{all_weaker}
use Rattle.sqlite.specs.Effect.{Database}
use Rattle.sqlite.specs.State.{HasCleanDisk, IsLive, Opens}
use Rattle.sqlite.specs.Held.{Held, state}
use Rattle.plan_store.specs.Layouts.{AreNumbered}
use Rattle.plan_store.specs.Reload.{IsReread, IsStoreOf}

-- the rows of each table that is listed rise by their numbers
pub numbered_by : (v : View) (schema : Schema) → IsListed (v.trees catalog_tree) v.shape v.reals →
    IsOrdered v.shape v.trees → IsSound schema v.trees →
    AllByRecursion (λ t. AreNumbered (v.trees t.tree)) schema.tables
numbered_by v schema listed ordered sound =
    all_weaker (IsTableShaped v) (λ t. AreNumbered (v.trees t.tree)) (λ t h. subst (λ s. IsShaped s (v.trees t.tree)) h.0 (ordered t.tree)) schema.tables
    (shaped_of v schema listed (objects_rise v listed ordered) sound.lists).tables

-- trees list one schema
pub one_schema : (a b : Schema) (trees : Trees) → IsSound a trees → IsSound b trees → a ≡ b
one_schema a b trees s t = lists_once (trees catalog_tree) a b s.lists t.lists

open_unbroken : (v : View) → (v.is_open ≡ false → IsTrue v.is_broken) → v.is_broken ≡ false → IsTrue v.is_open
open_unbroken v shut whole = go v.is_open refl
  where
    go : (b : Bool) → v.is_open ≡ b → IsTrue v.is_open
    go true e = e
    go false e = absurd (let broken = shut e in cc)

module _ {S : Type 0} (g : Ghosts S) (old : Held S) (store : S) (settled : IsTrue (state g old).is_open → (state g old).now ≡ (state g old).committed) (live : IsLive (state g old))
    (undone : IsRolledBack (g.view old.store) (g.view store)) (quiet : IsQuiet g.view g.faults g.recovers g.is_shielded old.store store)
    (whole : IsClean (g.view store) → (g.view store).is_broken ≡ false) (shut : (g.view store).is_open ≡ false → IsTrue (g.view store).is_broken) where
  stands : IsClean (g.view store) → IsTrue (g.view store).is_open
  stands clean = open_unbroken (g.view store) shut (whole clean)

  was_open : IsClean (g.view store) → IsTrue (g.view old.store).is_open
  was_open clean = (undone.kept clean).was_open (stands clean)

  same_trees : IsClean (g.view store) → (g.view store).trees ≡ (state g old).now.trees
  same_trees clean = (undone.undone (stands clean)).0 ∙ sym (ap (λ (d : Database). d.trees) (settled (was_open clean)))

  was_clean : IsClean (g.view store) → HasCleanDisk (state g old)
  was_clean clean = let less = quiet.clean in omega arith

  pub read_again : (new : Held S) → ((g.view store).is_broken ≡ false → IsOrdered (g.view store).shape (g.view store).trees)
      → ((g.view store).is_broken ≡ false → IsListed ((g.view store).trees catalog_tree) (g.view store).shape (g.view store).reals)
      → doubt (g.view store).is_clean ≤ doubt (state g new).is_clean → (HasCleanDisk (state g new) → (state g new).now.trees ≡ (g.view store).trees)
      → (HasCleanDisk (state g new) → Opens (state g new) × IsLive (state g new)) → (state g new).in_transaction ≡ false
      → ((trees : Trees) → IsTrue (state g new).is_open → (state g new).may_leave trees → trees ≡ (state g new).committed.trees)
      → (IsTrue (g.view old.store).is_open → g.recovers old.store (g.view old.store).committed) → IsReread (state g old) (state g new)
  read_again new ordered listed less trees opens outside leaves stays =
      let clean = λ (h : HasCleanDisk (state g new)). let low : doubt (g.view store).is_clean ≡ 0 = omega arith in low in
      let same = λ (h : HasCleanDisk (state g new)). trees h ∙ same_trees (clean h) in
      let schema = λ (h : HasCleanDisk (state g new)).
      one_schema (state g new).now.schema (state g old).now.schema (state g old).now.trees
      (subst (IsSound (state g new).now.schema) (same h) ((opens h).1 (opens h).0.is_open).0)
      (live (was_open (clean h))).0 in
      record {
        outside = outside;
        honesty = λ h. was_clean (clean h);
        was_open = λ h. was_open (clean h);
        in_order = λ h. record {
          is_open = (opens h).0.is_open;
          outside = outside;
          settled = (opens h).0.clean;
          order = subst (λ t. AllByRecursion (λ table. AreNumbered (t table.tree)) (state g new).now.schema.tables) (sym (trees h))
              (numbered_by (g.view store) (state g new).now.schema (listed (whole (clean h)))
              (ordered (whole (clean h))) (subst (IsSound (state g new).now.schema) (trees h)
              ((opens h).1 (opens h).0.is_open).0));
          sound = ((opens h).1 (opens h).0.is_open).0;
        };
        same = λ h. (λ i. record { schema = schema h i; trees = same h i });
        crash = λ h found left.
            let is : found ≡ (g.view old.store).committed =
            leaves found (opens h).0.is_open left ∙ sym (ap (λ (d : Database). d.trees) (opens h).0.clean) ∙ same h ∙ ap (λ (d : Database). d.trees) (settled (was_open (clean h))) in
            subst (g.recovers old.store) (sym is) (stays (was_open (clean h)));
      }

  pub left_over : (back : S) → IsQuiet g.view g.faults g.recovers g.is_shielded store back → (IsClean (g.view back) → IsTrue (g.view back).is_open → (g.view back).trees ≡ (g.view store).trees)
      → IsStoreOf g (state g old) back
  left_over back more rows =
      let clean = λ (h : IsClean (g.view back)). let less = more.clean in let low : doubt (g.view store).is_clean ≡ 0 = omega arith in low in
      record {
        honesty = λ h. was_clean (clean h);
        same = λ h is. (was_open (clean h), rows h is ∙ same_trees (clean h));
        crash = λ h trees found. quiet.outcomes trees (more.outcomes trees found);
      }
