-- Tables that were found in files: their rows are in order.
use Rattle.std.proofs.Common.{◌≡◌, ◌⊎◌, inl, inr, ℕ, List, [], Result, Ok, Err, IfOk, true, false, None, sym, subst}
use Rattle.std.proofs.Math.Logic.{∥∥₁_elim}
use Rattle.std.specs.List.{AllByRecursion}
use Rattle.sqlite_disk.specs.declared.start.Start as start
use Rattle.sqlite_wal.specs.Recovery.{Image}
use Rattle.sqlite_wal.specs.Files.{image_at}
use Rattle.sqlite_pages.specs.PageMap.{PageMap}
use Rattle.sqlite_pool.specs.File.{version_in, in_use}
use Rattle.sqlite_trees.specs.declared.store.Shape.{Shape}
use Rattle.sqlite_trees.specs.Tree.{Trees}
use Rattle.sqlite_trees.specs.View.{View}
use Rattle.sqlite_trees.specs.Props.{IsOrdered-prop}
use Rattle.sqlite_schema.specs.declared.schema.Schema.{Schema}
use Rattle.sqlite_catalog.specs.Listing.{IsSound}
use Rattle.sqlite_store.specs.declared.catalog.Wanted.{Wanted}
use Rattle.sqlite_store.specs.Listing.{all_shapes, all_reals, file_trees, IsOurs}
use Rattle.sqlite_store.specs.Listed.{catalog_rows, is_listed}
use Rattle.sqlite_store.proofs.ListingLemmas.{all_ordered}
use Rattle.sqlite.specs.Effect.{Database, IsDatabase}
use Rattle.sqlite.specs.State.{State, HasCleanDisk, IsLive, Opens}
use Rattle.sqlite.specs.Start.{FindsIn}
use Rattle.sqlite_trees.specs.declared.store.Store.{Ghosts}
use Rattle.sqlite.specs.Held.{Held, state}
use Rattle.sqlite.specs.Files.{AreFoundIn}
use Rattle.sqlite.proofs.ListingLemmas.{empty_is_sound}
use Rattle.plan_store.specs.Tables.{no_schema}
use Rattle.plan_store.specs.Layouts.{AreNumbered, AreInOrder}
use Rattle.plan_store.specs.Reload.{IsInOrder}
use Rattle.plan_store.specs.declared.fault.StoreFault.{StoreFault}
use Rattle.plan_store.specs.declared.fault.StoreFault.TheVariants.{NotOurs, Version, NoMemory, Store}
use Rattle.plan_store.specs.declared.leftover.Leftover.TheVariants as left
use Rattle.plan_store.specs.declared.kept_plans.KeptPlans.{KeptPlans}
use Rattle.plan_store.specs.KeptPlans.{KeepsPlans}
use Rattle.plan_store.specs.BookCalls.{IsDurable}
use Rattle.plan_store.specs.SqlBooks.{IsServing}
use Rattle.plan_store.specs.OnDisk.{IsTakenFrom}
use Rattle.plan_store.specs.Adoption.{Takes, IsWhole, IsRefused}
use Rattle.plan_store.proofs.ReloadLemmas.{numbered_by, one_schema}

-- a view of these trees
abbrev view_of : (ℕ → Shape) → (ℕ → ℕ) → Trees → View
view_of shape reals trees = record {
  trees = trees;
  committed = trees;
  cursors = λ _. None;
  shape = shape;
  reals = reals;
  committed_shape = shape;
  committed_reals = reals;
  marks = [];
  is_numbered = true;
  has_sums = false;
  is_open = true;
  is_broken = false;
  is_clean = true;
}

-- the rows that the pages of a sound file read as rise by their numbers
of_pages : (size : ℕ) (wanted : List Wanted) (pages : PageMap) (schema : Schema) → ∥ IsOurs size true wanted pages ∥₁
    → IsSound schema (file_trees size wanted pages) → AllByRecursion (λ t. AreNumbered (file_trees size wanted pages t.tree)) schema.tables
of_pages size wanted pages schema ours sound =
    let ordered = ∥∥₁_elim ours (IsOrdered-prop (all_shapes wanted) (file_trees size wanted pages)) (λ found. all_ordered found.file.db (version_in pages)) in
    numbered_by (view_of (all_shapes wanted) (all_reals wanted) (file_trees size wanted pages)) schema
    (rw (catalog_rows size wanted (in_use size pages)) (is_listed wanted)) ordered sound

-- the rows of tables that were found in files are in order
of_files : (image : Image) (db : Database) → AreFoundIn image db.trees → IsDatabase db → AreInOrder db
of_files image db (inl found) sound =
    subst (λ (trees : Trees). IsSound db.schema trees → AllByRecursion (λ t. AreNumbered (trees t.tree)) db.schema.tables)
    (sym found.5) (λ read. of_pages found.0 found.2 found.1 db.schema found.4 read) sound
of_files image db (inr none) sound =
    let same : db.schema ≡ no_schema = one_schema db.schema no_schema db.trees sound (empty_is_sound db.trees none.1.1) in
    subst (λ (schema : Schema). AllByRecursion (λ t. AreNumbered (db.trees t.tree)) schema.tables) (sym same) tt

pub in_order : (image : Image) (s : State) → AreFoundIn image s.committed.trees → Opens s → IsLive s → IsInOrder s
in_order image s found opens live =
    let sound = (live opens.is_open).0 in
    record {
      is_open = opens.is_open;
      outside = opens.autocommit;
      settled = opens.clean;
      order = of_files image s.now (subst (λ (db : Database). AreFoundIn image db.trees) (sym opens.clean) found) sound;
      sound = sound;
    }

-- two facts of a result that is fine
pub both_if_ok : {X E : Type 0} (r : Result X E) (P Q : X → Type 0) → IfOk r P → IfOk r Q → IfOk r (λ x. P x × Q x)
both_if_ok (Ok x) P Q p q = (p, q)
both_if_ok (Err e) P Q p q = tt

-- a failed adoption leaves its connection
pub refused_with : {S X : Type 0} (g : Ghosts S) (old : State) (conn : Held S) (fault : StoreFault) (r : Result X StoreFault) → r ≡ Err fault
    → Takes old (state g conn) r → IsRefused g old fault (left.Connection conn)
refused_with {S} {X} g old conn fault r is took =
    let it = subst (λ q. Takes old (state g conn) {X = X} q) is took in
    record {
      honesty = it.honesty;
      cause = it.cause;
      whole = whole fault;
      is_open = it.is_open;
      kept = (it.outside, it.kept);
      crash = it.crash;
    }
  where
    whole : (f : StoreFault) → IsWhole f (left.Connection conn)
    whole NotOurs = tt
    whole Version = tt
    whole NoMemory = tt
    whole Store = tt

-- a book serves tables that were adopted
pub serves_taken : {X : Type 0} (old new : State) (kept : KeptPlans) (r : Result X StoreFault) (x : X) → r ≡ Ok x → Takes old new r
    → KeepsPlans new kept → IsServing new None kept
serves_taken {X} old new kept r x is took plans =
    let it = subst (λ q. Takes old new {X = X} q) is took in
    record { ready = record { outside = it.outside; stands = λ clean live. (it.taken clean).0 }; next = tt; plans = plans }

-- tables that were found in files and adopted stand, and a crash leaves them
module _ {S F X : Type 0} (g : Ghosts S) (first : start.Ghosts F) (opened new : Held S) (r : Result X StoreFault) (x : X) (is : r ≡ Ok x)
    (took : Takes (state g opened) (state g new) r) where
  taken : Takes (state g opened) (state g new) {X = X} (Ok x)
  taken = subst (λ q. Takes (state g opened) (state g new) {X = X} q) is took

  pub taken_from : (HasCleanDisk (state g opened) → FindsIn (image_at first) (state g opened)) → IsTakenFrom first new g
  taken_from found clean = ((taken.taken clean).0, (opened, found (taken.honesty clean), (taken.taken clean).1))

  pub taken_durably : IsDurable (state g new)
  taken_durably = taken.durable
