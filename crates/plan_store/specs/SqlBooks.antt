-- A book in SQL as contracts use it (docs/definitions.md, "Tables").
use Rattle.std.specs.Prelude.{ℕ, IsTrue, Option, Some, IfSome, string_bytes, refl}
use Rattle.std.proofs.Common.{sym, subst, ap}
use Rattle.std.proofs.Math.Logic.{∥∥₁_elim}
use Rattle.std.specs.Coded.{Coded, code_by, coded×, coded_ℕ}
use Rattle.sqlite_trees.specs.Tree.{Trees}
use Rattle.sqlite_trees.specs.declared.store.Store.{Ghosts}
use Rattle.sqlite.specs.Effect.{Database}
use Rattle.sqlite.specs.State.{State, HasCleanDisk}
use Rattle.sqlite.specs.Held.{Held, held_code, state}
use Rattle.plan_rows.specs.Books.{Shelf}
use Rattle.plan_store.specs.Stores.{world_of, IsStore}
use Rattle.plan_store.specs.declared.next_plan.NextPlan.{NextPlan}
use Rattle.plan_store.specs.declared.kept_plans.KeptPlans.{KeptPlans}
use Rattle.plan_store.specs.KeptPlans.{KeepsPlans}
use Rattle.plan_store.specs.BookCalls.{Stands, IsReady, IsNextNumber, IsStoreLeft, may_leave}

-- The connection of a book, the numbers of writing calls that succeeded and failed, and the number
-- of calls that failed for the store.
pub record Counted (S : Type 0) : Type 0 where
  pub conn : Held S
  pub made : ℕ
  pub refused : ℕ
  pub denials : ℕ

abbrev pub book_code : {S : Type 0} → Coded S → Coded (Counted S)
book_code {S} store =
    code_by (Held S × (ℕ × (ℕ × ℕ))) (coded× (held_code store) (coded× coded_ℕ (coded× coded_ℕ coded_ℕ)))
    (λ b. (b.conn, (b.made, (b.refused, b.denials))))
    (λ p. record { conn = p.0; made = p.1.0; refused = p.1.1.0; denials = p.1.1.1 }) (λ _. refl)

-- Its connection is ready, the kept number is that of the desk's next plan, and the kept plans are
-- those in the tables.
pub record IsServing (s : State) (kept : Option NextPlan) (listed : KeptPlans) : Type 0 where
  pub ready : IsReady s
  pub next : IfSome kept (λ next. IsNextNumber s (string_bytes next.desk) next.n)
  pub plans : KeepsPlans s listed

-- The calls can fail, and the tables are readable as long as the store is open.
abbrev pub sql_shelf : {S : Type 0} → Ghosts S → Shelf (Counted S)
sql_shelf {S} g = record {
  world = λ book. world_of (state g book.conn).now.trees;
  stands = λ book. Stands (state g book.conn);
  honest = λ book. HasCleanDisk (state g book.conn);
  can_refuse = Unit {0};
  may_leave = λ book. may_leave (state g book.conn);
  made = λ book. book.made;
  refused = λ book. book.refused;
  denials = λ book. book.denials;
  faults = λ book. (state g book.conn).faults;
}

-- a crash may leave the tables as they are
pub sql_now_may : (s : State) → Stands s → (IsTrue s.is_open → s.may_leave s.committed.trees)
    → may_leave s (Some (world_of s.now.trees))
sql_now_may s stands stays =
    let left = subst IsStore (λ i. record { schema = stands.store.schema i; trees = s.now.trees }) stands.store in
    (s.now.trees, subst s.may_leave (sym (ap (λ (d : Database). d.trees) stands.settled)) (stays stands.is_open), left, refl)

-- trees that may be left are those of a store, or they aren't
pub sql_leaves : (left : Trees → Type 0) → ∥ ((trees : Trees) × left trees) ∥₁
    → ((trees : Trees) → left trees → IsStoreLeft trees → ⊥)
    → ((trees : Trees) → left trees → ¬ IsStoreLeft trees → ⊥) → ⊥
sql_leaves left some ours others = ∥∥₁_elim some (λ x y. absurd x)
    (λ it. others it.0 it.1 (λ store. ours it.0 it.1 store))
