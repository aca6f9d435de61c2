-- The rows that a query of one table shows, in the order that it asks for.
use Rattle.std.proofs.Common.{◌≡◌, ℕ, ℤ, ◌<ℤ◌, Bool, true, false, cond, List, [], ◌∷◌, map, filter, refl, sym, ap, ◌∙◌, Ordering, Less, is_gt, int_cmp}
use Rattle.std.specs.List.{AllByRecursion, list_all}
use Rattle.std.proofs.lemmas.List.{map-id}
use Rattle.sqlite_value.specs.Order.{Row}
use Rattle.sqlite_value.proofs.OrderLemmas.{value_cmp-Int}
use Rattle.sqlite_trees.specs.Tree.{Trees}
use Rattle.sqlite_sql.specs.Term.{Term, eval_all, holds}
use Rattle.sqlite_sql.specs.Query.{IsAnswer, output, output_cmp}
use Rattle.sqlite_keyed.specs.Keyed.{IsKeyedBy}
use Rattle.sqlite_keyed.specs.Lists.{sort_by, insert_sorted}
use Rattle.sqlite_typed.proofs.AnswerLemmas.{at_end, last_table, answer_by_keys, answer_sorted, IsNoTie}
use Rattle.sqlite_typed.proofs.TestLemmas.{last_key}
use Rattle.plan_rows.specs.Plans.{put_in_order, in_order}
use Rattle.plan_store.specs.TableRows.{row_at}
use Rattle.plan_store.proofs.QueryForms.{of_table, by}
use Rattle.plan_store.proofs.EditLemmas.{number_of}

module _ {A : Type 0} (written : A → Row) (tree : ℕ) (test project : List Term) (params : Row) (db : Trees) (xs : List (ℤ × A))
    (are : db tree ≡ map (row_at written) xs) (up : IsKeyedBy number_of xs) (p : ℤ × A → Bool) (tests : (x : ℤ × A) → list_all (holds (params ∷ row_at written x ∷ [])) test ≡ p x)
    (show : ℤ × A → Row) (shows : (x : ℤ × A) → eval_all project (params ∷ row_at written x ∷ []) ≡ show x) where
  -- in the order of their numbers
  pub rows_by_number : (rows : List Row) → IsAnswer (of_table tree test project (by 0 ∷ [])) db params rows → rows ≡ map show (filter p xs)
  rows_by_number rows answer =
      sym (map-id rows)
      ∙ answer_by_keys (of_table tree test project (by 0 ∷ [])) db params (last_table db tree (row_at written) number_of xs are up (at_end db)) p tests (λ r. r) show shows refl refl
      (λ a b. last_key (value_cmp-Int a.0 b.0)) rows answer

  -- by other columns, and then by their numbers
  pub rows_sorted : (order : List (Term × Rattle.sqlite_value.specs.declared.keys.Key.Key)) (cmp : ℤ × A → ℤ × A → Ordering) → ((a b : ℤ × A) → int_cmp a.0 b.0 ≡ Less → IsNoTie (cmp a b))
      → ((a b : ℤ × A) → output_cmp (of_table tree test project order) (output (of_table tree test project order) (params ∷ row_at written a ∷ []))
      (output (of_table tree test project order) (params ∷ row_at written b ∷ [])) ≡ cmp a b)
      → (rows : List Row) → IsAnswer (of_table tree test project order) db params rows → rows ≡ map show (sort_by cmp (filter p xs))
  rows_sorted order cmp untied is rows answer =
      sym (map-id rows)
      ∙ answer_sorted (of_table tree test project order) db params (last_table db tree (row_at written) number_of xs are up (at_end db)) p tests (λ r. r) show shows refl refl
      cmp untied is rows answer

-- ---- the one order of rows that are in the order of their numbers

module _ {A : Type 0} (cmp : ℤ × A → ℤ × A → Ordering) (before : A → A → Bool) (agree : (x y : ℤ × A) → x.0 <ℤ y.0 → is_gt (cmp x y) ≡ before y.1 x.1) where
  abbrev content : ℤ × A → A
  content x = x.1

  put_alike : (x : ℤ × A) (ys : List (ℤ × A)) → AllByRecursion (λ y. x.0 <ℤ y.0) ys → map content (insert_sorted cmp x ys) ≡ put_in_order before x.1 (map content ys)
  put_alike x [] low = refl
  put_alike x (y ∷ ys) low =
      ap (λ b. map content (cond b (y ∷ insert_sorted cmp x ys) (x ∷ y ∷ ys))) (agree x y low.0)
      ∙ elim (before y.1 x.1) as (λ b. map content (cond b (y ∷ insert_sorted cmp x ys) (x ∷ y ∷ ys)) ≡ cond b (y.1 ∷ put_in_order before x.1 (map content ys)) (x.1 ∷ y.1 ∷ map content ys))
      [ true ↦ ap (λ l. y.1 ∷ l) (put_alike x ys low.1) | false ↦ refl ]

  all_put : (P : ℤ × A → Type 0) (x : ℤ × A) (ys : List (ℤ × A)) → P x → AllByRecursion P ys → AllByRecursion P (insert_sorted cmp x ys)
  all_put P x [] h all = (h, tt)
  all_put P x (y ∷ ys) h all =
      elim (is_gt (cmp x y)) as (λ b. AllByRecursion P (cond b (y ∷ insert_sorted cmp x ys) (x ∷ y ∷ ys))) [ true ↦ (all.0, all_put P x ys h all.1) | false ↦ (h, all) ]

  all_sorted : (P : ℤ × A → Type 0) (xs : List (ℤ × A)) → AllByRecursion P xs → AllByRecursion P (sort_by cmp xs)
  all_sorted P [] all = tt
  all_sorted P (x ∷ xs) all = all_put P x (sort_by cmp xs) all.0 (all_sorted P xs all.1)

  pub sorted_alike : (xs : List (ℤ × A)) → IsKeyedBy number_of xs → map content (sort_by cmp xs) ≡ in_order before (map content xs)
  sorted_alike [] up = refl
  sorted_alike (x ∷ xs) up = put_alike x (sort_by cmp xs) (all_sorted (λ y. x.0 <ℤ y.0) xs up.0) ∙ ap (put_in_order before x.1) (sorted_alike xs up.1)
