-- The effect of an edit on a table, as a list of rowids and written rows.
use Rattle.std.proofs.Common.{◌≡◌, ℤ, pos, ◌+ℤ◌, ◌<ℤ◌, Bool, true, false, not, cond, List, [], ◌∷◌, ◌++◌, map, filter, fold, drop, IsPermutation, refl, sym, ap, ap₂, ◌∙◌, arith, int_cmp, Greater}
use Rattle.std.specs.List.{AllByRecursion}
use Rattle.std.specs.Ordering.{match_ordering}
use Rattle.std.proofs.lemmas.Int.{ints}
use Rattle.sqlite_value.specs.declared.value.Value.{Value}
use Rattle.sqlite_value.specs.declared.value.Value.TheVariants.{Null, Int}
use Rattle.sqlite_value.specs.Order.{Row}
use Rattle.sqlite_trees.specs.Tree.{Trees, rowid, put_row}
use Rattle.sqlite_trees.proofs.ListLemmas.{along_permutation}
use Rattle.sqlite_schema.specs.declared.schema.Kind.TheVariants.{Integer}
use Rattle.sqlite_schema.specs.declared.schema.Table.{Table}
use Rattle.sqlite_sql.specs.Ops.{unary}
use Rattle.sqlite_rules.specs.declared.error.Rowids.TheVariants.{Chosen, Given}
use Rattle.sqlite_rules.specs.Cast.{cast, cast_all, cast_row}
use Rattle.sqlite_rules.specs.Edit.{id_in, next_rowid, numbered, with_rowid, without_all, put_all, edit_of, edited}
use Rattle.sqlite_rules.specs.Calls.{ids_of}
use Rattle.sqlite_keyed.specs.Keyed.{IsKeyedBy, insert_by, next_key}
use Rattle.sqlite_keyed.specs.Lists.{update_where, delete_where, without_key}
use Rattle.sqlite_keyed.proofs.ListLemmas.{map-map, all_map, all-filter}
use Rattle.sqlite_keyed.proofs.KeyedLemmas.{Less-from_lt}
use Rattle.sqlite_keyed.proofs.SliceLemmas.{insert_next}
use Rattle.sqlite_keyed.proofs.WriteLemmas.{removes_delete}
use Rattle.sqlite_typed.proofs.RowLemmas.{puts-map, deletes-map}
use Rattle.plan_store.specs.TableRows.{row_at}

either : (b : Bool) (x : Value) → cond b x x ≡ x
either true x = refl
either false x = refl

pub cast_null : cast Integer Null ≡ Null
unfolding unary
cast_null = either _ Null

pub cast_int : (n : ℤ) → cast Integer (Int n) ≡ Int n
unfolding unary
cast_int n = either _ (Int n)

-- rows that are given their numbers keep them
pub numbered_given : (rows news : List Row) → numbered Given rows news ≡ news
numbered_given rows [] = refl
numbered_given rows (new ∷ news) = ap (λ l. new ∷ l) (numbered_given (put_row new rows) news)

fold-map : {A B C : Type 0} (step : C → B → C) (f : A → B) (start : C) (xs : List A)
    → fold step start (map f xs) ≡ fold (λ c x. step c (f x)) start xs
fold-map step f start [] = refl
fold-map step f start (x ∷ xs) = fold-map step f (step start (f x)) xs

-- ---- lists by a number

abbrev TakesOutAlike : (A : Type 0) → List ℤ → List ℤ → Type 0
TakesOutAlike A a b = (xs : List (ℤ × A)) → fold (without_key (λ x. x.0)) xs a ≡ fold (without_key (λ x. x.0)) xs b

module _ {A : Type 0} where
  abbrev pub number_of : ℤ × A → ℤ
  number_of entry = entry.0

  abbrev pub at_number : (A → A) → ℤ × A → ℤ × A
  at_number change entry = (entry.0, change entry.1)

  past : (news : List (ℤ × A)) (x : ℤ × A) (xs : List (ℤ × A)) → AllByRecursion (λ n. x.0 <ℤ n.0) news
      → fold (insert_by number_of) (x ∷ xs) news ≡ x ∷ fold (insert_by number_of) xs news
  past [] x xs above = refl
  past (n ∷ news) x xs above = rw (Less-from_lt x.0 n.0 above.0) (past news x (insert_by number_of xs n) above.1)

  first : (new : ℤ × A) (xs : List (ℤ × A)) → AllByRecursion (λ x. new.0 <ℤ x.0) xs → insert_by number_of xs new ≡ new ∷ xs
  first new [] above = refl
  first new (x ∷ xs) above =
      let low = above.0 in
      let turned : int_cmp x.0 new.0 ≡ Greater = grind (arith, ints) in
      ap (λ o. match_ordering o (x ∷ insert_by number_of xs new) (new ∷ xs) (new ∷ x ∷ xs)) turned

  kept_above : (n : ℤ) (p : ℤ × A → Bool) (xs : List (ℤ × A)) → AllByRecursion (λ x. n <ℤ x.0) xs → AllByRecursion (λ x. n <ℤ x.0) (delete_where p xs)
  kept_above n p = all-filter (λ x. n <ℤ x.0) (λ x. not (p x))

  -- rows that are removed and inserted again keep their order
  pub put_back : (p : ℤ × A → Bool) (change : A → A) (xs : List (ℤ × A)) → IsKeyedBy number_of xs
      → fold (insert_by number_of) (delete_where p xs) (map (at_number change) (filter p xs)) ≡ update_where p (at_number change) xs
  put_back p change [] up = refl
  put_back p change (x ∷ xs) up = go (p x) (put_back p change xs up.1)
    where
      above : AllByRecursion (λ n. x.0 <ℤ n.0) (map (at_number change) (filter p xs))
      above = all_map _ (at_number change) _ (all-filter (λ y. x.0 <ℤ y.0) p xs up.0)

      go : (b : Bool) → fold (insert_by number_of) (delete_where p xs) (map (at_number change) (filter p xs)) ≡ update_where p (at_number change) xs
          → fold (insert_by number_of) (cond (not b) (x ∷ delete_where p xs) (delete_where p xs)) (map (at_number change) (cond b (x ∷ filter p xs) (filter p xs)))
          ≡ cond b (at_number change x) x ∷ update_where p (at_number change) xs
      go true more =
          ap (λ l. fold (insert_by number_of) l (map (at_number change) (filter p xs))) (first (at_number change x) (delete_where p xs) (kept_above x.0 p xs up.0))
          ∙ past _ (at_number change x) (delete_where p xs) above ∙ ap (λ l. at_number change x ∷ l) more
      go false more = past _ x (delete_where p xs) above ∙ ap (λ l. x ∷ l) more

  filters_turned : (p q : ℤ × A → Bool) (xs : List (ℤ × A)) → filter p (filter q xs) ≡ filter q (filter p xs)
  filters_turned p q [] = refl
  filters_turned p q (x ∷ xs) = go (p x) (q x) refl refl (filters_turned p q xs)
    where
      go : (a b : Bool) → p x ≡ a → q x ≡ b → filter p (filter q xs) ≡ filter q (filter p xs)
          → filter p (cond b (x ∷ filter q xs) (filter q xs)) ≡ filter q (cond a (x ∷ filter p xs) (filter p xs))
      go true true s t more = rw (s, t) (ap (λ l. x ∷ l) more)
      go true false s t more = rw (t) more
      go false true s t more = rw (s) more
      go false false s t more = more

  -- the order of removals makes no difference
  taken_in_any_order : (a b : List ℤ) → IsPermutation a b → TakesOutAlike A a b
  taken_in_any_order = along_permutation (TakesOutAlike A) (λ a xs. refl) (λ n a b same xs. same (without_key number_of xs n))
      (λ m n a xs. ap (λ l. fold (without_key number_of) l a) (filters_turned _ _ xs)) (λ a b c p q xs. p xs ∙ q xs)

  pub taken_out : (p : ℤ × A → Bool) (xs : List (ℤ × A)) (ids : List ℤ) → IsKeyedBy number_of xs → IsPermutation (map number_of (filter p xs)) ids
      → fold (without_key number_of) xs ids ≡ delete_where p xs
  taken_out p xs ids up same = sym (taken_in_any_order _ ids same xs) ∙ removes_delete number_of p xs up

-- ---- rows

module _ {A : Type 0} (written : A → Row) where
  abbrev entry_row : ℤ × A → Row
  entry_row = row_at written

  next_from : (n : ℤ) (xs : List (ℤ × A)) → fold (λ _ r. id_in (rowid r) +ℤ pos 1) n (map entry_row xs) ≡ fold (λ _ x. x.0 +ℤ pos 1) n xs
  next_from n [] = refl
  next_from n (x ∷ xs) = next_from (x.0 +ℤ pos 1) xs

  pub next_is : (xs : List (ℤ × A)) → next_rowid (map entry_row xs) ≡ next_key number_of xs
  next_is = next_from (pos 1)

  module _ (table : Table) (casts : (a : A) → cast_all table.columns (written a) ≡ written a) (db : Trees)
      (xs : List (ℤ × A)) (are : db table.tree ≡ map entry_row xs) (up : IsKeyedBy number_of xs) where
    cast_entry : (x : ℤ × A) → cast_row table (entry_row x) ≡ entry_row x
    cast_entry x = ap₂ ◌∷◌ (cast_int x.0) (casts x.1)

    -- a new row comes after the others
    pub row_inserted : (a : A) → edited db (edit_of db table [] Chosen 0 ((Null ∷ written a) ∷ [])) ≡ map entry_row (xs ++ (next_key number_of xs, a) ∷ [])
    row_inserted a =
        ap (λ c. put_row (with_rowid Chosen (db table.tree) c) (db table.tree)) (ap₂ ◌∷◌ cast_null (casts a))
        ∙ ap (λ rows. put_row (Int (next_rowid rows) ∷ written a) rows) are ∙ ap (λ k. put_row (Int k ∷ written a) (map entry_row xs)) (next_is xs)
        ∙ puts-map number_of entry_row (λ _. refl) ((next_key number_of xs, a) ∷ []) xs ∙ ap (map entry_row) (insert_next number_of xs (next_key number_of xs, a) up refl)

    -- the rowid of a row that an UPDATE reads, and its new row
    abbrev pub changed_row : (A → A) → ℤ × A → Row
    changed_row change x = Int x.0 ∷ entry_row (at_number change x)

    pub rows_updated : (p : ℤ × A → Bool) (change : A → A) (rows : List Row) → rows ≡ map (changed_row change) (filter p xs)
        → edited db (edit_of db table (ids_of rows) Given 1 rows) ≡ map entry_row (update_where p (at_number change) xs)
    rows_updated p change rows shown =
        let found = filter p xs in
        let ids : ids_of rows ≡ map number_of found = ap ids_of shown ∙ map-map (λ r. id_in (rowid r)) (changed_row change) found in
        let news : map (λ s. cast_row table (drop 1 s)) rows ≡ map entry_row (map (at_number change) found) =
        ap (map (λ s. cast_row table (drop 1 s))) shown ∙ map-map (λ s. cast_row table (drop 1 s)) (changed_row change) found
        ∙ (λ i. map (λ x. cast_entry (at_number change x) i) found) ∙ sym (map-map entry_row (at_number change) found) in
        let left : without_all (db table.tree) (ids_of rows) ≡ map entry_row (delete_where p xs) =
        ap₂ without_all are ids ∙ deletes-map number_of entry_row (λ _. refl) (map number_of found) xs ∙ ap (map entry_row) (removes_delete number_of p xs up) in
        ap (put_all (without_all (db table.tree) (ids_of rows))) (numbered_given _ _ ∙ news) ∙ ap (λ l. put_all l (map entry_row (map (at_number change) found))) left
        ∙ fold-map (λ rows r. put_row r rows) entry_row (map entry_row (delete_where p xs)) (map (at_number change) found)
        ∙ puts-map number_of entry_row (λ _. refl) (map (at_number change) found) (delete_where p xs) ∙ ap (map entry_row) (put_back p change xs up)

    pub rows_deleted : (p : ℤ × A → Bool) (ids : List ℤ) → IsPermutation (map number_of (filter p xs)) ids
        → edited db (edit_of db table ids Given 0 []) ≡ map entry_row (delete_where p xs)
    rows_deleted p ids same =
        ap (λ l. without_all l ids) are ∙ deletes-map number_of entry_row (λ _. refl) ids xs ∙ ap (map entry_row) (taken_out p xs ids up same)
