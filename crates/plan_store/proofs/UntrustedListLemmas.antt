-- From the rows that a query of a whole table shows to the rows that the table keeps.
use Rattle.std.proofs.Common.{◌≡◌, ◌⊎◌, inl, inr, ◌<ℤ◌, ℕ, ℤ, true, List, [], ◌∷◌, length, map, drop, Option, Some, None, option_map, refl, sym, ap, ap₂, subst, ◌∙◌, arith, Contains, slice_index_or}
use Rattle.std.specs.List.{AllByRecursion, AllZip}
use Rattle.std.proofs.lemmas.List.Elements.{All-from_recursion}
use Rattle.sqlite_value.specs.Order.{Row, column}
use Rattle.sqlite_trees.specs.Tree.{IsAscending}
use Rattle.sqlite_keyed.proofs.ListLemmas.{map-map, all_unmap, ascending-map, ascending_from_map}
use Rattle.plan_store.specs.TableRows.{row_at, Keeps}
use Rattle.plan_store.specs.Layouts.{AreNumbered}
use Rattle.plan_store.specs.UntrustedRows.{TakesRow, TakesAll, TakesTable}
use Rattle.plan_store.proofs.KeepLemmas.{reads_entries}
use Rattle.plan_store.proofs.NumberedRowLemmas.{entry_of, is_entry, entries_rise}

pub all_contains : {A : Type 0} (P : A → Type 0) (xs : List A) (x : A) → AllByRecursion P xs → Contains xs x → P x
all_contains P xs x all (k, low, is) = subst P is (All-from_recursion P xs all k x low)

module _ {A X : Type 0} (written : A → Row) (read : Row → A) (Holds : A → Type 0) (back : (a : A) → Holds a → (n : ℤ) → read (row_at written (n, a)) ≡ a) (kept : X → A) where
  abbrev takes : Row → Option X → Type 0
  takes row found = TakesRow written Holds row (option_map kept found)

  abbrev Shows : Row → X → Type 0
  Shows row x = (row ≡ written (kept x)) × Holds (kept x)

  -- each value under the number of its row
  entries : List Row → List X → List (ℤ × A)
  entries [] xs = []
  entries (row ∷ rows) [] = []
  entries (row ∷ rows) (x ∷ xs) = ((entry_of row).0, kept x) ∷ entries rows xs

  abbrev IsWhole : Row → Type 0
  IsWhole row = Rattle.std.proofs.Common.IsTrue (Rattle.sqlite_trees.specs.View.is_int (column row 0))

  row_is : (row : Row) (x : X) → IsWhole row → Shows (drop 1 row) x → row ≡ row_at written ((entry_of row).0, kept x)
  row_is row x whole shows = is_entry row whole ∙ ap (λ r. row_at (λ k. k) ((entry_of row).0, r)) shows.0

  are_entries : (rows : List Row) (xs : List X) → AllByRecursion IsWhole rows → AllZip Shows (map (drop 1) rows) xs → rows ≡ map (row_at written) (entries rows xs)
  unfolding entries
  are_entries [] [] whole zip = refl
  are_entries [] (x ∷ xs) whole zip = absurd zip
  are_entries (row ∷ rows) [] whole zip = absurd zip
  are_entries (row ∷ rows) (x ∷ xs) whole zip = ap₂ ◌∷◌ (row_is row x whole.0 zip.0) (are_entries rows xs whole.1 zip.1)

  numbers : (rows : List Row) (xs : List X) → AllZip Shows (map (drop 1) rows) xs → map (λ (e : ℤ × A). e.0) (entries rows xs) ≡ map (λ (e : ℤ × Row). e.0) (map entry_of rows)
  unfolding entries
  numbers [] [] zip = refl
  numbers [] (x ∷ xs) zip = absurd zip
  numbers (row ∷ rows) [] zip = absurd zip
  numbers (row ∷ rows) (x ∷ xs) zip = ap (λ l. (entry_of row).0 ∷ l) (numbers rows xs zip.1)

  are_back : (rows : List Row) (xs : List X) → AllZip Shows (map (drop 1) rows) xs → AllByRecursion (λ e. read (row_at written e) ≡ e.1) (entries rows xs)
  unfolding entries
  are_back [] xs zip = tt
  are_back (row ∷ rows) [] zip = absurd zip
  are_back (row ∷ rows) (x ∷ xs) zip = (back (kept x) zip.0.1 (entry_of row).0, are_back rows xs zip.1)

  contents : (rows : List Row) (xs : List X) → AllZip Shows (map (drop 1) rows) xs → map (λ (e : ℤ × A). e.1) (entries rows xs) ≡ map kept xs
  unfolding entries
  contents [] [] zip = refl
  contents [] (x ∷ xs) zip = absurd zip
  contents (row ∷ rows) [] zip = absurd zip
  contents (row ∷ rows) (x ∷ xs) zip = ap (λ l. kept x ∷ l) (contents rows xs zip.1)

  all_hold : (rows : List Row) (xs : List X) → AllZip Shows rows xs → AllByRecursion Holds (map kept xs)
  all_hold rows [] zip = tt
  all_hold [] (x ∷ xs) zip = absurd zip
  all_hold (row ∷ rows) (x ∷ xs) zip = (zip.0.1, all_hold rows xs zip.1)

  module _ (rows : List Row) (numbered : AreNumbered rows) where
    keeps : (xs : List X) → AllZip Shows (map (drop 1) rows) xs → Keeps written read rows
    keeps xs zip = record {
      entries = entries rows xs;
      are = are_entries rows xs numbered.1 zip;
      rise = ascending_from_map (λ (m n : ℤ). m <ℤ n) (λ (e : ℤ × A). e.0) (entries rows xs)
          (subst (IsAscending (λ (m n : ℤ). m <ℤ n)) (sym (numbers rows xs zip)) (ascending-map (λ (m n : ℤ). m <ℤ n) (λ (e : ℤ × Row). e.0) (map entry_of rows) (entries_rise rows numbered)));
      back = are_back rows xs zip;
    }

    reads : (xs : List X) → AllZip Shows (map (drop 1) rows) xs → map read rows ≡ map kept xs
    unfolding keeps
    reads xs zip = reads_entries written read (keeps xs zip) ∙ contents rows xs zip

    -- each row of an office's table shows a row of the office
    shown_by : (it : Keeps written read rows) → AllByRecursion Holds (map read rows) → AllByRecursion (λ row. (a : A) × Holds a × (row ≡ written a)) (map (drop 1) rows)
    shown_by it all =
        let held : AllByRecursion Holds (map (λ (e : ℤ × A). e.1) it.entries) = subst (AllByRecursion Holds) (reads_entries written read it) all in
        let each = all_from it.entries (all_unmap Holds (λ (e : ℤ × A). e.1) it.entries held) in
        subst (AllByRecursion (λ row. (a : A) × Holds a × (row ≡ written a))) (sym (ap (map (drop 1)) it.are ∙ map-map (drop 1) (row_at written) it.entries)) each
      where
        all_from : (es : List (ℤ × A)) → AllByRecursion (λ e. Holds e.1) es → AllByRecursion (λ row. (a : A) × Holds a × (row ≡ written a)) (map (λ e. drop 1 (row_at written e)) es)
        all_from [] all = tt
        all_from (e ∷ es) all = ((e.1, all.0, refl), all_from es all.1)

    pub table_taken : (found : Option (List X)) → TakesAll takes (map (drop 1) rows) found → TakesTable written read Holds rows (option_map (map kept) found)
    table_taken (Some xs) zip = (keeps xs zip, sym (reads xs zip), all_hold (map (drop 1) rows) xs zip)
    table_taken None h = λ it all.
        let shown = all_contains (λ r. (a : A) × Holds a × (r ≡ written a)) (map (drop 1) rows) h.0 (shown_by it all) h.1 in
        h.2 shown.0 shown.1 shown.2
