-- Rows of a table whose rowids rise.
use Rattle.std.proofs.Common.{◌≡◌, ◌+◌, ℕ, zero, suc, ℤ, pos, true, false, not, ◌||◌, List, [], ◌∷◌, ◌++◌, length, map, drop, None, IsTrue, refl, sym, ap, ap₂}
use Rattle.std.proofs.Common.{subst, ◌∙◌, arith, append_assoc, length-append, Less}
use Rattle.std.specs.List.{AllByRecursion}
use Rattle.std.proofs.lemmas.Bool.{and_parts}
use Rattle.std.proofs.lemmas.List.{get_or_past}
use Rattle.sqlite_value.specs.declared.value.Value.{Value}
use Rattle.sqlite_value.specs.declared.value.Value.TheVariants.{Null, Int, Real, Text, Blob}
use Rattle.sqlite_value.specs.Order.{Row, column, value_cmp}
use Rattle.sqlite_trees.specs.Tree.{Trees, rowid, IsAscending}
use Rattle.sqlite_trees.specs.View.{is_int}
use Rattle.sqlite_sql.specs.Term.{Term, eval_all}
use Rattle.sqlite_sql.specs.Query.{IsAnswer}
use Rattle.sqlite_schema.specs.declared.schema.Column.{Column}
use Rattle.sqlite_sql.specs.Ops.{is_null}
use Rattle.sqlite_schema.specs.Names.{is_key}
use Rattle.sqlite_schema.specs.Rules.{are_typed, are_present, suits}
use Rattle.sqlite_keyed.specs.Keyed.{IsKeyedBy}
use Rattle.sqlite_keyed.proofs.ListLemmas.{filter_all, all_of, ascending_from_map, ascending_weaker}
use Rattle.sqlite_keyed.proofs.KeyedLemmas.{lt_from_Less}
use Rattle.sqlite_value.proofs.OrderLemmas.{value_cmp-Int}
use Rattle.plan_store.specs.TableRows.{row_at}
use Rattle.plan_store.specs.Layouts.{AreNumbered}
use Rattle.plan_store.proofs.QueryForms.{of_table, by}
use Rattle.plan_store.proofs.QueryLemmas.{rows_by_number}

-- a row as it is
abbrev pub as_is : Row → Row
as_is row = row

abbrev pub whole_in : Value → ℤ
whole_in (Int n) = n
whole_in _ = pos 0

-- the rowid of a row, and its columns
abbrev pub entry_of : Row → ℤ × Row
entry_of row = (whole_in (column row 0), drop 1 row)

pub is_entry : (row : Row) → IsTrue (is_int (rowid row)) → row ≡ row_at as_is (entry_of row)
is_entry [] h = cc
is_entry (Null ∷ row) h = cc
is_entry (Int n ∷ row) h = refl
is_entry (Real x ∷ row) h = cc
is_entry (Text t ∷ row) h = cc
is_entry (Blob b ∷ row) h = cc

are_entries : (rows : List Row) → AllByRecursion (λ row. IsTrue (is_int (rowid row))) rows → rows ≡ map (row_at as_is) (map entry_of rows)
are_entries [] all = refl
are_entries (row ∷ rows) all = ap₂ ◌∷◌ (is_entry row all.0) (are_entries rows all.1)

abbrev Below : Row → Row → Type 0
Below a b = value_cmp (rowid a) (rowid b) ≡ Less

pub entries_rise : (rows : List Row) → AreNumbered rows → IsKeyedBy (λ (e : ℤ × Row). e.0) (map entry_of rows)
entries_rise rows numbered =
    let up = ascending_from_map Below (row_at as_is) (map entry_of rows) (subst (IsAscending Below) (are_entries rows numbered.1) numbered.0) in
    ascending_weaker _ _ (λ a b h. lt_from_Less _ _ (sym (value_cmp-Int a.0 b.0) ∙ h)) (map entry_of rows) up

-- the rows of a query of all rows, in the order of their rowids
pub read_all : (tree : ℕ) (project : List Term) (db : Trees) → AreNumbered (db tree) → (show : ℤ × Row → Row) → ((x : ℤ × Row) → eval_all project ([] ∷ row_at as_is x ∷ []) ≡ show x)
    → (rows : List Row) → IsAnswer (of_table tree [] project (by 0 ∷ [])) db [] rows → rows ≡ map show (map entry_of (db tree))
read_all tree project db numbered show shows rows answer =
    let entries = map entry_of (db tree) in
    rows_by_number as_is tree [] project [] db entries (are_entries (db tree) numbered.1) (entries_rise (db tree) numbered) (λ _. true) (λ x. refl) show shows rows answer
    ∙ ap (map show) (filter_all (λ _. true) entries (all_of (λ _. true ≡ true) (λ x. refl) entries))

-- ---- as many values as columns

abbrev pub IsFilled : Column → Type 0
IsFilled c = c.not_null ≡ true

pub width : (at : ℕ) (cs : List Column) (front row : Row) → AllByRecursion IsFilled cs →
    length front ≡ at + 1 → are_typed None at cs row ≡ true → are_present None at cs (front ++ row) ≡ true →
    length row ≡ length cs
width at [] front [] filled size typed present = refl
width at [] front (v ∷ row) filled size typed present = cc
width at (c ∷ cs) front [] filled size typed present =
    let first = (and_parts (is_key None at || not c.not_null || not (is_null (column (front ++ []) (at + 1)))) (are_present None (at + 1) cs (front ++ [])) present).0 in
    let past : column (front ++ []) (at + 1) ≡ Null = get_or_past (front ++ []) (at + 1) Null (let e = length-append front [] in omega (arith, e, size)) in
    let off : false ≡ true = rw (filled.0, past) at first in
    cc
width at (c ∷ cs) front (v ∷ row) filled size typed present =
    let more = (and_parts (is_key None at || not c.not_null || not (is_null (column (front ++ v ∷ row) (at + 1)))) (are_present None (at + 1) cs (front ++ v ∷ row)) present).1 in
    let rest = (and_parts (suits c v) (are_typed None (at + 1) cs row) typed).1 in
    let late : are_present None (at + 1) cs ((front ++ v ∷ []) ++ row) ≡ true = ap (are_present None (at + 1) cs) (append_assoc front (v ∷ []) row) ∙ more in
    let wide : length (front ++ v ∷ []) ≡ at + 1 + 1 = let e = length-append front (v ∷ []) in omega (arith, e, size) in
    ap suc (width (at + 1) cs (front ++ v ∷ []) row filled.1 wide rest late)

-- the values from a place on
abbrev pub cells : Row → ℕ → ℕ → Row
cells row from zero = []
cells row from (suc count) = column row from ∷ cells row (from + 1) count

pub cells_all : (front row : Row) (from : ℕ) → length front ≡ from → cells (front ++ row) from (length row) ≡ row
cells_all front [] from size = refl
cells_all front (v ∷ row) from size =
    let first : column (front ++ v ∷ row) from ≡ v = middle front from size in
    let wide : length (front ++ v ∷ []) ≡ from + 1 = let e = length-append front (v ∷ []) in omega (arith, e, size) in
    ap₂ ◌∷◌ first (ap (λ r. cells r (from + 1) (length row)) (sym (append_assoc front (v ∷ []) row)) ∙ cells_all (front ++ v ∷ []) row (from + 1) wide)
  where
    middle : (front : Row) (from : ℕ) → length front ≡ from → column (front ++ v ∷ row) from ≡ v
    middle [] zero size = refl
    middle [] (suc from) size = absurd (omega (arith, size))
    middle (w ∷ front) zero size = absurd (omega (arith, size))
    middle (w ∷ front) (suc from) size = middle front from (omega (arith, size))

module _ (columns : List Column) (filled : AllByRecursion IsFilled columns) where
  -- the row has a value of its type in each column, and is never NULL
  abbrev pub IsFull : Row → Type 0
  IsFull row = (are_typed None 0 columns (drop 1 row) ≡ true) × (are_present None 0 columns row ≡ true)

  full_shown : (row : Row) → IsTrue (is_int (rowid row)) → IsFull row → cells (row_at as_is (entry_of row)) 1 (length columns) ≡ drop 1 row
  full_shown row whole full =
      let e = entry_of row in
      let present = ap (are_present None 0 columns) (sym (is_entry row whole)) ∙ full.1 in
      let wide : length e.1 ≡ length columns = width 0 columns (Int e.0 ∷ []) e.1 filled refl full.0 present in
      ap (cells (row_at as_is e) 1) (sym wide) ∙ cells_all (Int e.0 ∷ []) e.1 1 refl

  -- full rows are shown as they are, without their numbers
  pub all_full : (rows : List Row) → AllByRecursion (λ row. IsTrue (is_int (rowid row))) rows → AllByRecursion IsFull rows
      → map (λ e. cells (row_at as_is e) 1 (length columns)) (map entry_of rows) ≡ map (drop 1) rows
  all_full [] whole full = refl
  all_full (row ∷ rows) whole full = ap₂ ◌∷◌ (full_shown row whole.0 full.0) (all_full rows whole.1 full.1)
