-- The ids of a table with a column of ids are words.
use Rattle.std.proofs.Common.{◌≡◌, ℕ, zero, suc, ◌+◌, ◌-◌, ◌≤◌, ◌<◌, ◌==◌, ◌&&◌, Bool, true, false, List, [], ◌∷◌, ◌++◌, Option, Some, None, Ok, length, refl, sym, ap, ◌∙◌, subst, arith, cond}
use Rattle.std.specs.Prelude.{drop, is_some, nat_le, nat_lt, not, take}
use Rattle.std.specs.List.{AllByRecursion, list_all}
use Rattle.std.specs.Str.{is_utf8}
use Rattle.std.specs.Str.Lossy.{utf8_lossy}
use Rattle.std.proofs.lemmas.Bool.{and_parts}
use Rattle.std.proofs.lemmas.List.{drop-drop}
use Rattle.std.proofs.lemmas.Str.{IsUtf8-from_is_utf8, utf8_lossy-IsUtf8}
use Rattle.plan_psplib.specs.Lines.{trim}
use Rattle.plan_table.specs.declared.fault.TableCode.TheVariants as code
use Rattle.plan_table.specs.declared.header.Column.{Column}
use Rattle.plan_table.specs.declared.header.Column.TheVariants as columns
use Rattle.plan_table.specs.Csv.{Row}
use Rattle.plan_table.specs.Cells.{is_separator, name}
use Rattle.plan_table.specs.Durations.{duration}
use Rattle.plan_table.specs.Header.{Head, same_kind}
use Rattle.plan_table.specs.Limits.{IsId, is_printable}
use Rattle.plan_table.specs.Predecessors.{Label, ids_in, predecessors_at}
use Rattle.plan_table.specs.Reading.{◌>>=◌, check}
use Rattle.plan_table.specs.Rows.{activity_read, cell_read, characters, first_cell, fresh_activity, id_read, is_id, is_id_byte, longest_id, need, new_id, row_read}
use Rattle.plan_table.specs.Entries.{Entries, activity_row, added, capacities_read, capacity_row, entries_at, entries_in, entry_read, filled_row, first_capacities, id_of, id_place, ids_at, is_blank_row, is_capacity, name_place, no_entries, place_from, row_by}
use Rattle.plan_table.specs.Table.{Activity}
use Rattle.plan_table.proofs.AcceptedLemmas.{place_range}
use Rattle.plan_table.proofs.DigitLemmas.{all_weaker}
use Rattle.plan_table.proofs.LimitLemmas.{all_push, check_ok, same_ok, then_ok}

-- ---- a cell that is an id

id_text : (cell : List ℕ) → is_id cell ≡ true → IsId (utf8_lossy cell)
id_text cell is =
    let all = and_parts (not (length cell == 0) && nat_le (characters cell) longest_id && list_all is_id_byte cell) (is_printable cell) is in
    let front = and_parts (not (length cell == 0) && nat_le (characters cell) longest_id) (list_all is_id_byte cell) all.0 in
    let some = and_parts (not (length cell == 0)) (nat_le (characters cell) longest_id) front.0 in
    let utf8 = (and_parts (is_utf8 cell) _ all.1).0 in
    let same_text = utf8_lossy-IsUtf8 cell (IsUtf8-from_is_utf8 cell utf8) in
    subst IsId (sym same_text) (record {
      some = by_text cell some.0;
      bytes = all_weaker is_id_byte (λ byte. nat_lt 32 byte) (λ b e. (and_parts (nat_lt 32 b) (not (is_separator b)) e).0) cell front.1;
    })
  where
    by_text : (text : List ℕ) → not (length text == 0) ≡ true → 0 < length text
    by_text [] e = absurd (cc)
    by_text (b ∷ bs) e = omega arith

-- ---- the row of an activity

-- no cell changes the id
cell_keeps : (ids before : List Label) (line : ℕ) (a b : Activity) (column : Column) (resource cell : List ℕ) → cell_read ids before line a column resource cell ≡ Ok b → b.id ≡ a.id
unfolding cell_read
cell_keeps ids before line a b columns.Duration resource cell e =
    then_ok (duration line cell) _ b e (λ n is e. ap (λ (x : Activity). x.id) (sym (same_ok (record a { duration = n }) b e)))
cell_keeps ids before line a b columns.Id resource cell e = then_ok (id_read before line cell) _ b e (λ u is e. ap (λ (x : Activity). x.id) (sym (same_ok a b e)))
cell_keeps ids before line a b columns.Name resource cell e =
    then_ok (name line cell) _ b e (λ text is e. ap (λ (x : Activity). x.id) (sym (same_ok (record a { name = text }) b e)))
cell_keeps ids before line a b columns.Predecessors resource cell e =
    then_ok (predecessors_at ids line [] (ids_in cell)) _ b e (λ js is e. ap (λ (x : Activity). x.id) (sym (same_ok (record a { predecessors = a.predecessors ++ js }) b e)))
cell_keeps ids before line a b columns.Resource resource cell e =
    then_ok (need line resource cell) _ b e (λ n is e. ap (λ (x : Activity). x.id) (sym (same_ok (record a { needs = a.needs ++ n ∷ [] }) b e)))
cell_keeps ids before line a b columns.Note resource cell e = ap (λ (x : Activity). x.id) (sym (same_ok a b e))
cell_keeps ids before line a b columns.Nothing resource cell e = ap (λ (x : Activity). x.id) (sym (same_ok a b e))

row_keeps : (ids before : List Label) (line : ℕ) (a b : Activity) (heads : List Head) (cells : List (List ℕ)) → row_read ids before line a heads cells ≡ Ok b → b.id ≡ a.id
unfolding row_read
row_keeps ids before line a b [] cells e = ap (λ (x : Activity). x.id) (sym (same_ok a b e))
row_keeps ids before line a b (head ∷ heads) cells e =
    then_ok (cell_read ids before line a head.column head.name (trim (first_cell cells))) _ b e (λ x is e.
    row_keeps ids before line x b heads (drop 1 cells) e ∙ cell_keeps ids before line a x head.column head.name (trim (first_cell cells)) is)

-- the cell of a column of ids is an id
id_cell : (ids before : List Label) (line : ℕ) (a b : Activity) (column : Column) (resource cell : List ℕ) → same_kind columns.Id column ≡ true →
    cell_read ids before line a column resource cell ≡ Ok b → is_id cell ≡ true
unfolding cell_read id_read
id_cell ids before line a b columns.Id resource cell kind e =
    then_ok (id_read before line cell) _ b e (λ u is e.
    then_ok (check (is_id cell) code.BadId line) _ u is (λ v good is. check_ok (is_id cell) code.BadId line v good))
id_cell ids before line a b columns.Duration resource cell kind e = absurd (cc)
id_cell ids before line a b columns.Name resource cell kind e = absurd (cc)
id_cell ids before line a b columns.Predecessors resource cell kind e = absurd (cc)
id_cell ids before line a b columns.Resource resource cell kind e = absurd (cc)
id_cell ids before line a b columns.Note resource cell kind e = absurd (cc)
id_cell ids before line a b columns.Nothing resource cell kind e = absurd (cc)

-- the cell at the place of the ids is an id; d columns are before it
id_at_place : (ids before : List Label) (line k d p : ℕ) (a b : Activity) (heads : List Head) (cells : List (List ℕ)) → place_from columns.Id k heads ≡ Some p → p ≡ k + d →
    row_read ids before line a heads cells ≡ Ok b → is_id (trim (first_cell (drop d cells))) ≡ true
unfolding row_read
id_at_place ids before line k d p a b [] cells at place e = absurd (cc)
id_at_place ids before line k d p a b (head ∷ heads) cells at place e =
    then_ok (cell_read ids before line a head.column head.name (trim (first_cell cells))) _ b e (λ x is e.
    by_kind x (λ n at place. id_at_place ids before line (k + 1) n p x b heads (drop 1 cells) at place e) (same_kind columns.Id head.column) refl d at place is)
  where
    Rest : Type 0
    Rest = (n : ℕ) → place_from columns.Id (k + 1) heads ≡ Some p → p ≡ k + 1 + n → is_id (trim (first_cell (drop n (drop 1 cells)))) ≡ true

    by_kind : (x : Activity) → Rest → (t : Bool) → same_kind columns.Id head.column ≡ t → (d : ℕ) → cond t (Some k) (place_from columns.Id (k + 1) heads) ≡ Some p → p ≡ k + d →
        cell_read ids before line a head.column head.name (trim (first_cell cells)) ≡ Ok x → is_id (trim (first_cell (drop d cells))) ≡ true
    by_kind x rest true kind d at place is =
        let here : k ≡ p = cc in
        let none : 0 ≡ d = omega (arith, here, place) in
        subst (λ n. is_id (trim (first_cell (drop n cells))) ≡ true) none (id_cell ids before line a x head.column head.name (trim (first_cell cells)) kind is)
    by_kind x rest false kind zero at place is = absurd (let past = place_range (k + 1) p heads at in omega (arith, past, place))
    by_kind x rest false kind (suc d) at place is =
        let more : 1 + d ≡ suc d = omega arith in
        subst (λ (cs : List (List ℕ)). is_id (trim (first_cell cs)) ≡ true) (drop-drop d 1 cells ∙ ap (λ n. drop n cells) more)
        (rest d at (omega (arith, place)))

activity_id : (ids before : List Label) (line p : ℕ) (heads : List Head) (cells : List (List ℕ)) (b : Activity) → id_place heads ≡ Some p →
    activity_read ids before line (trim (first_cell (drop p cells))) heads cells ≡ Ok b → IsId b.id
unfolding activity_read
activity_id ids before line p heads cells b at e =
    let id = trim (first_cell (drop p cells)) in
    then_ok (row_read ids before line (fresh_activity line id) heads cells) _ b e (λ x is e.
    then_ok (check (nat_le (length cells) (length heads)) code.Cells line) _ b e (λ u whole e.
    let same_id : x.id ≡ utf8_lossy id = row_keeps ids before line (fresh_activity line id) x heads cells is in
    let good = id_at_place ids before line 0 p p (fresh_activity line id) x heads cells at (omega arith) is in
    subst (λ (y : Activity). IsId y.id) (same_ok x b e) (subst IsId (sym same_id) (id_text id good))))

-- ---- all rows

abbrev AreWords : Entries → Type 0
AreWords e = AllByRecursion (λ (a : Activity). IsId a.id) e.activities

activity_row_words : (heads : List Head) (ids : List Label) (e f : Entries) (line p : ℕ) (cells : List (List ℕ)) → id_place heads ≡ Some p →
    activity_row heads ids e line (trim (first_cell (drop p cells))) cells ≡ Ok f → AreWords e → AreWords f
unfolding activity_row added
activity_row_words heads ids e f line p cells at is words =
    then_ok (check (nat_lt (length e.activities) 500) code.Limit line) _ f is (λ u room is.
    then_ok (activity_read ids (take (length e.activities) ids) line (trim (first_cell (drop p cells))) heads cells) _ f is (λ a read is.
    then_ok (check (nat_le (e.total + a.duration) 1000000) code.Limit line) _ f is (λ v fits is.
    let all : Entries = record { activities = e.activities ++ a ∷ []; capacities = e.capacities; total = e.total + a.duration } in
    subst AreWords (same_ok all f is)
    (all_push (λ (x : Activity). IsId x.id) e.activities a words (activity_id ids (take (length e.activities) ids) line p heads cells a at read)))))

capacity_row_words : (heads : List Head) (e f : Entries) (line : ℕ) (cells : List (List ℕ)) → capacity_row heads e line cells ≡ Ok f → AreWords e → AreWords f
unfolding capacity_row
capacity_row_words heads e f line cells is words =
    then_ok (first_capacities (is_some e.capacities) line) _ f is (λ u new is.
    then_ok (capacities_read line [] heads cells) _ f is (λ found read is.
    then_ok (check (nat_le (length cells) (length heads)) code.Cells line) _ f is (λ v whole is.
    let all : Entries = record { activities = e.activities; capacities = Some found; total = e.total } in
    subst AreWords (same_ok all f is) words)))

entry_words : (heads : List Head) (ids : List Label) (e f : Entries) (p : ℕ) (row : Row) → id_place heads ≡ Some p → entry_read heads (Some p) ids e row ≡ Ok f → AreWords e → AreWords f
unfolding entry_read
entry_words heads ids e f p row at is words = by_blank (is_blank_row row.cells) is
  where
    id : List ℕ
    id = trim (first_cell (drop p row.cells))

    by_row : (b : Bool) → row_by b heads ids e row.line id row.cells ≡ Ok f → AreWords f
    by_row true is = capacity_row_words heads e f row.line row.cells is words
    by_row false is = activity_row_words heads ids e f row.line p row.cells at is words

    by_blank : (b : Bool) → cond b (Ok e) (filled_row heads (Some p) ids e row.line id row.cells) ≡ Ok f → AreWords f
    by_blank true is = subst AreWords (same_ok e f is) words
    by_blank false is = by_row (is_capacity (Some p) id) is

entries_words : (heads : List Head) (ids : List Label) (e f : Entries) (p : ℕ) (rows : List Row) → id_place heads ≡ Some p → entries_at heads (Some p) ids e rows ≡ Ok f →
    AreWords e → AreWords f
unfolding entries_at
entries_words heads ids e f p [] at is words = subst AreWords (same_ok e f is) words
entries_words heads ids e f p (row ∷ rows) at is words =
    then_ok (entry_read heads (Some p) ids e row) _ f is (λ g read is. entries_words heads ids g f p rows at is (entry_words heads ids e g p row at read words))

-- if there is a column of ids, then all ids are words
pub own_words : (heads : List Head) (rows : List Row) (e : Entries) → entries_in heads rows ≡ Ok e → is_some (id_place heads) ≡ true → AllByRecursion (λ (a : Activity). IsId a.id) e.activities
unfolding entries_in
own_words heads rows e is own =
    then_ok (ids_at (id_place heads) (name_place heads) [] rows) _ e is (λ ids all is.
    then_ok (entries_at heads (id_place heads) ids no_entries rows) _ e is (λ f read is.
    then_ok (check (nat_le 1 (length f.activities)) code.Limit 0) _ e is (λ u some is.
    subst AreWords (same_ok f e is) (by_place ids f (id_place heads) refl own read))))
  where
    by_place : (ids : List Label) (f : Entries) (o : Option ℕ) → id_place heads ≡ o → is_some o ≡ true → entries_at heads o ids no_entries rows ≡ Ok f → AreWords f
    by_place ids f None at own read = absurd (cc)
    by_place ids f (Some p) at own read = entries_words heads ids no_entries f p rows at read tt
