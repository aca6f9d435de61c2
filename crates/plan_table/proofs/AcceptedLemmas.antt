-- A list that can be read by its headers alone is read like that.
use Rattle.std.proofs.Common.{◌≡◌, ℕ, ◌+◌, ◌≤◌, ◌<◌, ◌==◌, ◌&&◌, ◌||◌, ◌⊎◌, inl, inr, Bool, true, false, List, [], ◌∷◌, ◌++◌, Option, Some, None, Result, Ok, length, refl, sym, ap, ◌∙◌, subst, arith, cond, append-nil, append_assoc}
use Rattle.std.specs.Prelude.{drop, is_some, nat_le, nat_lt, not, slice_index_or, take}
use Rattle.std.specs.List.{list_any}
use Rattle.std.proofs.lemmas.Bool.{and_from, ne_eqb}
use Rattle.std.proofs.lemmas.List.{drop-drop}
use Rattle.plan_psplib.specs.Lines.{trim}
use Rattle.plan_table.specs.declared.fault.TableCode.TheVariants as code
use Rattle.plan_table.specs.declared.header.Column.{Column}
use Rattle.plan_table.specs.declared.header.Column.TheVariants as columns
use Rattle.plan_table.specs.Csv.{Row}
use Rattle.plan_table.specs.Reading.{Fault, ◌>>=◌, check}
use Rattle.plan_table.specs.Cells.{amount}
use Rattle.plan_table.specs.Header.{Head, heads_at, heads_checked, same_kind}
use Rattle.plan_table.specs.Rows.{activity_read, first_cell}
use Rattle.plan_table.specs.Entries.{Entries, activity_row, added, capacities_read, capacity_in, capacity_read, capacity_row, entries_at, entries_in, entry_read, filled_row, first_capacities, id_of, id_place, ids_at, is_blank_row, is_capacity, name_place, no_entries, place_from, row_by}
use Rattle.plan_table.specs.Overrides.{Override, given, or_row, overrides_checked}
use Rattle.plan_table.specs.Predecessors.{Label}
use Rattle.plan_table.specs.Listing.{known_capacity, or_none, resource_by, resource_read, resources_at, rows_under, table_in}
use Rattle.plan_table.specs.Acceptance.{KeepsLists}
use Rattle.plan_table.specs.Settlement.{AreLimited, Body, cell_of, gives_capacity, has_capacity, header, ids_from, ids_place, is_capacities, is_given, is_place, settled, successors_checked}
use Rattle.plan_table.specs.Table.{Resource, Table}
use Rattle.plan_table.proofs.LimitLemmas.{check_ok, push_length, same_ok, then_ok}
use Rattle.plan_table.proofs.SettlementLemmas.{heads_stay, none_are_successors}

-- ---- the place of the ids

-- no resource is where the ids are, from column k on
abbrev IdsElsewhere : Option ℕ → ℕ → List Head → Type 0
IdsElsewhere place k [] = Unit {0}
IdsElsewhere place k (head ∷ heads) = (head.column ≡ columns.Resource → is_place place k ≡ false) × IdsElsewhere place (k + 1) heads

later_columns : (place k : ℕ) (heads : List Head) → place < k → IdsElsewhere (Some place) k heads
later_columns place k [] past = tt
later_columns place k (head ∷ heads) past = ((λ e. ne_eqb place k (λ is. omega (arith, is, past))), later_columns place (k + 1) heads (omega (arith, past)))

pub place_range : (k place : ℕ) (heads : List Head) → place_from columns.Id k heads ≡ Some place → k ≤ place
place_range k place [] is = absurd (cc)
place_range k place (head ∷ heads) is = by_kind (place_range (k + 1) place heads) (same_kind columns.Id head.column) is
  where
    by_kind : (place_from columns.Id (k + 1) heads ≡ Some place → k + 1 ≤ place) → (b : Bool) → cond b (Some k) (place_from columns.Id (k + 1) heads) ≡ Some place → k ≤ place
    by_kind rest true is = let same_place : k ≡ place = cc in omega (arith, same_place)
    by_kind rest false is = let past = rest is in omega (arith, past)

not_ids : (column : Column) → column ≡ columns.Resource → same_kind columns.Id column ≡ false
not_ids column e = ap (same_kind columns.Id) e

ids_elsewhere : (k place : ℕ) (heads : List Head) → place_from columns.Id k heads ≡ Some place → IdsElsewhere (Some place) k heads
ids_elsewhere k place [] is = tt
ids_elsewhere k place (head ∷ heads) is = by_kind (ids_elsewhere (k + 1) place heads) (same_kind columns.Id head.column) refl is
  where
    by_kind : (place_from columns.Id (k + 1) heads ≡ Some place → IdsElsewhere (Some place) (k + 1) heads) → (b : Bool) → same_kind columns.Id head.column ≡ b →
        cond b (Some k) (place_from columns.Id (k + 1) heads) ≡ Some place → IdsElsewhere (Some place) k (head ∷ heads)
    by_kind rest true ids is =
        let same_place : k ≡ place = cc in
        ((λ e. let none = not_ids head.column e in absurd (cc)), later_columns place (k + 1) heads (omega (arith, same_place)))
    by_kind rest false ids is =
        let past = place_range (k + 1) place heads is in
        ((λ e. ne_eqb place k (λ same_place. omega (arith, same_place, past))), rest is)

-- ---- the row of the capacities

-- the amounts of a row begin with those before
abbrev Extends : List (Option ℕ) → List (Option ℕ) → Type 0
Extends before found = (rest : List (Option ℕ)) × (found ≡ before ++ rest)

one_more : (line : ℕ) (before found : List (Option ℕ)) (column : Column) (name cell : List ℕ) → capacity_read line before column name cell ≡ Ok found → Extends before found
unfolding capacity_read
one_more line before found columns.Resource name cell is =
    then_ok (capacity_in line name cell) _ found is (λ c read is. (c ∷ [], sym (same_ok (before ++ c ∷ []) found is)))
one_more line before found columns.Duration name cell is = ([], sym (same_ok before found is) ∙ sym (append-nil before))
one_more line before found columns.Id name cell is = ([], sym (same_ok before found is) ∙ sym (append-nil before))
one_more line before found columns.Name name cell is = ([], sym (same_ok before found is) ∙ sym (append-nil before))
one_more line before found columns.Predecessors name cell is = ([], sym (same_ok before found is) ∙ sym (append-nil before))
one_more line before found columns.Note name cell is = ([], sym (same_ok before found is) ∙ sym (append-nil before))
one_more line before found columns.Nothing name cell is = ([], sym (same_ok before found is) ∙ sym (append-nil before))

all_more : (line : ℕ) (before found : List (Option ℕ)) (heads : List Head) (cells : List (List ℕ)) → capacities_read line before heads cells ≡ Ok found → Extends before found
unfolding capacities_read
all_more line before found [] cells is = ([], sym (same_ok before found is) ∙ sym (append-nil before))
all_more line before found (head ∷ heads) cells is =
    then_ok (capacity_read line before head.column head.name (trim (first_cell cells))) _ found is (λ more one is.
    let a = one_more line before more head.column head.name (trim (first_cell cells)) one in
    let b = all_more line more found heads (drop 1 cells) is in
    (a.0 ++ b.0, b.1 ∙ ap (λ (xs : List (Option ℕ)). xs ++ b.0) a.1 ∙ append_assoc before a.0 b.0))

at_end : (before rest : List (Option ℕ)) (c : Option ℕ) → slice_index_or (before ++ c ∷ rest) (length before) None ≡ c
at_end [] rest c = refl
at_end (b ∷ bs) rest c = at_end bs rest c

-- a capacity is given for a resource, or is in its cell
abbrev IsFilled : List Override → Column → List ℕ → List ℕ → Type 0
IsFilled overrides column name cell = column ≡ columns.Resource → (is_some (given overrides name) ≡ true) ⊎ ((length cell == 0) ≡ false)

-- a cell with a capacity has content
cell_filled : (line n : ℕ) (name cell : List ℕ) (c : Option ℕ) → capacity_in line name cell ≡ Ok c → known_capacity c name ≡ Ok n → (length cell == 0) ≡ false
cell_filled line n name cell None read known = absurd (cc)
cell_filled line n name cell (Some m) read known = by_content (length cell == 0) refl read
  where
    by_content : (b : Bool) → (length cell == 0) ≡ b → cond b (Ok None) (amount code.BadNeed line name cell >>= λ k. Ok (Some k)) ≡ Ok (Some m) → (length cell == 0) ≡ false
    by_content false is read = is
    by_content true is read = absurd (cc)

by_given : (overrides : List Override) (line n : ℕ) (name cell : List ℕ) (c found : Option ℕ) → found ≡ c → capacity_in line name cell ≡ Ok c →
    known_capacity (or_row (given overrides name) found) name ≡ Ok n → (is_some (given overrides name) ≡ true) ⊎ ((length cell == 0) ≡ false)
by_given overrides line n name cell c found same_amount read known = by_option (given overrides name) refl known
  where
    by_option : (o : Option ℕ) → given overrides name ≡ o → known_capacity (or_row o found) name ≡ Ok n → (is_some (given overrides name) ≡ true) ⊎ ((length cell == 0) ≡ false)
    by_option (Some m) is known = inl (ap is_some is)
    by_option None is known = inr (cell_filled line n name cell c read (subst (λ (o : Option ℕ). known_capacity o name ≡ Ok n) same_amount known))

-- what a column adds to the capacities and to the resources
abbrev Steps : List Override → Column → List ℕ → List ℕ → List (Option ℕ) → List Resource → Type 0
Steps overrides column name cell more rs = IsFilled overrides column name cell × (length rs ≡ length more)

same_size : (before more : List (Option ℕ)) (rs more_rs : List Resource) → length rs ≡ length before → before ≡ more → rs ≡ more_rs → length more_rs ≡ length more
same_size before more rs more_rs size a b = ap (λ (xs : List Resource). length xs) (sym b) ∙ size ∙ ap (λ (xs : List (Option ℕ)). length xs) a

column_filled : (overrides : List Override) (line : ℕ) (column : Column) (name cell : List ℕ) (caps before more : List (Option ℕ)) (rs more_rs : List Resource) →
    length rs ≡ length before → capacity_read line before column name cell ≡ Ok more → Extends more caps → resource_by column overrides caps rs name ≡ Ok more_rs →
    Steps overrides column name cell more more_rs
unfolding capacity_read
column_filled overrides line columns.Resource name cell caps before more rs more_rs size read extends is =
    then_ok (capacity_in line name cell) _ more read (λ c seen pushed.
    then_ok (known_capacity (or_row (given overrides name) (slice_index_or caps (length rs) None)) name) _ more_rs is (λ n known made.
    let r : Resource = record { name = name; capacity = n } in
    let more_is : before ++ c ∷ [] ≡ more = same_ok (before ++ c ∷ []) more pushed in
    let whole : caps ≡ before ++ c ∷ extends.0 = extends.1 ∙ ap (λ (xs : List (Option ℕ)). xs ++ extends.0) (sym more_is) ∙ append_assoc before (c ∷ []) extends.0 in
    let found : slice_index_or caps (length rs) None ≡ c =
    ap (λ k. slice_index_or caps k None) size ∙ ap (λ (xs : List (Option ℕ)). slice_index_or xs (length before) None) whole ∙ at_end before extends.0 c in (
      (λ e. by_given overrides line n name cell c (slice_index_or caps (length rs) None) found seen known),
      ap (λ (xs : List Resource). length xs) (sym (same_ok (rs ++ r ∷ []) more_rs made)) ∙ push_length rs r ∙ ap (λ k. k + 1) size
          ∙ sym (push_length before c) ∙ ap (λ (xs : List (Option ℕ)). length xs) more_is,
    )))
column_filled overrides line columns.Duration name cell caps before more rs more_rs size read extends is = ((λ e. absurd (cc)), same_size before more rs more_rs size (same_ok before more read) (same_ok rs more_rs is))
column_filled overrides line columns.Id name cell caps before more rs more_rs size read extends is = ((λ e. absurd (cc)), same_size before more rs more_rs size (same_ok before more read) (same_ok rs more_rs is))
column_filled overrides line columns.Name name cell caps before more rs more_rs size read extends is = ((λ e. absurd (cc)), same_size before more rs more_rs size (same_ok before more read) (same_ok rs more_rs is))
column_filled overrides line columns.Predecessors name cell caps before more rs more_rs size read extends is = ((λ e. absurd (cc)), same_size before more rs more_rs size (same_ok before more read) (same_ok rs more_rs is))
column_filled overrides line columns.Note name cell caps before more rs more_rs size read extends is = ((λ e. absurd (cc)), same_size before more rs more_rs size (same_ok before more read) (same_ok rs more_rs is))
column_filled overrides line columns.Nothing name cell caps before more rs more_rs size read extends is = ((λ e. absurd (cc)), same_size before more rs more_rs size (same_ok before more read) (same_ok rs more_rs is))

-- the resources from column k on, each with a capacity that is given or in its cell
abbrev AreFilled : List Override → List (List ℕ) → ℕ → List Head → Type 0
AreFilled overrides cells k [] = Unit {0}
AreFilled overrides cells k (head ∷ heads) = IsFilled overrides head.column head.name (trim (first_cell (drop k cells))) × AreFilled overrides cells (k + 1) heads

filled : (overrides : List Override) (line k : ℕ) (cells : List (List ℕ)) (caps before : List (Option ℕ)) (rs found : List Resource) (heads : List Head) →
    length rs ≡ length before → capacities_read line before heads (drop k cells) ≡ Ok caps → resources_at overrides caps rs heads ≡ Ok found → AreFilled overrides cells k heads
unfolding capacities_read resources_at resource_read
filled overrides line k cells caps before rs found [] size read is = tt
filled overrides line k cells caps before rs found (head ∷ heads) size read is =
    then_ok (capacity_read line before head.column head.name (trim (first_cell (drop k cells)))) _ caps read (λ more one read.
    then_ok (resource_by head.column overrides caps rs head.name) _ found is (λ more_rs made is.
    let step = column_filled overrides line head.column head.name (trim (first_cell (drop k cells))) caps before more rs more_rs size one (all_more line more caps heads (drop 1 (drop k cells)) read) made in
    (step.0, filled overrides line (k + 1) cells caps more more_rs found heads step.1 (subst (λ (cs : List (List ℕ)). capacities_read line more heads cs ≡ Ok caps) (drop-drop 1 k cells) read) is)))

-- ---- without a row of capacities

abbrev AreGiven : List Override → List Head → Type 0
AreGiven overrides [] = Unit {0}
AreGiven overrides (head ∷ heads) = (head.column ≡ columns.Resource → is_some (given overrides head.name) ≡ true) × AreGiven overrides heads

column_given : (overrides : List Override) (column : Column) (name : List ℕ) (rs more : List Resource) → resource_by column overrides [] rs name ≡ Ok more →
    column ≡ columns.Resource → is_some (given overrides name) ≡ true
column_given overrides columns.Resource name rs more is e =
    then_ok (known_capacity (or_row (given overrides name) (slice_index_or [] (length rs) None)) name) _ more is (λ n known made. by_option n (given overrides name) refl known)
  where
    by_option : (n : ℕ) (o : Option ℕ) → given overrides name ≡ o → known_capacity (or_row o None) name ≡ Ok n → is_some (given overrides name) ≡ true
    by_option n (Some m) is known = ap is_some is
    by_option n None is known = absurd (cc)
column_given overrides columns.Duration name rs more is e = absurd (cc)
column_given overrides columns.Id name rs more is e = absurd (cc)
column_given overrides columns.Name name rs more is e = absurd (cc)
column_given overrides columns.Predecessors name rs more is e = absurd (cc)
column_given overrides columns.Note name rs more is e = absurd (cc)
column_given overrides columns.Nothing name rs more is e = absurd (cc)

all_given : (overrides : List Override) (rs found : List Resource) (heads : List Head) → resources_at overrides [] rs heads ≡ Ok found → AreGiven overrides heads
unfolding resources_at resource_read
all_given overrides rs found [] is = tt
all_given overrides rs found (head ∷ heads) is =
    then_ok (resource_by head.column overrides [] rs head.name) _ found is (λ more one is.
    (column_given overrides head.column head.name rs more one, all_given overrides more found heads is))

-- ---- the rows

-- one of the rows is that of these capacities
record HasCapacities (heads : List Head) (place : Option ℕ) (rows : List Row) (caps : List (Option ℕ)) : Type 0 where
  row : Row
  among : (test : Row → Bool) → test row ≡ true → list_any test rows ≡ true
  capacities : is_capacities place row ≡ true
  read : capacities_read row.line [] heads row.cells ≡ Ok caps

same_row : (place : Option ℕ) (n : ℕ) (row : Row) → is_capacity place (id_of place n row.cells) ≡ is_capacities place row
same_row None n row = refl
same_row (Some p) n row = refl

-- what a row leaves of the capacities: those before, or its own
abbrev OneRow : List Head → Option ℕ → Row → Entries → Entries → Type 0
OneRow heads place row e g =
    (g.capacities ≡ e.capacities)
    ⊎ ((caps : List (Option ℕ)) × (g.capacities ≡ Some caps) × (is_capacities place row ≡ true) × (capacities_read row.line [] heads row.cells ≡ Ok caps))

capacity_row_leaves : (heads : List Head) (place : Option ℕ) (e g : Entries) (row : Row) → is_capacities place row ≡ true → capacity_row heads e row.line row.cells ≡ Ok g →
    OneRow heads place row e g
unfolding capacity_row
capacity_row_leaves heads place e g row capacity is =
    then_ok (first_capacities (is_some e.capacities) row.line) _ g is (λ u new is.
    then_ok (capacities_read row.line [] heads row.cells) _ g is (λ caps read is.
    then_ok (check (nat_le (length row.cells) (length heads)) code.Cells row.line) _ g is (λ v whole is.
    let all : Entries = record { activities = e.activities; capacities = Some caps; total = e.total } in
    inr (caps, ap (λ (x : Entries). x.capacities) (sym (same_ok all g is)), capacity, read))))

activity_row_leaves : (heads : List Head) (ids : List Label) (e g : Entries) (line : ℕ) (id : List ℕ) (cells : List (List ℕ)) → activity_row heads ids e line id cells ≡ Ok g →
    g.capacities ≡ e.capacities
unfolding activity_row added
activity_row_leaves heads ids e g line id cells is =
    then_ok (check (nat_lt (length e.activities) 500) code.Limit line) _ g is (λ u room is.
    then_ok (activity_read ids (take (length e.activities) ids) line id heads cells) _ g is (λ a read is.
    then_ok (check (nat_le (e.total + a.duration) 1000000) code.Limit line) _ g is (λ v fits is.
    let all : Entries = record { activities = e.activities ++ a ∷ []; capacities = e.capacities; total = e.total + a.duration } in
    ap (λ (x : Entries). x.capacities) (sym (same_ok all g is)))))

filled_row_leaves : (heads : List Head) (place : Option ℕ) (ids : List Label) (e g : Entries) (row : Row) (id : List ℕ) (b : Bool) → is_capacity place id ≡ b →
    is_capacity place id ≡ is_capacities place row → row_by b heads ids e row.line id row.cells ≡ Ok g → OneRow heads place row e g
filled_row_leaves heads place ids e g row id true capacity same_id is = capacity_row_leaves heads place e g row (sym same_id ∙ capacity) is
filled_row_leaves heads place ids e g row id false capacity same_id is = inl (activity_row_leaves heads ids e g row.line id row.cells is)

row_capacities : (heads : List Head) (place : Option ℕ) (ids : List Label) (e g : Entries) (row : Row) → entry_read heads place ids e row ≡ Ok g → OneRow heads place row e g
unfolding entry_read
row_capacities heads place ids e g row is = by_blank (is_blank_row row.cells) is
  where
    by_blank : (b : Bool) → cond b (Ok e) (filled_row heads place ids e row.line (id_of place (length e.activities) row.cells) row.cells) ≡ Ok g → OneRow heads place row e g
    by_blank true is = inl (ap (λ (x : Entries). x.capacities) (sym (same_ok e g is)))
    by_blank false is =
        let id = id_of place (length e.activities) row.cells in
        filled_row_leaves heads place ids e g row id (is_capacity place id) refl (same_row place (length e.activities) row) is

or_true : (a b : Bool) → b ≡ true → (a || b) ≡ true
or_true true b e = refl
or_true false b e = e

-- what rows leave of the capacities: those before, or those of one of them
abbrev AllRows : List Head → Option ℕ → List Row → Entries → Entries → Type 0
AllRows heads place rows e f = (f.capacities ≡ e.capacities) ⊎ ((caps : List (Option ℕ)) × (f.capacities ≡ Some caps) × HasCapacities heads place rows caps)

rows_capacities : (heads : List Head) (place : Option ℕ) (ids : List Label) (e f : Entries) (rows : List Row) → entries_at heads place ids e rows ≡ Ok f → AllRows heads place rows e f
unfolding entries_at
rows_capacities heads place ids e f [] is = inl (ap (λ (x : Entries). x.capacities) (sym (same_ok e f is)))
rows_capacities heads place ids e f (row ∷ rows) is =
    then_ok (entry_read heads place ids e row) _ f is (λ g read is.
    both g (row_capacities heads place ids e g row read) (rows_capacities heads place ids g f rows is))
  where
    both : (g : Entries) → OneRow heads place row e g → AllRows heads place rows g f → AllRows heads place (row ∷ rows) e f
    both g first (inr (caps, is, has)) =
        inr (caps, is, record { row = has.row; among = λ test holds. or_true (test row) (list_any test rows) (has.among test holds); capacities = has.capacities; read = has.read })
    both g (inl kept) (inl rest) = inl (rest ∙ kept)
    both g (inr (caps, is, capacities, read)) (inl rest) =
        inr (caps, rest ∙ is, record { row = row; among = λ test holds. ap (λ b. b || list_any test rows) holds; capacities = capacities; read = read })

-- ---- the law

limited_given : (body : Body) (k : ℕ) (heads : List Head) → AreGiven body.overrides heads → AreLimited body k heads
limited_given body k [] all = tt
limited_given body k (head ∷ heads) all =
    ((λ e. ap (λ b. b || (not (is_place body.place k) && list_any (gives_capacity body.place k) body.rows)) (all.0 e)), limited_given body (k + 1) heads all.1)

limited_filled : (body : Body) (k : ℕ) (heads : List Head) (row : Row) → ((test : Row → Bool) → test row ≡ true → list_any test body.rows ≡ true) → is_capacities body.place row ≡ true →
    IdsElsewhere body.place k heads → AreFilled body.overrides row.cells k heads → AreLimited body k heads
limited_filled body k [] row among capacities elsewhere all = tt
limited_filled body k (head ∷ heads) row among capacities elsewhere all =
    ((λ e. by_either e (all.0 e)), limited_filled body (k + 1) heads row among capacities elsewhere.1 all.1)
  where
    by_either : head.column ≡ columns.Resource → (is_given body.overrides head ≡ true) ⊎ ((length (cell_of k row) == 0) ≡ false) → has_capacity body k head ≡ true
    by_either e (inl is) = ap (λ b. b || (not (is_place body.place k) && list_any (gives_capacity body.place k) body.rows)) is
    by_either e (inr content) =
        let gives : gives_capacity body.place k row ≡ true = and_from (not (length (cell_of k row) == 0)) (is_capacities body.place row) (ap not content) capacities in
        or_true (is_given body.overrides head) _ (and_from (not (is_place body.place k)) (list_any (gives_capacity body.place k) body.rows) (ap not (elsewhere.0 e)) (among (gives_capacity body.place k) gives))

-- if the capacities have a row, then the header `id` says where the ids are
ids_there : (overrides : List Override) (heads : List Head) (row : Row) → is_capacities (id_place heads) row ≡ true →
    (id_place heads ≡ ids_place overrides heads) × IdsElsewhere (id_place heads) 0 heads
ids_there overrides heads row capacities = by_place (id_place heads) refl capacities
  where
    by_place : (o : Option ℕ) → id_place heads ≡ o → is_capacities o row ≡ true → (id_place heads ≡ ids_place overrides heads) × IdsElsewhere (id_place heads) 0 heads
    by_place None is capacities = absurd (cc)
    by_place (Some p) is capacities = (is ∙ sym (ap (λ o. or_row o (ids_from overrides 0 heads)) is), subst (λ o. IdsElsewhere o 0 heads) (sym is) (ids_elsewhere 0 p heads is))

abbrev body_with : List Override → List Row → Option ℕ → Body
body_with overrides rows place = record { overrides = overrides; rows = rows; place = place }

limited : (overrides : List Override) (heads : List Head) (rows : List Row) (e : Entries) (rs : List Resource) → entries_in heads rows ≡ Ok e →
    resources_at overrides (or_none e.capacities) [] heads ≡ Ok rs → AreLimited (body_with overrides rows (ids_place overrides heads)) 0 heads
unfolding entries_in
limited overrides heads rows e rs read resources =
    then_ok (ids_at (id_place heads) (name_place heads) [] rows) _ e read (λ ids all read.
    then_ok (entries_at heads (id_place heads) ids no_entries rows) _ e read (λ f entries read.
    then_ok (check (nat_le 1 (length f.activities)) code.Limit 0) _ e read (λ u some read.
    by_row f (subst (λ (x : Entries). resources_at overrides (or_none x.capacities) [] heads ≡ Ok rs) (sym (same_ok f e read)) resources) (rows_capacities heads (id_place heads) ids no_entries f rows entries))))
  where
    by_row : (f : Entries) → resources_at overrides (or_none f.capacities) [] heads ≡ Ok rs → AllRows heads (id_place heads) rows no_entries f →
        AreLimited (body_with overrides rows (ids_place overrides heads)) 0 heads
    by_row f made (inl none) =
        limited_given (body_with overrides rows (ids_place overrides heads)) 0 heads (all_given overrides [] rs heads (subst (λ o. resources_at overrides (or_none o) [] heads ≡ Ok rs) none made))
    by_row f made (inr (caps, is, has)) =
        let there = ids_there overrides heads has.row has.capacities in
        subst (λ place. AreLimited (body_with overrides rows place) 0 heads) there.0
        (limited_filled (body_with overrides rows (id_place heads)) 0 heads has.row has.among has.capacities there.1
        (filled overrides has.row.line 0 has.row.cells caps [] [] rs heads refl has.read (subst (λ o. resources_at overrides (or_none o) [] heads ≡ Ok rs) is made)))

pub keeps_lists : KeepsLists
unfolding KeepsLists rows_under table_in header
keeps_lists overrides first rows heads t read sound is =
    then_ok (entries_in heads rows) _ t is (λ e entries is_rest.
    then_ok (overrides_checked heads overrides) _ t is_rest (λ u checked is_rest.
    then_ok (resources_at overrides (or_none e.capacities) [] heads) _ t is_rest (λ rs resources is_last.
    let all = limited overrides heads rows e rs entries resources in
    let stay : settled overrides rows heads ≡ heads = heads_stay (body_with overrides rows (ids_place overrides heads)) [] 0 heads all in
    let plain : successors_checked overrides rows heads ≡ Ok tt = none_are_successors (body_with overrides rows (ids_place overrides heads)) 0 heads all in
    let read_header : header overrides first rows ≡ Ok heads =
    ap (λ (r : Result (List Head) Fault). r >>= λ hs. heads_checked first.line (settled overrides rows hs) >>= λ v. successors_checked overrides rows hs >>= λ w. Ok (settled overrides rows hs)) read
    ∙ ap (λ (hs : List Head). heads_checked first.line hs >>= λ v. successors_checked overrides rows heads >>= λ w. Ok hs) stay
    ∙ ap (λ (r : Result (Unit {0}) Fault). r >>= λ v. successors_checked overrides rows heads >>= λ w. Ok heads) sound
    ∙ ap (λ (r : Result (Unit {0}) Fault). r >>= λ w. Ok heads) plain in
    ap (λ (r : Result (List Head) Fault). r >>= λ hs. rows_under overrides hs rows) read_header ∙ is)))
