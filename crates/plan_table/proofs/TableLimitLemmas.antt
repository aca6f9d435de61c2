-- The table that a text says is within the limits.
use Rattle.std.proofs.Common.{◌≡◌, ℕ, zero, suc, ◌+◌, ◌≤◌, ◌<◌, ◌==◌, ◌&&◌, Bool, true, false, List, [], ◌∷◌, ◌++◌, Option, Some, None, Ok, length, refl, sym, ap, ◌∙◌, subst, arith, cond}
use Rattle.std.specs.Prelude.{nat_le, nat_lt, slice_index_or, is_some, take, drop, fold, not}
use Rattle.std.specs.List.{AllByRecursion, list_any, sum_by}
use Rattle.std.proofs.lemmas.Bool.{leb-true, ltb-true}
use Rattle.std.proofs.lemmas.List.Sums.{sum_by-cons, sum_by_push}
use Rattle.plan_psplib.specs.Lines.{trim}
use Rattle.plan_table.specs.declared.fault.TableCode.TheVariants as code
use Rattle.plan_table.specs.declared.header.Column.{Column}
use Rattle.plan_table.specs.declared.header.Column.TheVariants as columns
use Rattle.plan_table.specs.Csv.{Row}
use Rattle.plan_table.specs.Limits.{IsName, IsEntry, IsSupply, IsWithinLimits}
use Rattle.plan_table.specs.Reading.{◌>>=◌, check}
use Rattle.plan_table.specs.Cells.{amount, same_name}
use Rattle.plan_table.specs.Header.{Head, resource_count, resources_in}
use Rattle.plan_table.specs.Rows.{activity_read, first_cell}
use Rattle.plan_table.specs.Entries.{Entries, is_blank_row, is_capacity, filled_from, id_of, id_place, name_of, name_place, is_activity, one_more, id_added, with_id, ids_at, added, activity_row, first_capacities, capacity_in, capacity_read, capacities_read, capacity_row, filled_row, row_by, entry_read, entries_at, entries_in, no_entries}
use Rattle.plan_table.specs.Overrides.{Override, given, is_resource, known_resource, or_row, overridden, override_checked, overrides_checked}
use Rattle.plan_table.specs.Listing.{known_capacity, resource_by, resource_read, resources_at, or_none, rows_under, table_in, rows_read, table_read_with}
use Rattle.plan_table.specs.Predecessors.{Label}
use Rattle.plan_table.specs.Settlement.{header}
use Rattle.plan_table.specs.Table.{Activity, Resource, Table}
use Rattle.plan_table.proofs.IdLemmas.{own_words}
use Rattle.plan_table.proofs.LimitLemmas.{then_ok, same_ok, check_ok, all_push, push_length, amount_small, IsDraft, IsHeader, activity_draft, header_good}

-- ---- capacities

abbrev IsSmallOption : Option ℕ → Type 0
IsSmallOption None = Unit {0}
IsSmallOption (Some n) = n ≤ 10000

abbrev AreSmall : List (Option ℕ) → Type 0
AreSmall capacities = AllByRecursion IsSmallOption capacities

capacity_small : (line : ℕ) (resource cell : List ℕ) (c : Option ℕ) → capacity_in line resource cell ≡ Ok c → IsSmallOption c
capacity_small line resource cell c e = by_test (length cell == 0) e
  where
    by_test : (b : Bool) → cond b (Ok None) (amount code.BadNeed line resource cell >>= λ n. Ok (Some n)) ≡ Ok c → IsSmallOption c
    by_test true e = subst IsSmallOption (same_ok None c e) tt
    by_test false e =
        then_ok (amount code.BadNeed line resource cell) (λ n. Ok (Some n)) c e (λ n is e.
        subst IsSmallOption (same_ok (Some n) c e) (amount_small code.BadNeed line resource cell n is))

capacity_read_small : (line : ℕ) (before found : List (Option ℕ)) (column : Column) (resource cell : List ℕ) →
    capacity_read line before column resource cell ≡ Ok found → AreSmall before → AreSmall found
unfolding capacity_read
capacity_read_small line before found columns.Resource resource cell e h =
    then_ok (capacity_in line resource cell) _ found e (λ c is e.
    subst AreSmall (same_ok (before ++ c ∷ []) found e) (all_push IsSmallOption before c h (capacity_small line resource cell c is)))
capacity_read_small line before found columns.Duration resource cell e h = subst AreSmall (same_ok before found e) h
capacity_read_small line before found columns.Id resource cell e h = subst AreSmall (same_ok before found e) h
capacity_read_small line before found columns.Name resource cell e h = subst AreSmall (same_ok before found e) h
capacity_read_small line before found columns.Predecessors resource cell e h = subst AreSmall (same_ok before found e) h
capacity_read_small line before found columns.Note resource cell e h = subst AreSmall (same_ok before found e) h
capacity_read_small line before found columns.Nothing resource cell e h = subst AreSmall (same_ok before found e) h

capacities_small : (line : ℕ) (before found : List (Option ℕ)) (heads : List Head) (cells : List (List ℕ)) →
    capacities_read line before heads cells ≡ Ok found → AreSmall before → AreSmall found
unfolding capacities_read
capacities_small line before found [] cells e h = subst AreSmall (same_ok before found e) h
capacities_small line before found (head ∷ heads) cells e h =
    then_ok (capacity_read line before head.column head.name (trim (first_cell cells))) _ found e (λ more is e.
    capacities_small line more found heads (drop 1 cells) e (capacity_read_small line before more head.column head.name (trim (first_cell cells)) is h))

small_at : (capacities : List (Option ℕ)) (k : ℕ) → AreSmall capacities → IsSmallOption (slice_index_or capacities k None)
small_at [] k h = tt
small_at (c ∷ cs) zero h = h.0
small_at (c ∷ cs) (suc k) h = small_at cs k h.1

-- ---- entries

-- what rows have said so far, where m ids are known and k columns are resources
record AreGood (m k : ℕ) (e : Entries) : Type 0 where
  few : length e.activities ≤ 500
  activities : AllByRecursion (IsDraft m k) e.activities
  capacities : AreSmall (or_none e.capacities)
  total : e.total ≡ sum_by (λ (a : Activity). a.duration) e.activities
  limit : e.total ≤ 1000000

added_good : (m k line : ℕ) (e f : Entries) (a : Activity) → added line e a ≡ Ok f → length e.activities < 500 → IsDraft m k a → AreGood m k e →
    AreGood m k f × (length f.activities ≡ length e.activities + 1)
unfolding added
added_good m k line e f a is few draft good =
    then_ok (check (nat_le (e.total + a.duration) 1000000) code.Limit line) _ f is (λ u fits is.
    let g : Entries = record { activities = e.activities ++ a ∷ []; capacities = e.capacities; total = e.total + a.duration } in
    let size = push_length e.activities a in
    let sums = sum_by_push (λ (x : Activity). x.duration) e.activities a in
    let total = good.total in
    subst (λ (x : Entries). AreGood m k x × (length x.activities ≡ length e.activities + 1)) (same_ok g f is) (
      record {
        few = omega (arith, size, few);
        activities = all_push (IsDraft m k) e.activities a good.activities draft;
        capacities = good.capacities;
        total = omega (arith, sums, total);
        limit = leb-true (e.total + a.duration) 1000000 (check_ok _ code.Limit line u fits);
      },
      size,
    ))

capacity_row_good : (m k : ℕ) (heads : List Head) (e f : Entries) (line : ℕ) (cells : List (List ℕ)) → capacity_row heads e line cells ≡ Ok f → AreGood m k e →
    AreGood m k f × (length f.activities ≡ length e.activities)
unfolding capacity_row
capacity_row_good m k heads e f line cells is good =
    then_ok (first_capacities (is_some e.capacities) line) _ f is (λ u new is.
    then_ok (capacities_read line [] heads cells) _ f is (λ found read is.
    then_ok (check (nat_le (length cells) (length heads)) code.Cells line) _ f is (λ v whole is.
    let g : Entries = record { activities = e.activities; capacities = Some found; total = e.total } in
    subst (λ (x : Entries). AreGood m k x × (length x.activities ≡ length e.activities)) (same_ok g f is)
    (record { few = good.few; activities = good.activities; capacities = capacities_small line [] found heads cells read tt; total = good.total; limit = good.limit }, refl))))

activity_row_good : (heads : List Head) (ids : List Label) (e f : Entries) (line : ℕ) (id : List ℕ) (cells : List (List ℕ)) →
    activity_row heads ids e line id cells ≡ Ok f → AreGood (length ids) (resources_in heads) e →
    AreGood (length ids) (resources_in heads) f × (length f.activities ≡ length e.activities + 1) × (length e.activities < 500)
unfolding activity_row
activity_row_good heads ids e f line id cells is good =
    then_ok (check (nat_lt (length e.activities) 500) code.Limit line) _ f is (λ u room is.
    then_ok (activity_read ids (take (length e.activities) ids) line id heads cells) _ f is (λ a read is.
    let few = ltb-true (length e.activities) 500 (check_ok _ code.Limit line u room) in
    let more = added_good (length ids) (resources_in heads) line e f a is few (activity_draft ids (take (length e.activities) ids) line id heads cells a read) good in
    (more.0, more.1, few)))

-- whether a row is that of an activity, by what it is
activity_by : (place : Option ℕ) (id : List ℕ) (cells : List (List ℕ)) (a b : Bool) → is_blank_row cells ≡ a → is_capacity place id ≡ b →
    is_activity place id cells ≡ (not a && not b)
activity_by place id cells a b blank capacity =
    ap (λ x. not x && not (is_capacity place id)) blank ∙ ap (λ y. not a && not y) capacity

-- how many ids there are with that of a row
added_length : (activity t : Bool) (line n : ℕ) (ids more : List Label) (id : Label) → activity ≡ t → length ids ≡ n → id_added activity line ids id ≡ Ok more →
    length more ≡ cond t (n + 1) n
unfolding one_more
added_length activity true line n ids more id is size added =
    then_ok (check (nat_lt (length ids) 500) code.Limit line) _ more (subst (λ b. id_added b line ids id ≡ Ok more) is added) (λ u room added.
    ap (λ (x : List Label). length x) (sym (same_ok (ids ++ id ∷ []) more added)) ∙ push_length ids id ∙ ap (λ m. m + 1) size)
added_length activity false line n ids more id is size added =
    ap (λ (x : List Label). length x) (sym (same_ok ids more (subst (λ b. id_added b line ids id ≡ Ok more) is added))) ∙ size

-- the id of a row, and its name
abbrev labelled : Option ℕ → List ℕ → List (List ℕ) → Label
labelled names id cells = record { id = id; name = name_of names cells }

-- what a row leaves: good entries, and as many ids as activities
abbrev RowGoal : List Head → List Label → List Label → Option ℕ → Option ℕ → ℕ → List (List ℕ) → Entries → ℕ → Type 0
RowGoal heads ids so_far place names line cells f n =
    AreGood (length ids) (resources_in heads) f
    × ((more : List Label) → id_added (is_activity place (id_of place n cells) cells) line so_far (labelled names (id_of place n cells) cells) ≡ Ok more → length more ≡ length f.activities)

filled_good : (heads : List Head) (place names : Option ℕ) (ids so_far : List Label) (e f : Entries) (line : ℕ) (cells : List (List ℕ)) (b : Bool) →
    is_blank_row cells ≡ false → is_capacity place (id_of place (length e.activities) cells) ≡ b →
    row_by b heads ids e line (id_of place (length e.activities) cells) cells ≡ Ok f → length so_far ≡ length e.activities →
    AreGood (length ids) (resources_in heads) e → RowGoal heads ids so_far place names line cells f (length e.activities)
filled_good heads place names ids so_far e f line cells true filled capacity is size good =
    let n = length e.activities in
    let id = id_of place n cells in
    let more = capacity_row_good (length ids) (resources_in heads) heads e f line cells is good in
    (more.0, λ next added. added_length (is_activity place id cells) false line n so_far next (labelled names id cells) (activity_by place id cells false true filled capacity) size added ∙ sym more.1)
filled_good heads place names ids so_far e f line cells false filled capacity is size good =
    let n = length e.activities in
    let id = id_of place n cells in
    let more = activity_row_good heads ids e f line id cells is good in
    (more.0, λ next added. added_length (is_activity place id cells) true line n so_far next (labelled names id cells) (activity_by place id cells false false filled capacity) size added ∙ sym more.1)

entry_good : (heads : List Head) (place names : Option ℕ) (ids so_far : List Label) (e f : Entries) (row : Row) →
    entry_read heads place ids e row ≡ Ok f → length so_far ≡ length e.activities → AreGood (length ids) (resources_in heads) e →
    AreGood (length ids) (resources_in heads) f × ((more : List Label) → with_id place names so_far row ≡ Ok more → length more ≡ length f.activities)
unfolding entry_read
entry_good heads place names ids so_far e f row is size good =
    subst (λ n. RowGoal heads ids so_far place names row.line row.cells f n) (sym size) (by_blank (is_blank_row row.cells) refl is)
  where
    by_blank : (b : Bool) → is_blank_row row.cells ≡ b → cond b (Ok e) (filled_row heads place ids e row.line (id_of place (length e.activities) row.cells) row.cells) ≡ Ok f →
        RowGoal heads ids so_far place names row.line row.cells f (length e.activities)
    by_blank true blank is =
        let n = length e.activities in
        let id = id_of place n row.cells in
        let same_entries = same_ok e f is in
        let none = ap (λ x. not x && not (is_capacity place id)) blank in (
          subst (λ (x : Entries). AreGood (length ids) (resources_in heads) x) same_entries good,
          λ next added. added_length (is_activity place id row.cells) false row.line n so_far next (labelled names id row.cells) none size added ∙ ap (λ (x : Entries). length x.activities) same_entries,
        )
    by_blank false blank is =
        filled_good heads place names ids so_far e f row.line row.cells (is_capacity place (id_of place (length e.activities) row.cells)) blank refl is size good

entries_good : (heads : List Head) (place names : Option ℕ) (ids so_far found : List Label) (e f : Entries) (rows : List Row) →
    entries_at heads place ids e rows ≡ Ok f → ids_at place names so_far rows ≡ Ok found → length so_far ≡ length e.activities → AreGood (length ids) (resources_in heads) e →
    AreGood (length ids) (resources_in heads) f × (length found ≡ length f.activities)
unfolding entries_at ids_at
entries_good heads place names ids so_far found e f [] is all size good =
    let same_entries = same_ok e f is in (
      subst (λ (x : Entries). AreGood (length ids) (resources_in heads) x) same_entries good,
      ap (λ (x : List Label). length x) (sym (same_ok so_far found all)) ∙ size ∙ ap (λ (x : Entries). length x.activities) same_entries,
    )
entries_good heads place names ids so_far found e f (row ∷ rows) is all size good =
    then_ok (entry_read heads place ids e row) _ f is (λ g read is.
    then_ok (with_id place names so_far row) _ found all (λ next added all.
    let one = entry_good heads place names ids so_far e g row read size good in
    entries_good heads place names ids next found g f rows is all (one.1 next added) one.0))

-- the entries of a table, with as many ids
record AreEntries (heads : List Head) (e : Entries) : Type 0 where
  ids : List Label
  good : AreGood (length ids) (resources_in heads) e
  size : length ids ≡ length e.activities

entries_in_good : (heads : List Head) (rows : List Row) (e : Entries) → entries_in heads rows ≡ Ok e → AreEntries heads e
unfolding entries_in
entries_in_good heads rows e is =
    let place = id_place heads in
    let names = name_place heads in
    then_ok (ids_at place names [] rows) _ e is (λ ids all is.
    then_ok (entries_at heads place ids no_entries rows) _ e is (λ f read is.
    then_ok (check (nat_le 1 (length f.activities)) code.Limit 0) _ e is (λ u some is.
    let none : AreGood (length ids) (resources_in heads) no_entries = record { few = omega arith; activities = tt; capacities = tt; total = refl; limit = omega arith } in
    let good = entries_good heads place names ids [] ids no_entries f rows read all refl none in
    subst (AreEntries heads) (same_ok f e is) (record { ids = ids; good = good.0; size = good.1 }))))

-- ---- overrides

abbrev AreLow : List Override → Type 0
AreLow overrides = AllByRecursion (λ (o : Override). o.amount ≤ 10000) overrides

overrides_low : (heads : List Head) (os : List Override) (u : Unit {0}) → overrides_checked heads os ≡ Ok u → AreLow os
unfolding overrides_checked override_checked
overrides_low heads [] u is = tt
overrides_low heads (o ∷ os) u is =
    then_ok (override_checked heads o) _ u is (λ v one is.
    then_ok (known_resource (list_any (is_resource o.resource) heads) o.resource) _ v one (λ w known one.
    (leb-true o.amount 10000 (check_ok _ code.Limit 0 v one), overrides_low heads os u is)))

given_small : (os : List Override) (name : List ℕ) (found : Option ℕ) → AreLow os → IsSmallOption found → IsSmallOption (fold (overridden name) found os)
given_small [] name found low small = small
given_small (o ∷ os) name found low small = given_small os name (overridden name found o) low.1 (by_test (same_name o.resource name))
  where
    by_test : (b : Bool) → IsSmallOption (cond b (Some o.amount) found)
    by_test true = low.0
    by_test false = small

or_row_small : (found row : Option ℕ) → IsSmallOption found → IsSmallOption row → IsSmallOption (or_row found row)
or_row_small (Some n) row small rows = small
or_row_small None row small rows = rows

-- ---- resources

unchanged : (before found : List Resource) → before ≡ found → AllByRecursion IsSupply before → AllByRecursion IsSupply found × (length found ≡ length before + 0)
unchanged before found is good =
    subst (λ (x : List Resource). AllByRecursion IsSupply x × (length x ≡ length before + 0)) is (good, let n : length before ≡ length before + 0 = omega arith in n)

supply_good : (column : Column) (overrides : List Override) (capacities : List (Option ℕ)) (before found : List Resource) (name : List ℕ) →
    resource_by column overrides capacities before name ≡ Ok found → AreLow overrides → AreSmall capacities → IsName name → (column ≡ columns.Resource → 0 < length name) → AllByRecursion IsSupply before →
    AllByRecursion IsSupply found × (length found ≡ length before + resource_count column)
supply_good columns.Resource overrides capacities before found name is low small named some good =
    let amount = or_row (given overrides name) (slice_index_or capacities (length before) None) in
    then_ok (known_capacity amount name) _ found is (λ n known is.
    let r : Resource = record { name = name; capacity = n } in
    let most = by_capacity n amount (or_row_small (given overrides name) _ (given_small overrides name None low tt) (small_at capacities (length before) small)) known in
    subst (λ (x : List Resource). AllByRecursion IsSupply x × (length x ≡ length before + 1)) (same_ok (before ++ r ∷ []) found is)
    (all_push IsSupply before r good (record { name = named; named = some refl; capacity = most }), push_length before r))
  where
    by_capacity : (n : ℕ) (o : Option ℕ) → IsSmallOption o → known_capacity o name ≡ Ok n → n ≤ 10000
    by_capacity n None small known = absurd (cc)
    by_capacity n (Some m) small known = let same_number : m ≡ n = same_ok m n known in omega (arith, small, same_number)
supply_good columns.Duration overrides capacities before found name is low small named some good = unchanged before found (same_ok before found is) good
supply_good columns.Id overrides capacities before found name is low small named some good = unchanged before found (same_ok before found is) good
supply_good columns.Name overrides capacities before found name is low small named some good = unchanged before found (same_ok before found is) good
supply_good columns.Predecessors overrides capacities before found name is low small named some good = unchanged before found (same_ok before found is) good
supply_good columns.Note overrides capacities before found name is low small named some good = unchanged before found (same_ok before found is) good
supply_good columns.Nothing overrides capacities before found name is low small named some good = unchanged before found (same_ok before found is) good

resources_good : (overrides : List Override) (capacities : List (Option ℕ)) (before found : List Resource) (heads : List Head) → resources_at overrides capacities before heads ≡ Ok found →
    AreLow overrides → AreSmall capacities → AllByRecursion IsHeader heads → AllByRecursion IsSupply before →
    AllByRecursion IsSupply found × (length found ≡ length before + resources_in heads)
unfolding resources_at resource_read
resources_good overrides capacities before found [] is low small named good = unchanged before found (same_ok before found is) good
resources_good overrides capacities before found (head ∷ heads) is low small named good =
    then_ok (resource_by head.column overrides capacities before head.name) _ found is (λ more read is.
    let one = supply_good head.column overrides capacities before more head.name read low small named.0.name named.0.named good in
    let rest = resources_good overrides capacities more found heads is low small named.1 one.0 in
    let sums = sum_by-cons (λ (h : Head). resource_count h.column) head heads in
    (rest.0, omega (arith, rest.1, one.1, sums)))

-- ---- the table

entries_are : (m k n c : ℕ) (xs : List Activity) → m ≡ n → k ≡ c → AllByRecursion (IsDraft m k) xs → AllByRecursion (IsEntry n c) xs
entries_are m k n c [] p q h = tt
entries_are m k n c (x ∷ xs) p q h =
    let d = h.0 in (
      record {
        name = d.name;
        duration = d.duration;
        predecessors = subst (λ i. AllByRecursion (λ j. (2 ≤ j) × (j ≤ i + 1)) x.predecessors) p d.predecessors;
        whole = d.whole ∙ q;
        needs = d.needs;
      },
      entries_are m k n c xs p q h.1,
    )

rows_good : (overrides : List Override) (rows : List Row) (t : Table) → table_in overrides rows ≡ Ok t → IsWithinLimits t
unfolding table_in rows_under
rows_good overrides [] t is = absurd (cc)
rows_good overrides (first ∷ rows) t is =
    then_ok (header overrides first rows) _ t is (λ heads read is.
    then_ok (entries_in heads rows) _ t is (λ e entries is.
    then_ok (overrides_checked heads overrides) _ t is (λ u checked is.
    then_ok (resources_at overrides (or_none e.capacities) [] heads) _ t is (λ rs resources is.
    let head = header_good overrides first rows heads read in
    let all = entries_in_good heads rows e entries in
    let g = all.good in
    let supplies = resources_good overrides (or_none e.capacities) [] rs heads resources (overrides_low heads overrides u checked) g.capacities head.names tt in
    let columns = head.few in
    let total = g.total in
    let limit = g.limit in
    let size : resources_in heads ≡ length rs = let n = supplies.1 in omega (arith, n) in
    subst IsWithinLimits (same_ok (record { own_ids = is_some (id_place heads); activities = e.activities; resources = rs }) t is) (record {
      rows = g.few;
      columns = omega (arith, size, columns);
      activities = entries_are (length all.ids) (resources_in heads) (length e.activities) (length rs) e.activities all.size size g.activities;
      ids = own_words heads rows e entries;
      resources = supplies.0;
      total = omega (arith, total, limit);
    })))))

-- what a text says is within the limits
pub table_good : (overrides : List Override) (text : List ℕ) (t : Table) → table_read_with overrides text ≡ Ok t → IsWithinLimits t
table_good overrides text t is = then_ok (rows_read text) _ t is (λ rows read is. rows_good overrides (filled_from rows) t is)
