-- The instants at which begun work began: none is after the latest instant of a list.
use Rattle.std.proofs.Common.{◌≡◌, ℕ, zero, suc, ◌+◌, ◌≤◌, ◌==◌, Bool, true, false, List, [], ◌∷◌, ◌++◌, Option, Some, None, Result, Ok, Err, Vec, codes, drop, take, length, refl, sym, subst}
use Rattle.std.specs.Prelude.{if◌then◌else◌, nat_le}
use Rattle.std.specs.Global.{Global}
use Rattle.std.specs.List.{AllByRecursion}
use Rattle.std.proofs.lemmas.Bool.{leb-true}
use Rattle.plan_encoding.specs.Encodings.{utf8_of}
use Rattle.plan_psplib.specs.Numbers.{number}
use Rattle.plan_table.specs.Cells.{same, same_name}
use Rattle.plan_table.specs.Csv.{Row}
use Rattle.plan_table.specs.Entries.{filled_from}
use Rattle.plan_table.specs.Header.{Head, heads_at}
use Rattle.plan_table.specs.Listing.{rows_read}
use Rattle.plan_table.specs.Overrides.{Override}
use Rattle.plan_table.specs.Reading as tables
use Rattle.plan_table.specs.Settlement.{settled}
use Rattle.plan_table.specs.Table.{Activity}
use Rattle.plan_table.specs.declared.kinds.ListKind.{ListKind}
use Rattle.plan_table.specs.declared.kinds.ListKind.TheVariants as kinds
use Rattle.plan_week.specs.declared.week.State.{State}
use Rattle.plan_week.specs.declared.week.State.TheVariants.{Open, Begun, Done}
use Rattle.plan_weeklist.specs.declared.columns.Columns.{Columns}
use Rattle.plan_weeklist.specs.declared.dates.Beginning.{Beginning}
use Rattle.plan_weeklist.specs.declared.dates.Beginning.TheVariants.{Missing, At, Interrupted}
use Rattle.plan_weeklist.specs.declared.dates.Dates.{Dates}
use Rattle.plan_weeklist.specs.declared.list.WeekList.{WeekList}
use Rattle.plan_weeklist.specs.declared.listed.ListedWeek.{ListedWeek}
use Rattle.plan_weeklist.specs.Columns.{is_absence}
use Rattle.plan_weeklist.specs.Dates.{begun_from, begun_in, cell_in, date_at, date_in, dates_checked, dates_read, done_in, keeps_fixed, keeps_rest, known_today}
use Rattle.plan_weeklist.specs.Dates.{latest_instant, number_in, number_or, number_within}
use Rattle.plan_weeklist.specs.Faults.{◌>>=◌, Fault, check, fault}
use Rattle.plan_weeklist.specs.ListedLists.{IsListedWeek}
use Rattle.plan_weeklist.specs.ListedWeeks.{begun_state, dates_by, dates_for, dates_of, dates_or, first_dates, placed, planned, state_by, state_of, states_at}
use Rattle.plan_weeklist.specs.Lists.{IsOfKind, list_columns, rows_behind, rows_in, rows_under}
use Rattle.plan_weeklist.specs.Rows.{DatedRow, WeekRows, absence_read, dated_read, is_passed, no_rows, row_read, rows_from, week_rows_of, with_absence, with_row}
use Rattle.plan_weeklist.specs.declared.fault.WeekCode.TheVariants as code
use Rattle.plan_weekfile.specs.Weeks.{IsWeekWith}
use Rattle.plan_documents.specs.declared.capacities.Capacity.{Capacity}

-- ---- readings in steps

then_ok : {A B P : Type 0} (r : Result A Fault) (f : A → Result B Fault) (y : B) → (r >>= f) ≡ Ok y → ((x : A) → r ≡ Ok x → f x ≡ Ok y → P) → P
then_ok (Ok x) f y e go = go x refl e
then_ok (Err g) f y e go = absurd (cc)

same_ok : {A : Type 0} (x y : A) → Path (Result A Fault) (Ok x) (Ok y) → x ≡ y
same_ok x y e = cc

-- ---- the dates of a row

-- begun work began no later than the latest instant
abbrev IsEarly : Beginning → Type 0
IsEarly Missing = Unit {0}
IsEarly Interrupted = Unit {0}
IsEarly (At began) = began ≤ latest_instant

abbrev IsEarlyRow : DatedRow → Type 0
IsEarlyRow row = IsEarly row.dates.begun

abbrev AreEarlyRows : List DatedRow → Type 0
AreEarlyRows rows = AllByRecursion IsEarlyRow rows

within_early : (line : ℕ) (cell : List ℕ) (m n : ℕ) (b : Bool) → nat_le m latest_instant ≡ b → (if b then Ok m else fault code.BadNumber line cell) ≡ Ok n → n ≤ latest_instant
within_early line cell m n true is e = subst (λ (x : ℕ). x ≤ latest_instant) (same_ok m n e) (leb-true m latest_instant is)
within_early line cell m n false is e = absurd (cc)

number_early : (line : ℕ) (cell : List ℕ) (found : Option ℕ) (n : ℕ) → number_within line cell found ≡ Ok n → n ≤ latest_instant
number_early line cell None n e = absurd (cc)
number_early line cell (Some m) n e = within_early line cell m n (nat_le m latest_instant) refl e

in_early : (line : ℕ) (cell : List ℕ) (n : ℕ) → number_in line cell ≡ Ok n → n ≤ latest_instant
unfolding number_in
in_early line cell n e = number_early line cell (number cell) n e

-- an instant, if there is one, is early
abbrev IsEarlyDate : Option ℕ → Type 0
IsEarlyDate None = Unit {0}
IsEarlyDate (Some n) = n ≤ latest_instant

date_by : (line : ℕ) (cell : List ℕ) (b : Bool) (date : Option ℕ)
    → (if b then Ok None else number_in line cell >>= λ n. Ok (Some n)) ≡ Ok date → IsEarlyDate date
date_by line cell true date e = subst IsEarlyDate (same_ok None date e) tt
date_by line cell false date e =
    then_ok (number_in line cell) _ date e (λ n read e. subst IsEarlyDate (same_ok (Some n) date e) (in_early line cell n read))

date_early : (line : ℕ) (cell : List ℕ) (date : Option ℕ) → date_in line cell ≡ Ok date → IsEarlyDate date
date_early line cell date e = date_by line cell (length cell == 0) date e

from_early : (date : Option ℕ) → IsEarlyDate date → IsEarly (begun_from date)
from_early None early = tt
from_early (Some n) early = early

begun_by : (line : ℕ) (cell : List ℕ) (b : Bool) (begun : Beginning)
    → (if b then Ok Interrupted else date_in line cell >>= λ date. Ok (begun_from date)) ≡ Ok begun → IsEarly begun
begun_by line cell true begun e = subst IsEarly (same_ok Interrupted begun e) tt
begun_by line cell false begun e =
    then_ok (date_in line cell) _ begun e (λ date read e.
    subst IsEarly (same_ok (begun_from date) begun e) (from_early date (date_early line cell date read)))

begun_early : (today : Option ℕ) (line : ℕ) (cell : List ℕ) (begun : Beginning) → begun_in today line cell ≡ Ok begun → IsEarly begun
unfolding begun_in
begun_early today line cell begun e =
    then_ok (known_today today line cell) _ begun e (λ known read e.
    begun_by line cell (same_name cell (codes "interrupted")) begun e)

checked_same : (today : Option ℕ) (columns : Columns) (row : Row) (dates found : Dates) → dates_checked today columns row dates ≡ Ok found → dates ≡ found
unfolding dates_checked
checked_same today columns row dates found e =
    then_ok (check (keeps_fixed today dates) code.Contradiction row.line (cell_in columns.fixed row)) _ found e (λ kept read e.
    then_ok (check (keeps_rest dates) code.Contradiction row.line (cell_in columns.remaining row)) _ found e (λ begun read e.
    same_ok dates found e))

dates_early : (today : Option ℕ) (columns : Columns) (row : Row) (dates : Dates) → dates_read today columns row ≡ Ok dates → IsEarly dates.begun
unfolding dates_read
dates_early today columns row dates e =
    then_ok (date_at columns.earliest row) _ dates e (λ earliest read e.
    then_ok (date_at columns.fixed row) _ dates e (λ fixed read e.
    then_ok (begun_in today row.line (cell_in columns.begun row)) _ dates e (λ begun began e.
    then_ok (date_at columns.remaining row) _ dates e (λ remaining read e.
    then_ok (done_in today row.line (cell_in columns.done row)) _ dates e (λ done read e.
    then_ok (date_at columns.due row) _ dates e (λ due read e.
    subst (λ (d : Dates). IsEarly d.begun)
    (checked_same today columns row (record { earliest = earliest; fixed = fixed; begun = begun; remaining = remaining; done = done; due = due }) dates e)
    (begun_early today row.line (cell_in columns.begun row) begun began)))))))

-- ---- the rows of a list

dated_early : (today : Option ℕ) (columns : Columns) (row : Row) (dated : DatedRow) → dated_read today columns row ≡ Ok dated → IsEarlyRow dated
dated_early today columns row dated e =
    then_ok (dates_read today columns row) _ dated e (λ dates read e.
    subst IsEarlyRow (same_ok (record { id = cell_in columns.ids row; dates = dates }) dated e) (dates_early today columns row dates read))

pushed_early : (rows : List DatedRow) (row : DatedRow) → AreEarlyRows rows → IsEarlyRow row → AreEarlyRows (rows ++ row ∷ [])
pushed_early [] row early also = (also, tt)
pushed_early (first ∷ rows) row early also = (early.0, pushed_early rows row early.1 also)

-- a row, by its kind: passed, an absence or an activity
row_by : (today : Option ℕ) (columns : Columns) (heads : List Head) (read more : WeekRows) (row : Row) (passed absence : Bool)
    → (if passed then Ok read else if absence then (absence_read columns heads row >>= λ a. Ok (with_absence read a))
    else dated_read today columns row >>= λ dated. Ok (with_row read dated)) ≡ Ok more
    → AreEarlyRows read.rows → AreEarlyRows more.rows
row_by today columns heads read more row true absence e early = subst (λ (r : WeekRows). AreEarlyRows r.rows) (same_ok read more e) early
row_by today columns heads read more row false true e early =
    then_ok (absence_read columns heads row) _ more e (λ a is e.
    subst (λ (r : WeekRows). AreEarlyRows r.rows) (same_ok (with_absence read a) more e) early)
row_by today columns heads read more row false false e early =
    then_ok (dated_read today columns row) _ more e (λ dated is e.
    subst (λ (r : WeekRows). AreEarlyRows r.rows) (same_ok (with_row read dated) more e)
    (pushed_early read.rows dated early (dated_early today columns row dated is)))

row_early : (today : Option ℕ) (columns : Columns) (heads : List Head) (read more : WeekRows) (row : Row)
    → row_read today columns heads read row ≡ Ok more → AreEarlyRows read.rows → AreEarlyRows more.rows
unfolding row_read
row_early today columns heads read more row e early =
    row_by today columns heads read more row (is_passed columns row) (is_absence columns.ids row) e early

rows_early : (today : Option ℕ) (columns : Columns) (heads : List Head) (read all : WeekRows) (rows : List Row)
    → rows_from today columns heads read rows ≡ Ok all → AreEarlyRows read.rows → AreEarlyRows all.rows
unfolding rows_from
rows_early today columns heads read all [] e early = subst (λ (r : WeekRows). AreEarlyRows r.rows) (same_ok read all e) early
rows_early today columns heads read all (row ∷ rows) e early =
    then_ok (row_read today columns heads read row) _ all e (λ more is e.
    rows_early today columns heads more all rows e (row_early today columns heads read more row is early))

none_early : (all : WeekRows) → Path (Result WeekRows Fault) (Ok no_rows) (Ok all) → AreEarlyRows all.rows
none_early all e = subst (λ (r : WeekRows). AreEarlyRows r.rows) (same_ok no_rows all e) tt

under_early : (overrides : List Override) (today : Option ℕ) (rows : List Row) (heads : Result (List Head) tables.Fault) (all : WeekRows)
    → rows_under overrides today rows heads ≡ Ok all → AreEarlyRows all.rows
under_early overrides today rows (Err fault) all e = none_early all e
under_early overrides today rows (Ok heads) all e =
    rows_early today (list_columns overrides rows heads) (settled overrides rows heads) no_rows all rows e tt

behind_early : (overrides : List Override) (today : Option ℕ) (rows : List Row) (all : WeekRows)
    → rows_behind overrides today rows ≡ Ok all → AreEarlyRows all.rows
behind_early overrides today [] all e = none_early all e
behind_early overrides today (first ∷ rows) all e = under_early overrides today rows (heads_at first.line [] first.cells) all e

read_early : (overrides : List Override) (today : Option ℕ) (rows : Result (List Row) tables.Fault) (all : WeekRows)
    → rows_in overrides today rows ≡ Ok all → AreEarlyRows all.rows
read_early overrides today (Err fault) all e = none_early all e
read_early overrides today (Ok rows) all e = behind_early overrides today (filled_from rows) all e

kind_early : (overrides : List Override) (today : Option ℕ) (text : List ℕ) (kind : Option ListKind) (list : WeekList)
    → IsOfKind overrides today text kind list → AreEarlyRows (week_rows_of list.rows).rows
kind_early overrides today text None list is = none_early (week_rows_of list.rows) is.rows
kind_early overrides today text (Some kinds.Orders) list is = none_early (week_rows_of list.rows) is.rows
kind_early overrides today text (Some kinds.Activities) list is = read_early overrides today (rows_read text) (week_rows_of list.rows) is.rows

-- ---- the states of a week

-- begun work began no later than the latest instant
abbrev pub IsEarlyState : State → Type 0
IsEarlyState (Open earliest fixed) = Unit {0}
IsEarlyState (Begun began remaining) = began ≤ latest_instant
IsEarlyState (Done ended) = Unit {0}

-- the dates of an activity, if it has any, are early
abbrev AreEarlyDates : Option Dates → Type 0
AreEarlyDates None = Unit {0}
AreEarlyDates (Some dates) = IsEarly dates.begun

by_early : (id : List ℕ) (row : DatedRow) (rows : List DatedRow) (b : Bool) → IsEarlyRow row → AreEarlyDates (dates_by id rows)
    → AreEarlyDates (if b then Some row.dates else dates_by id rows)
by_early id row rows true here after = here
by_early id row rows false here after = after

id_early : (id : List ℕ) (rows : List DatedRow) → AreEarlyRows rows → AreEarlyDates (dates_by id rows)
id_early id [] early = tt
id_early id (row ∷ rows) early = by_early id row rows (same row.id id) early.0 (id_early id rows early.1)

place_early : (k : ℕ) (rows : List DatedRow) → AreEarlyRows rows → AreEarlyDates (first_dates (drop k rows))
place_early zero [] early = tt
place_early zero (row ∷ rows) early = early.0
place_early (suc k) [] early = tt
place_early (suc k) (row ∷ rows) early = place_early k rows early.1

of_early : (own : Bool) (rows : List DatedRow) (k : ℕ) (a : Activity) → AreEarlyRows rows → AreEarlyDates (dates_of own rows k a)
of_early true rows k a early = id_early a.id rows early
of_early false rows k a early = place_early k rows early

or_early : (dates : Option Dates) → AreEarlyDates dates → IsEarly (dates_or dates).begun
or_early None early = tt
or_early (Some dates) early = early

begun_state_early : (today lasts : ℕ) (begun : Beginning) (dates : Dates) → IsEarly begun → IsEarlyState (begun_state today lasts begun dates)
begun_state_early today lasts Missing dates early = tt
begun_state_early today lasts Interrupted dates early = tt
begun_state_early today lasts (At began) dates early = early

state_early : (today lasts : ℕ) (done : Option ℕ) (dates : Dates) → IsEarly dates.begun → IsEarlyState (state_by today lasts done dates)
state_early today lasts (Some ended) dates early = tt
state_early today lasts None dates early = begun_state_early today lasts dates.begun dates early

appended_early : (states : List State) (state : State) → AllByRecursion IsEarlyState states → IsEarlyState state → AllByRecursion IsEarlyState (states ++ state ∷ [])
appended_early [] state early also = (also, tt)
appended_early (first ∷ states) state early also = (early.0, appended_early states state early.1 also)

placed_early : (own : Bool) (rows : List DatedRow) (today : ℕ) (before : List State) (k : ℕ) (all : List Activity) → AreEarlyRows rows
    → AllByRecursion IsEarlyState before → AllByRecursion IsEarlyState (placed (states_at own rows today) before k all)
unfolding placed
placed_early own rows today before k [] early so_far = so_far
placed_early own rows today before k (a ∷ others) early so_far =
    let dates = dates_for own rows k a in
    placed_early own rows today (before ++ state_of today a.duration dates ∷ []) (k + 1) others early
    (appended_early before (state_of today a.duration dates) so_far
    (state_early today a.duration dates.done dates (or_early (dates_of own rows k a) (of_early own rows k a early))))

own_early : (overrides : List Override) (today : Option ℕ) (bytes : List ℕ) (listed : ListedWeek)
    → IsListedWeek overrides today bytes listed → AllByRecursion IsEarlyState listed.week.states.items
own_early overrides today bytes listed (list, p, tables, week) =
    let dates = tables.lists.dates in
    let rows = (week_rows_of list.rows).rows in
    subst (λ (states : List State). AllByRecursion IsEarlyState states) (sym week.activities.states)
    (placed_early listed.table.own_ids rows (number_or 0 today) [] 0 (take (planned listed.table (week_rows_of list.rows)) listed.table.activities)
    (kind_early overrides today (utf8_of bytes) dates.0 list dates.2) tt)

-- the states of the week of a list
pub week_early : (given : List Capacity) (now : Option ℕ) (text : List ℕ) (listed : ListedWeek)
    → IsWeekWith given now text listed → AllByRecursion IsEarlyState listed.week.states.items
week_early [] now text listed is = own_early [] now text listed is
week_early (first ∷ more) now text listed (own, is, given) =
    subst (λ (states : Vec State Global). AllByRecursion IsEarlyState states.items) (sym given.week.states) (own_early [] now text own is)
