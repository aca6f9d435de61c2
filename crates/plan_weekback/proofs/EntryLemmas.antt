-- The texts of the activities of a plan, one more of them.
use Rattle.std.proofs.Common.{◌≡◌, ℕ, ◌+◌, ◌<◌, ◌≤◌, ◌++◌, Bool, List, [], ◌∷◌, Option, None, length, map, take, get_or, refl, sym, ap, ◌∙◌, subst}
use Rattle.std.specs.List.{slice_get}
use Rattle.std.specs.Option.{option_map}
use Rattle.std.proofs.lemmas.Option.{slice_get-map, slice_get_past, slice_get_read}
use Rattle.plan_calendar.specs.WorkingDay.{Workdays}
use Rattle.plan_table.specs.Table.{Activity, activity_of}
use Rattle.plan_table.specs.declared.table.Activity as table
use Rattle.plan_week.specs.declared.week.Week.{Week}
use Rattle.plan_weekback.specs.Entries.{Entry, IsEntry, IsEntryBeyond, began_if, began_in, entry_of}
use Rattle.plan_weekback.specs.declared.entries.Entry as declared
use Rattle.plan_weekdates.proofs.SequenceLemmas.{fails_at, more}
use Rattle.plan_weekdates.specs.Sequences.{Become, FirstFails}
use Rattle.plan_weeklist.specs.Rows.{DatedRow, dated_of}
use Rattle.plan_weeklist.specs.declared.rows.DatedRow as list

-- the texts of one activity more
pub entry_more : (days : Option Workdays) (own : Bool) (rows : List DatedRow) (week : Week) (starts : List ℕ) (activities : List table.Activity)
    (old new : List declared.Entry) (k : ℕ) (a : table.Activity) (e : declared.Entry) → k < length activities → a ≡ get_or activities k a
    → Become (IsEntry days own rows week starts) 0 (map activity_of (take k activities)) (map entry_of old)
    → IsEntry days own rows week starts k (activity_of a) (entry_of e) → new ≡ old ++ e ∷ []
    → Become (IsEntry days own rows week starts) 0 (map activity_of (take (k + 1) activities)) (map entry_of new)
entry_more days own rows week starts activities old new k a e inside is so_far here pushed =
    subst (λ (v : List declared.Entry). Become (IsEntry days own rows week starts) 0 (map activity_of (take (k + 1) activities)) (map entry_of v))
    (sym pushed) (more (IsEntry days own rows week starts) activity_of entry_of activities old k a e inside is so_far here)

-- a day of an activity is too late
pub entry_beyond : (days : Option Workdays) (own : Bool) (rows : List DatedRow) (week : Week) (starts : List ℕ) (activities : List table.Activity)
    (old : List declared.Entry) (k : ℕ) (a : table.Activity) → k < length activities → a ≡ get_or activities k a
    → Become (IsEntry days own rows week starts) 0 (map activity_of (take k activities)) (map entry_of old)
    → IsEntryBeyond days own rows week starts k (activity_of a)
    → FirstFails (IsEntry days own rows week starts) (IsEntryBeyond days own rows week starts) 0 (map activity_of activities)
entry_beyond days own rows week starts activities old k a inside is so_far beyond =
    fails_at (IsEntry days own rows week starts) (IsEntryBeyond days own rows week starts) activity_of entry_of activities old k a inside is so_far
    beyond

-- the texts of all planned activities
pub all_entries : (days : Option Workdays) (own : Bool) (rows : List DatedRow) (week : Week) (starts : List ℕ) (all ones : List Activity)
    (entries : List Entry) → all ≡ ones → Become (IsEntry days own rows week starts) 0 all entries
    → Become (IsEntry days own rows week starts) 0 ones entries
all_entries days own rows week starts all ones entries same are =
    subst (λ (xs : List Activity). Become (IsEntry days own rows week starts) 0 xs entries) same are

-- a day of a planned activity is too late
pub all_beyond : (days : Option Workdays) (own : Bool) (rows : List DatedRow) (week : Week) (starts : List ℕ) (all ones : List Activity) → all ≡ ones
    → FirstFails (IsEntry days own rows week starts) (IsEntryBeyond days own rows week starts) 0 all
    → FirstFails (IsEntry days own rows week starts) (IsEntryBeyond days own rows week starts) 0 ones
all_beyond days own rows week starts all ones same beyond =
    subst (λ (xs : List Activity). FirstFails (IsEntry days own rows week starts) (IsEntryBeyond days own rows week starts) 0 xs) same beyond

-- ---- rows

-- the begin that row k of a list has
pub began_inside : (rows : List list.DatedRow) (k : ℕ) (x : list.DatedRow) (began : Option ℕ) → k < length rows → x ≡ get_or rows k x
    → began ≡ began_in x.dates.begun → began ≡ began_if (slice_get (map dated_of rows) k)
began_inside rows k x began inside is has =
    has
    ∙ sym (ap began_if (slice_get-map dated_of rows k ∙ ap (option_map dated_of) (slice_get_read rows (length rows) k x refl inside is)))

-- there is no row k
pub began_outside : (rows : List list.DatedRow) (k : ℕ) → length rows ≤ k → None ≡ began_if (slice_get (map dated_of rows) k)
began_outside rows k outside =
    sym (ap began_if (slice_get-map dated_of rows k ∙ ap (option_map dated_of) (slice_get_past rows k outside)))
