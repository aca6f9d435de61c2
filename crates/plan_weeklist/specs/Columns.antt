-- The columns of dates in a list, and that of names of resources.
use Rattle.std.specs.Prelude.{ℕ, ◌+◌, ◌==◌, ◌&&◌, ◌||◌, Bool, true, false, if◌then◌else◌, List, [], ◌∷◌, Option, Some, None, codes, not, is_none}
use Rattle.plan_spreadsheet.specs.Assignments as assignments
use Rattle.plan_table.specs.declared.header.Column.TheVariants as kinds
use Rattle.plan_table.specs.Cells.{same, same_name}
use Rattle.plan_table.specs.Csv.{Row}
use Rattle.plan_table.specs.Entries.{place_from}
use Rattle.plan_table.specs.Header.{Head}
use Rattle.plan_table.specs.Settlement.{Body, cell_of, has_capacity}
use Rattle.plan_weeklist.specs.declared.columns.Columns.{Columns}

-- column k has dates of a kind: its header is the word for them, and it has no capacity
abbrev pub is_dated : Body → List ℕ → ℕ → Head → Bool
is_dated body word k head = same head.key word && not (has_capacity body k head)

-- the first column with dates of a kind, if the first one that is left has the number k
abbrev pub dated_from : Body → List ℕ → ℕ → List Head → Option ℕ
dated_from body word k [] = None
dated_from body word k (head ∷ heads) =
    if is_dated body word k head then Some k else dated_from body word (k + 1) heads

-- the columns of a list; what they are is settled
abbrev pub columns_of : Body → List Head → Columns
columns_of body heads = record {
  ids = body.place;
  durations = place_from kinds.Duration 0 heads;
  earliest = dated_from body (codes "earliest") 0 heads;
  fixed = dated_from body (codes "fixed") 0 heads;
  begun = dated_from body (codes "begun") 0 heads;
  remaining = dated_from body (codes "remaining") 0 heads;
  done = dated_from body (codes "done") 0 heads;
  due = dated_from body (codes "due") 0 heads;
  late = dated_from body (codes "late") 0 heads;
  names = assignments.place_from body 0 heads;
}

-- a column is column k
abbrev pub is_place : Option ℕ → ℕ → Bool
is_place None k = false
is_place (Some place) k = place == k

-- column k has dates, or the tardiness in an earlier plan, which isn't read
abbrev pub has_dates : Columns → ℕ → Bool
has_dates columns k =
    is_place columns.earliest k || is_place columns.fixed k || is_place columns.begun k
    || is_place columns.remaining k || is_place columns.done k || is_place columns.due k
    || is_place columns.late k

-- no column has dates or such a tardiness
abbrev pub is_undated : Columns → Bool
is_undated columns =
    is_none columns.earliest && is_none columns.fixed && is_none columns.begun
    && is_none columns.remaining && is_none columns.done && is_none columns.due
    && is_none columns.late

-- a row with the id `absence`, in any case
abbrev pub is_absence : Option ℕ → Row → Bool
is_absence None row = false
is_absence (Some place) row = same_name (cell_of place row) (codes "absence")
