-- Columns with capacities are what their headers say.
use Rattle.std.proofs.Common.{◌≡◌, ℕ, ◌+◌, ◌&&◌, Bool, true, false, Ok, List, [], ◌∷◌, ◌++◌, refl, sym, ap, ◌∙◌, append-nil, append_assoc, cond}
use Rattle.std.specs.Prelude.{not}
use Rattle.plan_table.specs.declared.fault.TableCode.TheVariants as code
use Rattle.plan_table.specs.declared.header.Column.{Column}
use Rattle.plan_table.specs.declared.header.Column.TheVariants as columns
use Rattle.plan_table.specs.Csv.{Row}
use Rattle.plan_table.specs.Header.{Head}
use Rattle.plan_table.specs.Overrides.{Override, is_resource_column}
use Rattle.plan_table.specs.Reading.{fault}
use Rattle.plan_table.specs.Synonyms.{is_successor_word, synonym_kind}
use Rattle.plan_table.specs.Settlement.{Body, AreLimited, LimitedColumnsStay, gives_successors, has_capacity, ids_place, open_column, other_column, settled_at, settled_by, settled_head, successors_from}

-- a known header says what its column is
stays_by : (column other : Column) → (column ≡ columns.Resource → other ≡ columns.Resource) → settled_by column other ≡ column
stays_by columns.Resource other h = h refl
stays_by columns.Duration other h = refl
stays_by columns.Id other h = refl
stays_by columns.Name other h = refl
stays_by columns.Predecessors other h = refl
stays_by columns.Note other h = refl
stays_by columns.Nothing other h = refl

-- a column with a capacity is a resource
limited_other : (body : Body) (before : List Head) (k : ℕ) (head : Head) (behind : List Head) → has_capacity body k head ≡ true →
    other_column body before k head behind ≡ columns.Resource
unfolding other_column
limited_other body before k head behind limited =
    ap (λ b. cond b columns.Resource (open_column (synonym_kind head.key) before behind head.key)) limited

head_stays : (body : Body) (before : List Head) (k : ℕ) (head : Head) (behind : List Head) → (head.column ≡ columns.Resource → has_capacity body k head ≡ true) →
    settled_head body before k head behind ≡ head
head_stays body before k head behind limited =
    let same_column = stays_by head.column (other_column body before k head behind) (λ resource. limited_other body before k head behind (limited resource)) in
    ap (λ c. record head { column = c }) same_column

pub heads_stay : (body : Body) (before : List Head) (k : ℕ) (heads : List Head) → AreLimited body k heads → settled_at body before k heads ≡ before ++ heads
unfolding settled_at
heads_stay body before k [] limited = sym (append-nil before)
heads_stay body before k (head ∷ heads) limited =
    heads_stay body (before ++ settled_head body before k head heads ∷ []) (k + 1) heads limited.1
    ∙ ap (λ h. (before ++ h ∷ []) ++ heads) (head_stays body before k head heads limited.0)
    ∙ append_assoc before (head ∷ []) heads

-- ---- successors

resource_is : (column : Column) → is_resource_column column ≡ true → column ≡ columns.Resource
resource_is columns.Resource e = refl
resource_is columns.Duration e = absurd (cc)
resource_is columns.Id e = absurd (cc)
resource_is columns.Name e = absurd (cc)
resource_is columns.Predecessors e = absurd (cc)
resource_is columns.Note e = absurd (cc)
resource_is columns.Nothing e = absurd (cc)

-- a column with a capacity isn't one of successors
no_successors : (body : Body) (k : ℕ) (head : Head) → (head.column ≡ columns.Resource → has_capacity body k head ≡ true) → gives_successors body k head ≡ false
no_successors body k head limited = by_column (is_resource_column head.column) refl
  where
    and_false : (x : Bool) → (x && false) ≡ false
    and_false true = refl
    and_false false = refl

    by_column : (b : Bool) → is_resource_column head.column ≡ b → (b && (is_successor_word head.key && not (has_capacity body k head))) ≡ false
    by_column false e = refl
    by_column true e = ap (λ t. is_successor_word head.key && not t) (limited (resource_is head.column e)) ∙ and_false (is_successor_word head.key)

pub none_are_successors : (body : Body) (k : ℕ) (heads : List Head) → AreLimited body k heads → successors_from body k heads ≡ Ok tt
unfolding successors_from
none_are_successors body k [] limited = refl
none_are_successors body k (head ∷ heads) limited =
    ap (λ b. cond b (fault code.Successors 0 head.name) (successors_from body (k + 1) heads)) (no_successors body k head limited.0)
    ∙ none_are_successors body (k + 1) heads limited.1

pub limited_columns_stay : LimitedColumnsStay
unfolding LimitedColumnsStay
limited_columns_stay overrides rows heads limited =
    heads_stay (record { overrides = overrides; rows = rows; place = ids_place overrides heads }) [] 0 heads limited
