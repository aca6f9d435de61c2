-- A table that is read is within the limits.
use Rattle.std.proofs.Common.{◌≡◌, ℕ, ◌+◌, ◌≤◌, ◌<◌, ◌==◌, Bool, true, false, List, [], ◌∷◌, ◌++◌, Option, Some, None, Result, Ok, Err, length, map, refl, ap, ◌∙◌, subst, arith, cond}
use Rattle.std.specs.Prelude.{nat_le}
use Rattle.std.specs.List.{AllByRecursion, list_all, list_any}
use Rattle.std.proofs.lemmas.Bool.{and_from, leb-true}
use Rattle.std.proofs.lemmas.Str.{chars-nil, is_utf8-from_IsUtf8, IsUtf8-nil}
use Rattle.std.specs.Str.{chars, is_utf8}
use Rattle.std.proofs.lemmas.List.Sums.{sum_by-cons}
use Rattle.plan_psplib.specs.Numbers.{number}
use Rattle.plan_table.specs.declared.fault.TableCode.{TableCode}
use Rattle.plan_table.specs.declared.fault.TableCode.TheVariants as code
use Rattle.plan_table.specs.declared.header.Column.{Column}
use Rattle.plan_table.specs.declared.header.Column.TheVariants as columns
use Rattle.plan_table.specs.Limits.{IsName, is_printable}
use Rattle.plan_table.specs.Reading.{Fault, ◌>>=◌, fault, check}
use Rattle.plan_table.specs.Cells.{amount_in, amount, name, same}
use Rattle.plan_table.specs.Predecessors.{Label, has_id, has_name, if_alone, number_from, named_from, or_else, number_by, linked, linked_from, known, predecessor, predecessors_at, ids_in}
use Rattle.plan_table.specs.Csv.{Row}
use Rattle.plan_table.specs.Durations.{days_in, duration}
use Rattle.plan_table.specs.Header.{Head, resource_count, resources_in, head_read, heads_at, heads_checked, once, column_of, key_of}
use Rattle.plan_table.specs.Overrides.{Override}
use Rattle.plan_table.specs.Settlement.{Body, settled_by, other_column, settled_head, settled_at, settled, ids_place, successors_checked, header}
use Rattle.plan_table.specs.Rows.{need, cell_read, row_read, activity_read, fresh_activity, id_read, first_cell}
use Rattle.plan_table.specs.Table.{Activity}
use Rattle.plan_psplib.specs.Lines.{trim}
use Rattle.std.specs.Char.{is_control, to_ascii_lowercase}
use Rattle.plan_table.proofs.TrimLemmas.{trim_trim}
use Rattle.std.specs.Prelude.{◌-◌, codes, drop, not, take}

-- ---- reading in steps

pub then_ok : {A B P : Type 0} (r : Result A Fault) (f : A → Result B Fault) (y : B) → (r >>= f) ≡ Ok y → ((x : A) → r ≡ Ok x → f x ≡ Ok y → P) → P
then_ok (Ok x) f y e go = go x refl e
then_ok (Err g) f y e go = absurd (cc)

pub same_ok : {A : Type 0} (x y : A) → Path (Result A Fault) (Ok x) (Ok y) → x ≡ y
same_ok x y e = cc

pub check_ok : (b : Bool) (c : TableCode) (line : ℕ) (u : Unit {0}) → check b c line ≡ Ok u → b ≡ true
check_ok true c line u e = refl
check_ok false c line u e = absurd (cc)

pub all_push : {A : Type 0} (P : A → Type 0) (xs : List A) (x : A) → AllByRecursion P xs → P x → AllByRecursion P (xs ++ x ∷ [])
all_push P [] x h p = (p, tt)
all_push P (y ∷ xs) x h p = (h.0, all_push P xs x h.1 p)

all_both : {A : Type 0} (P : A → Type 0) (xs ys : List A) → AllByRecursion P xs → AllByRecursion P ys → AllByRecursion P (xs ++ ys)
all_both P [] ys h k = k
all_both P (x ∷ xs) ys h k = (h.0, all_both P xs ys h.1 k)

pub push_length : {A : Type 0} (xs : List A) (x : A) → length (xs ++ x ∷ []) ≡ length xs + 1
push_length [] x = refl
push_length (y ∷ xs) x = let rest = push_length xs x in omega (arith, rest)

-- ---- cells

abbrev IsKnown : ℕ → ℕ → Type 0
IsKnown m j = (2 ≤ j) × (j ≤ m + 1)

number_range : (n : ℕ) (ids : List Label) (id : List ℕ) (j : ℕ) → number_from n ids id ≡ Some j → (n ≤ j) × (j < n + length ids)
number_range n [] id j e = absurd (cc)
number_range n (other ∷ others) id j e = by_same (number_range (n + 1) others id j) (has_id id other) e
  where
    by_same : (number_from (n + 1) others id ≡ Some j → (n + 1 ≤ j) × (j < n + 1 + length others)) → (b : Bool) →
        cond b (Some n) (number_from (n + 1) others id) ≡ Some j → (n ≤ j) × (j < n + length (other ∷ others))
    by_same rest true e = let is : n ≡ j = cc in (omega (arith, is), omega (arith, is))
    by_same rest false e = let r = rest e in (omega (arith, r.0), omega (arith, r.1))

named_range : (n : ℕ) (ids : List Label) (word : List ℕ) (j : ℕ) → named_from n ids word ≡ Some j → (n ≤ j) × (j < n + length ids)
named_range n [] word j e = absurd (cc)
named_range n (other ∷ others) word j e = by_same (named_range (n + 1) others word j) (has_name word other) (list_any (has_name word) others) e
  where
    by_same : (named_from (n + 1) others word ≡ Some j → (n + 1 ≤ j) × (j < n + 1 + length others)) → (b again : Bool) →
        cond b (if_alone again n) (named_from (n + 1) others word) ≡ Some j → (n ≤ j) × (j < n + length (other ∷ others))
    by_same rest true true e = absurd (cc)
    by_same rest true false e = let is : n ≡ j = cc in (omega (arith, is), omega (arith, is))
    by_same rest false again e = let r = rest e in (omega (arith, r.0), omega (arith, r.1))

-- a number that is found in one of two ways
by_either : (P : ℕ → Type 0) (a b : Option ℕ) (j : ℕ) → or_else a b ≡ Some j → (a ≡ Some j → P j) → (b ≡ Some j → P j) → P j
by_either P (Some n) b j e first second = first e
by_either P None b j e first second = second e

in_range : (m j : ℕ) → (2 ≤ j) × (j < 2 + m) → IsKnown m j
in_range m j r = (r.0, omega (arith, r.1))

number_known : (ids : List Label) (word : List ℕ) (j : ℕ) → number_by ids word ≡ Some j → IsKnown (length ids) j
unfolding number_by
number_known ids word j e =
    by_either (IsKnown (length ids)) (number_from 2 ids word) (named_from 2 ids word) j e (λ is. in_range (length ids) j (number_range 2 ids word j is)) (λ is. in_range (length ids) j (named_range 2 ids word j is))

linked_known : (ids : List Label) (front end : List ℕ) (b : Bool) (j : ℕ) → cond b (number_by ids front) None ≡ Some j → IsKnown (length ids) j
linked_known ids front end true j e = number_known ids front j e
linked_known ids front end false j e = absurd (cc)

word_known : (ids : List Label) (word : List ℕ) (j : ℕ) → or_else (number_by ids word) (linked ids word) ≡ Some j → IsKnown (length ids) j
word_known ids word j e =
    by_either (IsKnown (length ids)) (number_by ids word) (linked ids word) j e (number_known ids word j)
    (linked_known ids (take (length word - 2) word) (drop (length word - 2) word) (same (drop (length word - 2) word) (codes "FS")) j)

predecessor_known : (ids : List Label) (line : ℕ) (word : List ℕ) (j : ℕ) → predecessor ids line word ≡ Ok j → IsKnown (length ids) j
unfolding predecessor
predecessor_known ids line word j e =
    then_ok (check (is_printable word) code.NotText line) _ j e (λ u text e. by_number (or_else (number_by ids word) (linked ids word)) refl e)
  where
    by_number : (o : Option ℕ) → or_else (number_by ids word) (linked ids word) ≡ o → known o line word ≡ Ok j → IsKnown (length ids) j
    by_number None is e = absurd (cc)
    by_number (Some n) is e = subst (IsKnown (length ids)) (same_ok n j e) (word_known ids word n is)

predecessors_known : (ids : List Label) (line : ℕ) (before : List ℕ) (ws : List (List ℕ)) (js : List ℕ) → predecessors_at ids line before ws ≡ Ok js →
    AllByRecursion (IsKnown (length ids)) before → AllByRecursion (IsKnown (length ids)) js
unfolding predecessors_at
predecessors_known ids line before [] js e h = subst (λ (xs : List ℕ). AllByRecursion (IsKnown (length ids)) xs) (same_ok before js e) h
predecessors_known ids line before (id ∷ others) js e h =
    then_ok (predecessor ids line id) _ js e (λ n is e.
    predecessors_known ids line (before ++ n ∷ []) others js e (all_push (IsKnown (length ids)) before n h (predecessor_known ids line id n is)))

amount_in_small : (o : Option ℕ) (c : TableCode) (line : ℕ) (word : List ℕ) (n : ℕ) → amount_in o c line word ≡ Ok n → n ≤ 10000
amount_in_small None c line word n e = absurd (cc)
amount_in_small (Some m) c line word n e = by_test (nat_le m 10000) refl e
  where
    by_test : (b : Bool) → nat_le m 10000 ≡ b → cond b (Ok m) (fault code.Limit line []) ≡ Ok n → n ≤ 10000
    by_test true is e = let small = leb-true m 10000 is in let same_number : m ≡ n = same_ok m n e in omega (arith, small, same_number)
    by_test false is e = absurd (cc)

pub amount_small : (c : TableCode) (line : ℕ) (word cell : List ℕ) (n : ℕ) → amount c line word cell ≡ Ok n → n ≤ 10000
unfolding amount
amount_small c line word cell n e = amount_in_small (number cell) c line word n e

duration_small : (line : ℕ) (cell : List ℕ) (n : ℕ) → duration line cell ≡ Ok n → n ≤ 10000
unfolding duration
duration_small line cell n e = amount_in_small (days_in cell) code.BadDuration line cell n e

need_small : (line : ℕ) (resource cell : List ℕ) (n : ℕ) → need line resource cell ≡ Ok n → n ≤ 10000
need_small line resource cell n e = by_test (length cell == 0) e
  where
    by_test : (b : Bool) → cond b (Ok 0) (amount code.BadNeed line resource cell) ≡ Ok n → n ≤ 10000
    by_test true e = let is : 0 ≡ n = same_ok 0 n e in omega (arith, is)
    by_test false e = amount_small code.BadNeed line resource cell n e

-- an empty name has no control character
empty_printable : is_printable [] ≡ true
empty_printable =
    and_from (is_utf8 []) (not (list_any is_control (chars []))) (is_utf8-from_IsUtf8 [] IsUtf8-nil) (ap (λ (cs : List ℕ). not (list_any is_control cs)) chars-nil)

pub name_good : (line : ℕ) (cell text : List ℕ) → name line cell ≡ Ok text → trim cell ≡ cell → IsName text
unfolding name
name_good line cell text e trimmed =
    then_ok (check (nat_le (length cell) 200) code.Limit line) _ text e (λ u short e.
    then_ok (check (list_all (λ byte. nat_le 32 byte) cell) code.NotText line) _ text e (λ v plain e.
    then_ok (check (is_printable cell) code.NotText line) _ text e (λ w printable e.
    subst IsName (same_ok cell text e) (record {
      short = leb-true (length cell) 200 (check_ok _ code.Limit line u short);
      trimmed = trimmed;
      plain = check_ok _ code.NotText line v plain;
      printable = check_ok _ code.NotText line w printable;
    }))))

-- a name is the text of its cell
pub name_is : (line : ℕ) (cell text : List ℕ) → name line cell ≡ Ok text → cell ≡ text
unfolding name
name_is line cell text e =
    then_ok (check (nat_le (length cell) 200) code.Limit line) _ text e (λ u short e.
    then_ok (check (list_all (λ byte. nat_le 32 byte) cell) code.NotText line) _ text e (λ v plain e.
    then_ok (check (is_printable cell) code.NotText line) _ text e (λ w printable e. same_ok cell text e)))

-- ---- activities

-- an activity with what some columns say, of which so many are resources
pub record IsDraft (m c : ℕ) (a : Activity) : Type 0 where
  pub name : IsName a.name
  pub duration : a.duration ≤ 10000
  pub predecessors : AllByRecursion (IsKnown m) a.predecessors
  pub whole : length a.needs ≡ c
  pub needs : AllByRecursion (λ amount. amount ≤ 10000) a.needs

more_columns : (m c d : ℕ) (a : Activity) → c ≡ d → IsDraft m c a → IsDraft m d a
more_columns m c d a same_count draft = record {
  name = draft.name;
  duration = draft.duration;
  predecessors = draft.predecessors;
  whole = draft.whole ∙ same_count;
  needs = draft.needs;
}

cell_draft : (ids before : List Label) (line c : ℕ) (a b : Activity) (column : Column) (resource cell : List ℕ) →
    cell_read ids before line a column resource cell ≡ Ok b → trim cell ≡ cell → IsDraft (length ids) c a → IsDraft (length ids) (c + resource_count column) b
unfolding cell_read
cell_draft ids before line c a b columns.Duration resource cell e trimmed draft =
    then_ok (duration line cell) _ b e (λ n is e.
    subst (λ (x : Activity). IsDraft (length ids) (c + 0) x) (same_ok (record a { duration = n }) b e)
    (record {
      name = draft.name;
      duration = duration_small line cell n is;
      predecessors = draft.predecessors;
      whole = let w = draft.whole in omega (arith, w);
      needs = draft.needs;
    }))
cell_draft ids before line c a b columns.Id resource cell e trimmed draft =
    then_ok (id_read before line cell) _ b e (λ u is e.
    subst (λ (x : Activity). IsDraft (length ids) (c + 0) x) (same_ok a b e) (more_columns (length ids) c (c + 0) a (omega arith) draft))
cell_draft ids before line c a b columns.Name resource cell e trimmed draft =
    then_ok (name line cell) _ b e (λ text is e.
    subst (λ (x : Activity). IsDraft (length ids) (c + 0) x) (same_ok (record a { name = text }) b e)
    (record {
      name = name_good line cell text is trimmed;
      duration = draft.duration;
      predecessors = draft.predecessors;
      whole = let w = draft.whole in omega (arith, w);
      needs = draft.needs;
    }))
cell_draft ids before line c a b columns.Predecessors resource cell e trimmed draft =
    then_ok (predecessors_at ids line [] (ids_in cell)) _ b e (λ js is e.
    subst (λ (x : Activity). IsDraft (length ids) (c + 0) x) (same_ok (record a { predecessors = a.predecessors ++ js }) b e)
    (record {
      name = draft.name;
      duration = draft.duration;
      predecessors = all_both (IsKnown (length ids)) a.predecessors js draft.predecessors (predecessors_known ids line [] (ids_in cell) js is tt);
      whole = let w = draft.whole in omega (arith, w);
      needs = draft.needs;
    }))
cell_draft ids before line c a b columns.Resource resource cell e trimmed draft =
    then_ok (need line resource cell) _ b e (λ n is e.
    subst (λ (x : Activity). IsDraft (length ids) (c + 1) x) (same_ok (record a { needs = a.needs ++ n ∷ [] }) b e)
    (record {
      name = draft.name;
      duration = draft.duration;
      predecessors = draft.predecessors;
      whole = push_length a.needs n ∙ ap (λ k. k + 1) draft.whole;
      needs = all_push (λ amount. amount ≤ 10000) a.needs n draft.needs (need_small line resource cell n is);
    }))
cell_draft ids before line c a b columns.Note resource cell e trimmed draft =
    subst (λ (x : Activity). IsDraft (length ids) (c + 0) x) (same_ok a b e) (more_columns (length ids) c (c + 0) a (omega arith) draft)
cell_draft ids before line c a b columns.Nothing resource cell e trimmed draft =
    subst (λ (x : Activity). IsDraft (length ids) (c + 0) x) (same_ok a b e) (more_columns (length ids) c (c + 0) a (omega arith) draft)

row_draft : (ids before : List Label) (line c : ℕ) (a b : Activity) (heads : List Head) (cells : List (List ℕ)) →
    row_read ids before line a heads cells ≡ Ok b → IsDraft (length ids) c a → IsDraft (length ids) (c + resources_in heads) b
unfolding row_read
row_draft ids before line c a b [] cells e draft =
    subst (λ (x : Activity). IsDraft (length ids) (c + 0) x) (same_ok a b e) (more_columns (length ids) c (c + 0) a (omega arith) draft)
row_draft ids before line c a b (head ∷ heads) cells e draft =
    then_ok (cell_read ids before line a head.column head.name (trim (first_cell cells))) _ b e (λ x is e.
    let one = cell_draft ids before line c a x head.column head.name (trim (first_cell cells)) is (trim_trim (first_cell cells)) draft in
    let rest = row_draft ids before line (c + resource_count head.column) x b heads (drop 1 cells) e one in
    let sums = sum_by-cons (λ (h : Head). resource_count h.column) head heads in
    more_columns (length ids) (c + resource_count head.column + resources_in heads) (c + resources_in (head ∷ heads)) b (omega (arith, sums)) rest)

pub activity_draft : (ids before : List Label) (line : ℕ) (id : List ℕ) (heads : List Head) (cells : List (List ℕ)) (b : Activity) →
    activity_read ids before line id heads cells ≡ Ok b → IsDraft (length ids) (resources_in heads) b
unfolding activity_read
activity_draft ids before line id heads cells b e =
    then_ok (row_read ids before line (fresh_activity line id) heads cells) _ b e (λ x is e.
    then_ok (check (nat_le (length cells) (length heads)) code.Cells line) _ b e (λ u whole e.
    let none : IsDraft (length ids) 0 (fresh_activity line id) = record { name = record { short = omega arith; trimmed = refl; plain = refl; printable = empty_printable }; duration = omega arith; predecessors = tt; whole = refl; needs = tt } in
    let draft = row_draft ids before line 0 (fresh_activity line id) x heads cells is none in
    subst (λ (y : Activity). IsDraft (length ids) (resources_in heads) y) (same_ok x b e) (more_columns (length ids) (0 + resources_in heads) (resources_in heads) x (omega arith) draft)))

-- ---- the header

-- the header of a column; that of a resource isn't empty
pub record IsHeader (h : Head) : Type 0 where
  pub name : IsName h.name
  pub named : h.column ≡ columns.Resource → 0 < length h.name

pub record AreHeads (heads : List Head) : Type 0 where
  pub few : resources_in heads ≤ 16
  pub names : AllByRecursion IsHeader heads

-- an empty header is no resource
resource_named : (text : List ℕ) → column_of (map to_ascii_lowercase text) ≡ columns.Resource → 0 < length text
resource_named [] e = absurd (cc)
resource_named (b ∷ bs) e = omega arith

head_good : (line : ℕ) (before : List Head) (cell : List ℕ) (h : Head) → head_read line before cell ≡ Ok h → IsHeader h
unfolding head_read
head_good line before cell h e =
    then_ok (once before cell) _ h e (λ u new e.
    then_ok (check (nat_le (resources_in before + resource_count (column_of (key_of cell))) 100) code.Limit line) _ h e (λ v room e.
    then_ok (name line (trim cell)) _ h e (λ text is e.
    subst IsHeader
    (same_ok (record { column = column_of (key_of cell); key = key_of cell; name = text }) h e)
    (record {
      name = name_good line (trim cell) text is (trim_trim cell);
      named = λ resource. subst (λ (t : List ℕ). 0 < length t) (name_is line (trim cell) text is) (resource_named (trim cell) resource);
    }))))

heads_good : (line : ℕ) (before : List Head) (cells : List (List ℕ)) (heads : List Head) → heads_at line before cells ≡ Ok heads →
    AllByRecursion IsHeader before → AllByRecursion IsHeader heads
unfolding heads_at
heads_good line before [] heads e good = subst (AllByRecursion IsHeader) (same_ok before heads e) good
heads_good line before (cell ∷ cells) heads e good =
    then_ok (head_read line before cell) _ heads e (λ h is e.
    heads_good line (before ++ h ∷ []) cells heads e (all_push IsHeader before h good (head_good line before cell h is)))

-- a settled column is a resource only if its header isn't a known one
resource_by_header : (column other : Column) → settled_by column other ≡ columns.Resource → column ≡ columns.Resource
resource_by_header columns.Resource other e = refl
resource_by_header columns.Duration other e = absurd (cc)
resource_by_header columns.Id other e = absurd (cc)
resource_by_header columns.Name other e = absurd (cc)
resource_by_header columns.Predecessors other e = absurd (cc)
resource_by_header columns.Note other e = absurd (cc)
resource_by_header columns.Nothing other e = absurd (cc)

settled_head_good : (body : Body) (before : List Head) (k : ℕ) (head : Head) (behind : List Head) → IsHeader head → IsHeader (settled_head body before k head behind)
settled_head_good body before k head behind good =
    record { name = good.name; named = λ e. good.named (resource_by_header head.column (other_column body before k head behind) e) }

settled_good : (body : Body) (before : List Head) (k : ℕ) (heads : List Head) → AllByRecursion IsHeader before → AllByRecursion IsHeader heads →
    AllByRecursion IsHeader (settled_at body before k heads)
unfolding settled_at
settled_good body before k [] done left = done
settled_good body before k (head ∷ heads) done left =
    settled_good body (before ++ settled_head body before k head heads ∷ []) (k + 1) heads
    (all_push IsHeader before (settled_head body before k head heads) done (settled_head_good body before k head heads left.0)) left.1

few_heads : (line : ℕ) (heads : List Head) (u : Unit {0}) → heads_checked line heads ≡ Ok u → resources_in heads ≤ 16
unfolding heads_checked
few_heads line heads u e =
    then_ok (check (nat_le (resources_in heads) 16) code.Limit line) _ u e (λ v few e. leb-true (resources_in heads) 16 (check_ok _ code.Limit line v few))

pub header_good : (overrides : List Override) (first : Row) (rows : List Row) (heads : List Head) → header overrides first rows ≡ Ok heads → AreHeads heads
unfolding header
header_good overrides first rows heads e =
    then_ok (heads_at first.line [] first.cells) _ heads e (λ hs is e.
    then_ok (heads_checked first.line (settled overrides rows hs)) _ heads e (λ u sound e.
    then_ok (successors_checked overrides rows hs) _ heads e (λ v none e.
    let body : Body = record { overrides = overrides; rows = rows; place = ids_place overrides hs } in
    subst AreHeads (same_ok (settled overrides rows hs) heads e) (record {
      few = few_heads first.line (settled overrides rows hs) u sound;
      names = settled_good body [] 0 hs tt (heads_good first.line [] first.cells hs is tt);
    }))))
