-- The header of a text is in the first record with content.
use Rattle.std.proofs.Common.{◌≡◌, ◌⊎◌, inl, inr, ℕ, zero, suc, ◌+◌, ◌≤◌, ◌<◌, Bool, true, false, List, [], ◌∷◌, ◌++◌, Option, Some, None, Ok, Err, length, map, fold, take, drop, get_or, refl, sym, ap, ◌∙◌, subst, append-nil, append_assoc, take-append-drop, arith}
use Rattle.std.specs.Prelude.{not, if◌then◌else◌, slice_get, Contains}
use Rattle.std.specs.Option.{option_map}
use Rattle.std.proofs.lemmas.Option.{slice_get-map}
use Rattle.std.proofs.lemmas.List.Sums.{fold-append, fold_more}
use Rattle.csv.specs.Machine.{step, ends_at_end}
use Rattle.csv.specs.declared.parser.State as machine
use Rattle.csv.specs.declared.parser.Action as actions
use Rattle.csv.specs.declared.parser.Action.TheVariants as act
use Rattle.plan_psplib.specs.Faults.{IsWantOfMemory}
use Rattle.plan_psplib.specs.Project.{Project, SaysProject, IsFirstFailing}
use Rattle.plan_psplib.specs.declared.text.fault.FileCode.TheVariants as code
use Rattle.plan_psplib.specs.declared.text.fault.FileFault.{FileFault}
use Rattle.plan_psplib.proofs.OnceLemmas.{said_fails_none}
use Rattle.plan_orlib.specs.Instances.{names_of}
use Rattle.plan_orlib.specs.Says.{Says}
use Rattle.plan_orlib.specs.Shop.{Shop}
use Rattle.plan_orlib.proofs.FoundLemmas.{stream_listed}
use Rattle.plan_table.specs.declared.kinds.ListKind.{ListKind}
use Rattle.plan_table.specs.declared.records.Row as declared
use Rattle.plan_table.specs.Csv.{Row, Machine, row_of, config, acted, moved, fed, scanned, fresh, rows_at_end, read_of, without_mark, header_line, delimiter_of}
use Rattle.plan_table.specs.Entries.{filled_from, is_blank_row}
use Rattle.plan_table.specs.Kinds.{has_content, has_content_at, is_filled, first_cells, header_cells, cells_of_first, IsKind, IsProjectFile, ProjectsAreNoLists, ShopsAreNoLists, KindsAreSingle}

-- ---- the first record with content

-- a list that has an item
abbrev IsCons : List Row → Type 0
IsCons [] = ⊥
IsCons (x ∷ xs) = Unit {0}

abbrev IsYes : Bool → Type 0
IsYes true = Unit {0}
IsYes false = ⊥

behind_if : (b : Bool) (x : Row) (xs ys : List Row) → (if b then filled_from xs else x ∷ xs) ≡ []
    → (filled_from xs ≡ [] → filled_from (xs ++ ys) ≡ filled_from ys)
    → (if b then filled_from (xs ++ ys) else x ∷ (xs ++ ys)) ≡ filled_from ys
behind_if true x xs ys none later = later none
behind_if false x xs ys none later = absurd (subst IsCons none tt)

-- records that are behind others in which nothing stands
pub filled_behind : (xs ys : List Row) → filled_from xs ≡ [] → filled_from (xs ++ ys) ≡ filled_from ys
filled_behind [] ys none = refl
filled_behind (x ∷ xs) ys none = behind_if (is_blank_row x.cells) x xs ys none (λ n. filled_behind xs ys n)

-- the first record with content, if there is one
pub record First (xs : List Row) : Type 0 where
  pub row : Row
  pub rest : List Row
  pub is : filled_from xs ≡ row ∷ rest
  pub more : (ys : List Row) → filled_from (xs ++ ys) ≡ row ∷ (rest ++ ys)
  pub content : is_blank_row row.cells ≡ false

first_if : (b : Bool) (x : Row) (xs : List Row) → is_blank_row x.cells ≡ b → (filled_from xs ≡ []) ⊎ First xs
    → (filled_from (x ∷ xs) ≡ []) ⊎ First (x ∷ xs)
first_if false x xs is later = inr (record {
  row = x;
  rest = xs;
  is = subst (λ (c : Bool). (if c then filled_from xs else x ∷ xs) ≡ x ∷ xs) (sym is) refl;
  more = λ ys. subst (λ (c : Bool). (if c then filled_from (xs ++ ys) else x ∷ (xs ++ ys)) ≡ x ∷ (xs ++ ys)) (sym is) refl;
  content = is;
})
first_if true x xs is (inl none) = inl (subst (λ (c : Bool). (if c then filled_from xs else x ∷ xs) ≡ []) (sym is) none)
first_if true x xs is (inr first) = inr (record {
  row = first.row;
  rest = first.rest;
  is = subst (λ (c : Bool). (if c then filled_from xs else x ∷ xs) ≡ first.row ∷ first.rest) (sym is) first.is;
  more = λ ys. subst (λ (c : Bool). (if c then filled_from (xs ++ ys) else x ∷ (xs ++ ys)) ≡ first.row ∷ (first.rest ++ ys)) (sym is) (first.more ys);
  content = first.content;
})

-- records without content, or a first one with content
pub filled : (xs : List Row) → (filled_from xs ≡ []) ⊎ First xs
filled [] = inl refl
filled (x ∷ xs) = first_if (is_blank_row x.cells) x xs refl (filled xs)

-- whether records have content, by those from the first one with content on
abbrev content_from : List Row → Bool
content_from rows = not (is_blank_row (cells_of_first rows))

-- records of which none has content
none_has : (xs : List Row) → filled_from xs ≡ [] → has_content xs ≡ false
none_has xs none = ap content_from none

first_has : (xs : List Row) (first : First xs) → has_content xs ≡ true
first_has xs first = ap content_from first.is ∙ ap not first.content

-- without content no record is filled
pub no_content : (xs : List Row) → has_content xs ≡ false → filled_from xs ≡ []
no_content xs has = by_first (filled xs)
  where
    by_first : (filled_from xs ≡ []) ⊎ First xs → filled_from xs ≡ []
    by_first (inl none) = none
    by_first (inr first) = absurd (subst IsYes (sym (first_has xs first) ∙ has) tt)

-- records behind a first one with content change nothing
pub cells_before : (xs ys : List Row) → has_content xs ≡ true → first_cells (xs ++ ys) ≡ first_cells xs
cells_before xs ys has = by_first (filled xs)
  where
    by_first : (filled_from xs ≡ []) ⊎ First xs → first_cells (xs ++ ys) ≡ first_cells xs
    by_first (inl none) = absurd (subst IsYes (sym has ∙ none_has xs none) tt)
    by_first (inr first) = ap cells_of_first (first.more ys) ∙ sym (ap cells_of_first first.is)

-- ---- the machine

-- at most one record is new
abbrev pub Grows : List Row → List Row → Type 0
Grows before after = (after ≡ before) ⊎ ((row : Row) × (after ≡ before ++ row ∷ []))

acted_grows : (m : Machine) (byte : ℕ) (a : actions.Action) → Grows m.rows (acted m byte a).rows
acted_grows m byte act.Skip = inl refl
acted_grows m byte act.Copy = inl refl
acted_grows m byte act.EndField = inl refl
acted_grows m byte act.EndRecord = inr (_, refl)

pub fed_grows : (d : ℕ) (m : Machine) (byte : ℕ) → Grows m.rows (fed d m byte).rows
fed_grows d m byte = acted_grows (moved m byte (step (config d) m.state byte).0) byte (step (config d) m.state byte).1

-- a byte adds records behind those before
more_rows : (before after : List Row) → Grows before after → (more : List Row) × (after ≡ before ++ more)
more_rows before after (inl same) = ([], same ∙ sym (append-nil before))
more_rows before after (inr (row, is)) = (row ∷ [], is)

scan_grows : (d : ℕ) (text : List ℕ) (m : Machine) → (more : List Row) × ((fold (fed d) m text).rows ≡ m.rows ++ more)
scan_grows d [] m = ([], sym (append-nil m.rows))
scan_grows d (byte ∷ text) m =
    let first = more_rows m.rows (fed d m byte).rows (fed_grows d m byte) in
    let later = scan_grows d text (fed d m byte) in
    (first.0 ++ later.0, later.1 ∙ ap (λ (rows : List Row). rows ++ later.0) first.1 ∙ append_assoc m.rows first.0 later.0)

last_if : (b : Bool) (rows : List Row) (row : Row) → has_content rows ≡ true
    → first_cells (if b then rows ++ row ∷ [] else rows) ≡ first_cells rows
last_if true rows row has = cells_before rows (row ∷ []) has
last_if false rows row has = refl

-- the end of a text changes nothing of the first record with content
at_end : (m : Machine) → has_content m.rows ≡ true → first_cells (rows_at_end m) ≡ first_cells m.rows
at_end m has = last_if (ends_at_end m.state) m.rows (record { line = m.first; cells = m.cells ++ m.cell ∷ [] }) has

single_if : (b : Bool) (row : Row) → is_blank_row row.cells ≡ b → has_content (row ∷ []) ≡ not b
single_if true row is = subst (λ (c : Bool). content_from (if c then [] else row ∷ []) ≡ false) (sym is) refl
single_if false row is = subst (λ (c : Bool). content_from (if c then [] else row ∷ []) ≡ true) (sym is) (ap not is)

slice_seam : (xs : List Row) (row : Row) → slice_get (xs ++ row ∷ []) (length xs) ≡ Some row
slice_seam [] row = refl
slice_seam (x ∷ xs) row = slice_seam xs row

slice_end : (xs : List Row) → slice_get xs (length xs) ≡ None
slice_end [] = refl
slice_end (x ∷ xs) = slice_end xs

-- a new record has content if records do of which the others have none
pub content_new : (before after : List Row) (n : ℕ) → Grows before after → filled_from before ≡ [] → n ≡ length before
    → has_content_at n after ≡ has_content after
content_new before after n (inl same) none count =
    ap (λ (k : ℕ). has_content_at k after) count ∙ ap (has_content_at (length before)) same ∙ ap is_filled (slice_end before)
    ∙ sym (none_has before none) ∙ sym (ap has_content same)
content_new before after n (inr (new, grown)) none count =
    ap (λ (k : ℕ). has_content_at k after) count ∙ ap (has_content_at (length before)) grown ∙ ap is_filled (slice_seam before new)
    ∙ sym (single_if (is_blank_row new.cells) new refl) ∙ sym (ap content_from (filled_behind before (new ∷ []) none)) ∙ sym (ap has_content grown)

-- the record at a place
pub record_there : (rows : List declared.Row) (k : ℕ) (row : declared.Row) → k < length rows → row ≡ get_or rows k row
    → not (is_blank_row (row_of row).cells) ≡ has_content_at k (map row_of rows)
record_there rows k row within is = sym (ap is_filled (slice_get-map row_of rows k ∙ ap (option_map row_of) (there rows k row within is)))
  where
    there : (rows : List declared.Row) (k : ℕ) (row : declared.Row) → k < length rows → row ≡ get_or rows k row → slice_get rows k ≡ Some row
    there [] k row within is = absurd (omega (arith, within))
    there (x ∷ xs) zero row within is = ap Some (sym is)
    there (x ∷ xs) (suc k) row within is = there xs k row (omega (arith, within)) is

-- no record behind the last one
pub record_beyond : (rows : List declared.Row) (k : ℕ) → length rows ≤ k → false ≡ has_content_at k (map row_of rows)
record_beyond rows k few = sym (ap is_filled (slice_get-map row_of rows k ∙ ap (option_map row_of) (beyond rows k few)))
  where
    beyond : (rows : List declared.Row) (k : ℕ) → length rows ≤ k → slice_get rows k ≡ None
    beyond [] k few = refl
    beyond (x ∷ xs) zero few = absurd (omega (arith, few))
    beyond (x ∷ xs) (suc k) few = beyond xs k (omega (arith, few))

-- the first record with content in a text is found in the part that has been read
pub found_early : (d : ℕ) (text : List ℕ) (k : ℕ) (m : Machine) → m ≡ scanned d (take k text) → has_content m.rows ≡ true
    → first_cells (rows_at_end m) ≡ first_cells (rows_at_end (scanned d text))
found_early d text k m is has =
    let whole : scanned d text ≡ fold (fed d) m (drop k text) =
    ap (scanned d) (sym (take-append-drop k text)) ∙ fold-append (fed d) fresh (take k text) (drop k text) ∙ ap (λ (n : Machine). fold (fed d) n (drop k text)) (sym is) in
    let rows = scan_grows d (drop k text) m in
    let n = fold (fed d) m (drop k text) in
    let cells : first_cells n.rows ≡ first_cells m.rows = ap first_cells rows.1 ∙ cells_before m.rows rows.0 has in
    let later : has_content n.rows ≡ true = ap (λ (cells : List (List ℕ)). not (is_blank_row cells)) cells ∙ has in
    at_end m has ∙ sym cells ∙ sym (at_end n later) ∙ ap (λ (n : Machine). first_cells (rows_at_end n)) (sym whole)

-- the machine after one more byte
pub scanned_more : (d : ℕ) (text : List ℕ) (k : ℕ) (old m : Machine) → k < length text
    → old ≡ scanned d (take k text) → m ≡ fed d old (get_or text k 0) → m ≡ scanned d (take (k + 1) text)
scanned_more d text k old m within before more =
    more ∙ ap (λ (n : Machine). fed d n (get_or text k 0)) before ∙ sym (fold_more (fed d) fresh text k 0 within)

-- the first record with content is found by one more byte
pub found_now : (d : ℕ) (text : List ℕ) (k : ℕ) (old m : Machine) → k < length text
    → old ≡ scanned d (take k text) → m ≡ fed d old (get_or text k 0) → has_content m.rows ≡ true
    → first_cells (rows_at_end m) ≡ first_cells (rows_at_end (scanned d text))
found_now d text k old m within before more has = found_early d text (k + 1) m (scanned_more d text k old m within before more) has

-- the header is that of the text without a mark, in the delimiter of its header line
pub header_is : (text cut line : List ℕ) (d : ℕ) (m : Machine) → cut ≡ without_mark text → line ≡ header_line cut → d ≡ delimiter_of line
    → first_cells (rows_at_end m) ≡ first_cells (rows_at_end (scanned d cut)) → first_cells (rows_at_end m) ≡ header_cells text
header_is text cut line d m cut_is line_is d_is cells =
    cells ∙ ap (λ (k : ℕ). first_cells (rows_at_end (scanned k cut))) (d_is ∙ ap delimiter_of line_is)
    ∙ ap (λ (t : List ℕ). first_cells (rows_at_end (read_of t))) cut_is

-- ---- laws

pub projects_are_no_lists : ProjectsAreNoLists
projects_are_no_lists text p kind says is = is.1 (inl (p, says))

-- a list that contains something has an item
some_in : {X : Type 0} (xs : List X) (x : X) → Contains xs x → 1 ≤ length xs
some_in xs x (k, below, is) = omega (arith, below)

pub shops_are_no_lists : ShopsAreNoLists
shops_are_no_lists text name shop kind says is =
    is.1 (inr (says.readable, some_in (names_of text) name (stream_listed name text says.stream.0 says.stream.1)))

pub kinds_are_single : KindsAreSingle
kinds_are_single text None None a b = refl
kinds_are_single text (Some kind) (Some other) a b = sym a.0 ∙ b.0
kinds_are_single text None (Some other) (inl none) b = sym none ∙ b.0
kinds_are_single text None (Some other) (inr plan) b = absurd (b.1 plan)
kinds_are_single text (Some kind) None a (inl none) = sym a.0 ∙ none
kinds_are_single text (Some kind) None a (inr plan) = absurd (a.1 plan)

-- ---- errors

-- an error that isn't want of memory shows that a text is no project file
pub no_project : (text : List ℕ) (fault : FileFault) → IsWantOfMemory fault ⊎ IsFirstFailing text fault
    → (fault.code ≡ code.Memory → ⊥) → IsProjectFile text → ⊥
no_project text fault (inl memory) other (p, says) = other memory.0
no_project text fault (inr first) other (p, says) = said_fails_none text p fault says first
