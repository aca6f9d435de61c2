-- Tables with ids: what their rows show, and the result of reading them.
use Rattle.std.proofs.Common.{◌≡◌, ℕ, zero, suc, ◌≤◌, ◌+◌, ◌==◌, Bool, true, false, if◌then◌else◌, List, [], ◌∷◌, ◌++◌, Ok, All, length, map, take, drop, inl, inr, refl, sym, ap, ◌∙◌, subst, append_assoc, append-nil, arith}
use Rattle.std.specs.Prelude.{nat_le, slice_index_or}
use Rattle.std.specs.List.{AllByRecursion}
use Rattle.std.proofs.lemmas.Bool.{cases_lt, leb-true, le-leb, eqb-true, eq-eqb}
use Rattle.std.proofs.lemmas.List.{length-append, length-map, length-take-le, take-append-drop}
use Rattle.std.proofs.Math.Seq.{take-append_seam, drop-append_seam}
use Rattle.std.proofs.lemmas.List.Elements.{All-from_recursion, recursion_from_All}
use Rattle.plan_psplib.specs.declared.text.fault.FileCode.TheVariants as code
use Rattle.plan_psplib.specs.Tokens.{check}
use Rattle.plan_psplib.proofs.GoesLemmas.{then_ok, same_ok, ok_bind, check_ok, ok_check, both_true}
use Rattle.plan_sgs.proofs.TotalLemmas.{greatest_above}
use Rattle.plan_gantt.specs.Limits.{latest_start}
use Rattle.plan_report.specs.Sheet.{IdEntry, Row, Sheet, ShowsStart, has_columns, sheet_at}
use Rattle.plan_report.specs.IdRows.{ShowAllById, ShowsBy, ShowsById, ShowsIds, ShowsRows, all_known, all_starts, begins_with_id, behind_id, durations_of, end_at, entries_with, greatest_end, has_ids, is_id_head, id_columns, id_rows_at, known_at, last_line, rows_at, rows_before, rows_with, start_by_id, start_of, starts_by_id, starts_of_body, unknown_code}
use Rattle.plan_report.specs.declared.starts.Form.{Form}
use Rattle.plan_report.proofs.SheetLemmas.{sheet_early, sheet_shows, sheet_whole, shows_sheet, shows_start, start_shows}

-- ---- the ids of rows

-- each row has the id of one activity
abbrev AreKnown : Form → List IdEntry → List Row → Type 0
AreKnown form entries rows = AllByRecursion (λ row. length (entries_with form entries row) ≡ 1) rows

known_is : (form : Form) (entries : List IdEntry) (rows : List Row) (u : Unit {0}) → all_known form entries rows ≡ Ok u → AreKnown form entries rows
unfolding all_known known_at
known_is form entries [] u e = tt
known_is form entries (row ∷ rows) u e =
    then_ok (check (length (entries_with form entries row) == 1) (unknown_code row.cells) row.line) _ u e (λ v known e.
    (eqb-true (length (entries_with form entries row)) 1 (check_ok (length (entries_with form entries row) == 1) (unknown_code row.cells) row.line v known), known_is form entries rows u e))

is_known : (form : Form) (entries : List IdEntry) (rows : List Row) → AreKnown form entries rows → all_known form entries rows ≡ Ok tt
unfolding all_known known_at
is_known form entries [] are = refl
is_known form entries (row ∷ rows) are =
    ok_bind (check (length (entries_with form entries row) == 1) (unknown_code row.cells) row.line) _ tt tt
    (ok_check (length (entries_with form entries row) == 1) (unknown_code row.cells) row.line (eq-eqb (length (entries_with form entries row)) 1 are.0))
    (is_known form entries rows are.1)

-- ---- the starts of activities

of_shows : (last : ℕ) (rows : List Row) (entry : IdEntry) (s : ℕ) → start_of last rows entry ≡ Ok s → (row : Row) × (rows ≡ row ∷ []) × ShowsStart entry.entry s (behind_id row)
of_shows last [] entry s e = absurd (cc)
of_shows last (row ∷ []) entry s e = (row, refl, start_shows entry.entry (behind_id row) s e)
of_shows last (row ∷ again ∷ rows) entry s e = absurd (cc)

shown_by_id : (form : Form) (last : ℕ) (rows : List Row) (entry : IdEntry) (s : ℕ) → start_by_id form last rows entry ≡ Ok s → ShowsById form rows entry s
shown_by_id form last rows entry s e =
    let shows = of_shows last (rows_with form entry.id rows) entry s e in
    record { row = shows.0; only = shows.1; shown = shows.2 }

by_id_shown : (form : Form) (last : ℕ) (rows : List Row) (entry : IdEntry) (s : ℕ) → ShowsById form rows entry s → start_by_id form last rows entry ≡ Ok s
by_id_shown form last rows entry s shows =
    ap (λ (xs : List Row). start_of last xs entry) shows.only ∙ shows_start entry.entry (behind_id shows.row) s shows.shown

-- the starts that are read are shown by the rows
all_shown : (form : Form) (last : ℕ) (rows : List Row) (before : List ℕ) (entries : List IdEntry) (x : List ℕ) → starts_by_id form last rows before entries ≡ Ok x
    → (new : List ℕ) × (x ≡ before ++ new) × ShowAllById form rows entries new
unfolding starts_by_id
all_shown form last rows before [] x e = ([], sym (same_ok before x e) ∙ sym (append-nil before), tt)
all_shown form last rows before (entry ∷ entries) x e =
    then_ok (start_by_id form last rows entry) _ x e (λ start read e.
    let rest = all_shown form last rows (before ++ start ∷ []) entries x e in
    (start ∷ rest.0, rest.1 ∙ append_assoc before (start ∷ []) rest.0, (shown_by_id form last rows entry start read, rest.2)))

-- the starts that rows show are read
shown_all : (form : Form) (last : ℕ) (rows : List Row) (before : List ℕ) (entries : List IdEntry) (new : List ℕ) → ShowAllById form rows entries new
    → starts_by_id form last rows before entries ≡ Ok (before ++ new)
unfolding starts_by_id
shown_all form last rows before [] [] p = ap (λ (xs : List ℕ). Ok xs) (sym (append-nil before))
shown_all form last rows before [] (s ∷ ss) p = absurd p
shown_all form last rows before (entry ∷ entries) [] p = absurd p
shown_all form last rows before (entry ∷ entries) (s ∷ ss) p =
    ok_bind (start_by_id form last rows entry) _ s (before ++ s ∷ ss) (by_id_shown form last rows entry s p.0)
    (shown_all form last rows (before ++ s ∷ []) entries ss p.1 ∙ ap (λ (xs : List ℕ). Ok xs) (append_assoc before (s ∷ []) ss))

-- ---- the rows of a table

-- the starts in the rows of a table
record ShowsBody (form : Form) (entries : List IdEntry) (waits : List ℕ) (rows : List Row) (starts : List ℕ) : Type 0 where
  known : All (λ row. length (entries_with form entries row) ≡ 1) rows
  inner : List ℕ
  shown : ShowAllById form rows entries inner
  in_time : greatest_end entries inner ≤ latest_start
  all : starts ≡ all_starts entries waits inner

body_shows : (form : Form) (last : ℕ) (entries : List IdEntry) (waits : List ℕ) (rows : List Row) (starts : List ℕ) → starts_of_body form last entries waits rows ≡ Ok starts
    → ShowsBody form entries waits rows starts
unfolding starts_of_body
body_shows form last entries waits rows starts e =
    then_ok (all_known form entries rows) _ starts e (λ u known e.
    then_ok (starts_by_id form last rows [] entries) _ starts e (λ inner read e.
    then_ok (check (nat_le (greatest_end entries inner) latest_start) code.Limit last) _ starts e (λ v early e.
    let all = all_shown form last rows [] entries inner read in
    record {
      known = All-from_recursion (λ row. length (entries_with form entries row) ≡ 1) rows (known_is form entries rows u known);
      inner = inner;
      shown = subst (λ (xs : List ℕ). ShowAllById form rows entries xs) (sym all.1) all.2;
      in_time = leb-true (greatest_end entries inner) latest_start (check_ok (nat_le (greatest_end entries inner) latest_start) code.Limit last v early);
      all = sym (same_ok (all_starts entries waits inner) starts e);
    })))

shows_body : (form : Form) (last : ℕ) (entries : List IdEntry) (waits : List ℕ) (rows : List Row) (starts : List ℕ) → ShowsBody form entries waits rows starts
    → starts_of_body form last entries waits rows ≡ Ok starts
unfolding starts_of_body
shows_body form last entries waits rows starts shows =
    ok_bind (all_known form entries rows) _ tt starts (is_known form entries rows (recursion_from_All (λ row. length (entries_with form entries row) ≡ 1) rows shows.known))
    (ok_bind (starts_by_id form last rows [] entries) _ shows.inner starts (shown_all form last rows [] entries shows.inner shows.shown)
    (ok_bind (check (nat_le (greatest_end entries shows.inner) latest_start) code.Limit last) _ tt starts
    (ok_check (nat_le (greatest_end entries shows.inner) latest_start) code.Limit last (le-leb (greatest_end entries shows.inner) latest_start shows.in_time))
    (ap (λ (xs : List ℕ). Ok xs) (sym shows.all))))

-- the rows before the rest
split_is : (line count : ℕ) (rows : List Row) (x : List Row × List Row) → rows_before line count rows ≡ Ok x → (length x.0 ≡ count) × (rows ≡ x.0 ++ x.1)
unfolding rows_before
split_is line count rows x e =
    then_ok (check (nat_le count (length rows)) code.Count (last_line line rows)) _ x e (λ u enough e.
    let fits : count ≤ length rows = leb-true count (length rows) (check_ok (nat_le count (length rows)) code.Count (last_line line rows) u enough) in
    let P : List Row × List Row → Type 0 = λ y. (length y.0 ≡ count) × (rows ≡ y.0 ++ y.1) in
    subst P (same_ok (take count rows, drop count rows) x e) (length-take-le count rows fits, sym (take-append-drop count rows)))

is_split : (line : ℕ) (body rest : List Row) → rows_before line (length body) (body ++ rest) ≡ Ok (body, rest)
unfolding rows_before
is_split line body rest =
    let fits : length body ≤ length (body ++ rest) = omega (arith, length-append body rest) in
    ok_bind (check (nat_le (length body) (length (body ++ rest))) code.Count (last_line line (body ++ rest))) _ tt (body, rest)
    (ok_check (nat_le (length body) (length (body ++ rest))) code.Count (last_line line (body ++ rest)) (le-leb (length body) (length (body ++ rest)) fits))
    (ap (λ (xs : List Row). Ok (xs, drop (length body) (body ++ rest))) (take-append_seam body rest)
    ∙ ap (λ (xs : List Row). Ok (body, xs)) (drop-append_seam body rest))

-- ---- tables with ids

ids_show : (form : Form) (sheet : Sheet) (rows : List Row) (x : List ℕ × List Row) → id_rows_at form sheet rows ≡ Ok x → ShowsIds form sheet rows x.0 x.1
unfolding id_rows_at
ids_show form sheet [] x e = absurd (cc)
ids_show form sheet (head ∷ rows) x e =
    then_ok (check (has_columns id_columns head.cells) code.MissingHead head.line) _ x e (λ u named e.
    then_ok (rows_before head.line (length sheet.by_id) rows) _ x e (λ split found e.
    then_ok (starts_of_body form (last_line head.line split.0) sheet.by_id sheet.waits split.0) _ x e (λ starts read e.
    let is = split_is head.line (length sheet.by_id) rows split found in
    let shows = body_shows form (last_line head.line split.0) sheet.by_id sheet.waits split.0 starts read in
    let shown : ShowsIds form sheet (head ∷ rows) starts split.1 = record {
      head = head;
      body = split.0;
      split = ap (λ (rs : List Row). head ∷ rs) is.1;
      named = check_ok (has_columns id_columns head.cells) code.MissingHead head.line u named;
      whole = is.0;
      known = shows.known;
      inner = shows.inner;
      shown = shows.shown;
      in_time = shows.in_time;
      all = shows.all;
    } in
    let P : List ℕ × List Row → Type 0 = λ y. ShowsIds form sheet (head ∷ rows) y.0 y.1 in
    subst P (same_ok (starts, split.1) x e) shown)))

show_ids : (form : Form) (sheet : Sheet) (rows : List Row) (starts : List ℕ) (rest : List Row) → ShowsIds form sheet rows starts rest → id_rows_at form sheet rows ≡ Ok (starts, rest)
unfolding id_rows_at
show_ids form sheet rows starts rest shows =
    let head = shows.head in
    let body = shows.body in
    let last = last_line head.line body in
    let shown : ShowsBody form sheet.by_id sheet.waits body starts = record {
      known = shows.known;
      inner = shows.inner;
      shown = shows.shown;
      in_time = shows.in_time;
      all = shows.all;
    } in
    ap (id_rows_at form sheet) shows.split
    ∙ ok_bind (check (has_columns id_columns head.cells) code.MissingHead head.line) _ tt (starts, rest)
    (ok_check (has_columns id_columns head.cells) code.MissingHead head.line shows.named)
    (ok_bind (rows_before head.line (length sheet.by_id) (body ++ rest)) _ (body, rest) (starts, rest)
    (ap (λ (n : ℕ). rows_before head.line n (body ++ rest)) (sym shows.whole) ∙ is_split head.line body rest)
    (ok_bind (starts_of_body form last sheet.by_id sheet.waits body) _ starts (starts, rest) (shows_body form last sheet.by_id sheet.waits body starts shown) refl))

-- ---- tables of both kinds

rows_by : (b : Bool) (form : Form) (sheet : Sheet) (rows : List Row) (x : List ℕ × List Row) → (if b then id_rows_at form sheet rows else sheet_at sheet rows) ≡ Ok x → ShowsBy b form sheet rows x.0 x.1
rows_by true form sheet rows x e = ids_show form sheet rows x e
rows_by false form sheet rows x e = sheet_shows sheet rows x e

by_rows : (b : Bool) (form : Form) (sheet : Sheet) (rows : List Row) (starts : List ℕ) (rest : List Row) → ShowsBy b form sheet rows starts rest
    → (if b then id_rows_at form sheet rows else sheet_at sheet rows) ≡ Ok (starts, rest)
by_rows true form sheet rows starts rest shows = show_ids form sheet rows starts rest shows
by_rows false form sheet rows starts rest shows = shows_sheet sheet rows starts rest shows

pub rows_show : (form : Form) (sheet : Sheet) (rows : List Row) (x : List ℕ × List Row) → rows_at form sheet rows ≡ Ok x → ShowsRows form sheet rows x.0 x.1
unfolding rows_at
rows_show form sheet rows x e = rows_by (begins_with_id sheet rows) form sheet rows x e

pub show_rows : (form : Form) (sheet : Sheet) (rows : List Row) (starts : List ℕ) (rest : List Row) → ShowsRows form sheet rows starts rest → rows_at form sheet rows ≡ Ok (starts, rest)
unfolding rows_at
show_rows form sheet rows starts rest shows = by_rows (begins_with_id sheet rows) form sheet rows starts rest shows

-- ---- what callers learn

inner_whole : (form : Form) (rows : List Row) (entries : List IdEntry) (starts : List ℕ) → ShowAllById form rows entries starts → length starts ≡ length entries
inner_whole form rows [] [] p = refl
inner_whole form rows [] (s ∷ ss) p = absurd p
inner_whole form rows (entry ∷ entries) [] p = absurd p
inner_whole form rows (entry ∷ entries) (s ∷ ss) p = ap suc (inner_whole form rows entries ss p.1)

inner_early : (form : Form) (rows : List Row) (entries : List IdEntry) (starts : List ℕ) → ShowAllById form rows entries starts → AllByRecursion (λ t. t ≤ latest_start) starts
inner_early form rows [] [] p = tt
inner_early form rows [] (s ∷ ss) p = absurd p
inner_early form rows (entry ∷ entries) [] p = absurd p
inner_early form rows (entry ∷ entries) (s ∷ ss) p = (p.0.shown.in_time, inner_early form rows entries ss p.1)

-- nothing is behind the end of a list
pub beyond : (xs : List ℕ) (k : ℕ) → length xs ≤ k → slice_index_or xs k 0 ≡ 0
beyond [] zero past = refl
beyond [] (suc k) past = refl
beyond (x ∷ xs) zero past = absurd (omega (arith, past))
beyond (x ∷ xs) (suc k) past = beyond xs k (omega (arith, past))

-- no place has an end above the greatest one
end_early : (entries : List IdEntry) (starts : List ℕ) (k most : ℕ) → length starts ≡ length entries → greatest_end entries starts ≤ most → end_at entries starts k ≤ most
end_early entries starts k most whole least = elim (cases_lt k (length entries)) [
  | inl below ↦
      let high = greatest_above (length entries) (end_at entries starts) k below in
      omega (arith, high, least)
  | inr past ↦
      let none = beyond starts k (omega (arith, past, whole)) in
      let nothing = beyond (durations_of entries) k (omega (arith, past, length-map entries (λ (entry : IdEntry). entry.entry.duration))) in
      omega (arith, none, nothing)
]

waits_early : (entries : List IdEntry) (starts waits : List ℕ) → length starts ≡ length entries → greatest_end entries starts ≤ latest_start
    → AllByRecursion (λ t. t ≤ latest_start) (map (end_at entries starts) waits)
waits_early entries starts [] whole least = tt
waits_early entries starts (k ∷ waits) whole least = (end_early entries starts k latest_start whole least, waits_early entries starts waits whole least)

early_both : (xs ys : List ℕ) → AllByRecursion (λ t. t ≤ latest_start) xs → AllByRecursion (λ t. t ≤ latest_start) ys → AllByRecursion (λ t. t ≤ latest_start) (xs ++ ys)
early_both [] ys are also = also
early_both (x ∷ xs) ys are also = (are.0, early_both xs ys are.1 also)

-- the entries with ids and the waits are all but two
abbrev pub IsWhole : Sheet → Type 0
IsWhole sheet = has_ids sheet ≡ true → length sheet.by_id + length sheet.waits + 2 ≡ length sheet.entries

-- rows with ids are rows of a sheet with ids
begins_has : (sheet : Sheet) (rows : List Row) → begins_with_id sheet rows ≡ true → has_ids sheet ≡ true
begins_has sheet [] e = absurd (cc)
begins_has sheet (row ∷ rows) e = (both_true (has_ids sheet) (is_id_head row.cells) e).0

ids_whole : (form : Form) (sheet : Sheet) (rows : List Row) (starts : List ℕ) (rest : List Row) → ShowsIds form sheet rows starts rest → length starts ≡ length sheet.by_id + length sheet.waits + 2
ids_whole form sheet rows starts rest shows =
    let inner = inner_whole form shows.body sheet.by_id shows.inner shows.shown in
    let end = greatest_end sheet.by_id shows.inner in
    let waits = map (end_at sheet.by_id shows.inner) sheet.waits in
    let most = length-append (shows.inner ++ waits) (end ∷ []) in
    ap (λ (xs : List ℕ). length xs) shows.all
    ∙ omega (arith, most, length-append shows.inner waits, length-map sheet.waits (end_at sheet.by_id shows.inner), inner)

by_whole : (b : Bool) (form : Form) (sheet : Sheet) (rows : List Row) (starts : List ℕ) (rest : List Row)
    → (b ≡ true → length sheet.by_id + length sheet.waits + 2 ≡ length sheet.entries) → ShowsBy b form sheet rows starts rest → length starts ≡ length sheet.entries
by_whole true form sheet rows starts rest is shows = ids_whole form sheet rows starts rest shows ∙ is refl
by_whole false form sheet rows starts rest is shows = sheet_whole sheet rows starts rest shows

pub rows_whole : (form : Form) (sheet : Sheet) (rows : List Row) (starts : List ℕ) (rest : List Row) → IsWhole sheet → ShowsRows form sheet rows starts rest → length starts ≡ length sheet.entries
rows_whole form sheet rows starts rest is shows = by_whole (begins_with_id sheet rows) form sheet rows starts rest (λ e. is (begins_has sheet rows e)) shows

ids_early : (form : Form) (sheet : Sheet) (rows : List Row) (starts : List ℕ) (rest : List Row) → ShowsIds form sheet rows starts rest → All (λ t. t ≤ latest_start) starts
ids_early form sheet rows starts rest shows =
    let entries = sheet.by_id in
    let inner = shows.inner in
    let waits = map (end_at entries inner) sheet.waits in
    let end = greatest_end entries inner in
    let zero : 0 ≤ latest_start = omega arith in
    let are = inner_early form shows.body entries inner shows.shown in
    let also = waits_early entries inner sheet.waits (inner_whole form shows.body entries inner shows.shown) shows.in_time in
    let both = early_both (inner ++ waits) (end ∷ []) (early_both inner waits are also) (shows.in_time, tt) in
    subst (λ (xs : List ℕ). All (λ t. t ≤ latest_start) xs) (sym shows.all) (All-from_recursion (λ t. t ≤ latest_start) (all_starts entries sheet.waits inner) (zero, both))

by_early : (b : Bool) (form : Form) (sheet : Sheet) (rows : List Row) (starts : List ℕ) (rest : List Row) → ShowsBy b form sheet rows starts rest → All (λ t. t ≤ latest_start) starts
by_early true form sheet rows starts rest shows = ids_early form sheet rows starts rest shows
by_early false form sheet rows starts rest shows = sheet_early sheet rows starts rest shows

pub rows_early : (form : Form) (sheet : Sheet) (rows : List Row) (starts : List ℕ) (rest : List Row) → ShowsRows form sheet rows starts rest → All (λ t. t ≤ latest_start) starts
rows_early form sheet rows starts rest shows = by_early (begins_with_id sheet rows) form sheet rows starts rest shows
