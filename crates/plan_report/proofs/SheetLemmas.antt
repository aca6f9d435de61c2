-- Sheets: what their rows show, and the result of reading them.
use Rattle.std.proofs.Common.{◌≡◌, ℕ, suc, ◌≤◌, ◌<◌, ◌+◌, ◌==◌, ◌⊎◌, inl, inr, true, false, Bool, Result, if◌then◌else◌, List, [], ◌∷◌, ◌++◌, Option, Some, None, Ok, length, refl, sym, ap, ◌∙◌, subst, append_assoc, append-nil, arith}
use Rattle.std.specs.Prelude.{nat_le, All, is_ok}
use Rattle.std.specs.List.{AllByRecursion}
use Rattle.std.proofs.lemmas.Bool.{leb-true, le-leb, eqb-true, eq-eqb}
use Rattle.std.proofs.lemmas.List.Elements.{All-from_recursion}
use Rattle.plan_psplib.specs.declared.text.fault.FileCode.TheVariants as code
use Rattle.plan_psplib.specs.Numbers.{number}
use Rattle.plan_psplib.specs.Tokens.{◌>>=◌, check, fault}
use Rattle.plan_psplib.specs.declared.text.fault.Fault.{Fault}
use Rattle.plan_psplib.proofs.GoesLemmas.{then_ok, same_ok, ok_bind, check_ok, ok_check}
use Rattle.plan_gantt.specs.Limits.{latest_start}
use Rattle.plan_report.specs.Sheet.{Entry, Row, Sheet, BeginsWith, ShowsStart, ShowsRow, IsLeftOut, ShowsNext, ShowStarts, ShowsSheet, has_columns, as_number, cell_is, expect_all, start_at, start_in, is_next, absent_start, early_start, left_out, row_start, start_by, next_start, starts_after, sheet_at}

-- the cells spell these numbers, and then go on as the others
abbrev pub Goes : List (List ℕ) → List ℕ → List (List ℕ) → Type 0
Goes cells [] rest = cells ≡ rest
Goes [] (n ∷ ns) rest = ⊥
Goes (cell ∷ cells) (n ∷ ns) rest = (number cell ≡ Some n) × Goes cells ns rest

pub goes_append : (cells mid rest : List (List ℕ)) (ms ns : List ℕ) → Goes cells ms mid → Goes mid ns rest → Goes cells (ms ++ ns) rest
goes_append [] mid rest [] ns p q = let P : List (List ℕ) → Type 0 = λ xs. Goes xs ns rest in subst P (sym p) q
goes_append (cell ∷ cells) mid rest [] ns p q = let P : List (List ℕ) → Type 0 = λ xs. Goes xs ns rest in subst P (sym p) q
goes_append [] mid rest (m ∷ ms) ns p q = absurd p
goes_append (cell ∷ cells) mid rest (m ∷ ms) ns p q = (p.0, goes_append cells mid rest ms ns p.1 q)

pub goes_split : (cells rest : List (List ℕ)) (ms ns : List ℕ) → Goes cells (ms ++ ns) rest → (mid : List (List ℕ)) × Goes cells ms mid × Goes mid ns rest
goes_split [] rest [] ns p = ([], refl, p)
goes_split (cell ∷ cells) rest [] ns p = (cell ∷ cells, refl, p)
goes_split [] rest (m ∷ ms) ns p = absurd p
goes_split (cell ∷ cells) rest (m ∷ ms) ns p =
    let others = goes_split cells rest ms ns p.1 in
    (others.0, (p.0, others.1), others.2)

pub begins_goes : (cells : List (List ℕ)) (ns : List ℕ) → BeginsWith cells ns → (rest : List (List ℕ)) × Goes cells ns rest
begins_goes [] [] p = ([], refl)
begins_goes (cell ∷ cells) [] p = (cell ∷ cells, refl)
begins_goes [] (n ∷ ns) p = absurd p
begins_goes (cell ∷ cells) (n ∷ ns) p = let others = begins_goes cells ns p.1 in (others.0, (p.0, others.1))

pub goes_begins : (cells rest : List (List ℕ)) (ns : List ℕ) → Goes cells ns rest → BeginsWith cells ns
goes_begins [] rest [] p = tt
goes_begins (cell ∷ cells) rest [] p = tt
goes_begins [] rest (n ∷ ns) p = absurd p
goes_begins (cell ∷ cells) rest (n ∷ ns) p = (p.0, goes_begins cells rest ns p.1)

-- without cells there are no names
pub no_cells : (names cells : List (List ℕ)) → length cells < 1 → 0 < length names → has_columns names cells ≡ false
unfolding has_columns
no_cells [] [] few some = absurd (omega (arith, some))
no_cells [] (cell ∷ cells) few some = absurd (omega (arith, some))
no_cells (name ∷ names) [] few some = refl
no_cells (name ∷ names) (cell ∷ cells) few some = absurd (omega (arith, few))

-- ---- cells

number_is : (line : ℕ) (o : Option ℕ) (n : ℕ) → as_number line o ≡ Ok n → o ≡ Some n
number_is line None n e = absurd (cc)
number_is line (Some m) n e = ap (λ (x : ℕ). Some x) (same_ok m n e)

cell_spells : (line n : ℕ) (cell : List ℕ) (u : Unit {0}) → cell_is line n cell ≡ Ok u → number cell ≡ Some n
unfolding cell_is
cell_spells line n cell u e =
    then_ok (as_number line (number cell)) _ u e (λ x read e.
    let value : x ≡ n = eqb-true x n (check_ok (x == n) code.JobOrder line u e) in
    number_is line (number cell) x read ∙ ap (λ (y : ℕ). Some y) value)

spells_cell : (line n : ℕ) (cell : List ℕ) → number cell ≡ Some n → cell_is line n cell ≡ Ok tt
unfolding cell_is
spells_cell line n cell is =
    ok_bind (as_number line (number cell)) _ n tt (ap (as_number line) is) (ok_check (n == n) code.JobOrder line (eq-eqb n n refl))

pub all_goes : (line : ℕ) (ns : List ℕ) (cells rest : List (List ℕ)) → expect_all line ns cells ≡ Ok rest → Goes cells ns rest
unfolding expect_all
all_goes line [] [] rest e = same_ok [] rest e
all_goes line [] (cell ∷ cells) rest e = same_ok (cell ∷ cells) rest e
all_goes line (n ∷ ns) [] rest e = absurd (cc)
all_goes line (n ∷ ns) (cell ∷ cells) rest e =
    then_ok (cell_is line n cell) _ rest e (λ u read e. (cell_spells line n cell u read, all_goes line ns cells rest e))

pub goes_all : (line : ℕ) (ns : List ℕ) (cells rest : List (List ℕ)) → Goes cells ns rest → expect_all line ns cells ≡ Ok rest
unfolding expect_all
goes_all line [] [] rest p = ap (λ (xs : List (List ℕ)). Ok xs) p
goes_all line [] (cell ∷ cells) rest p = ap (λ (xs : List (List ℕ)). Ok xs) p
goes_all line (n ∷ ns) [] rest p = absurd p
goes_all line (n ∷ ns) (cell ∷ cells) rest p = ok_bind (cell_is line n cell) _ tt rest (spells_cell line n cell p.0) (goes_all line ns cells rest p.1)

start_goes : (line : ℕ) (cells : List (List ℕ)) (x : ℕ × List (List ℕ)) → start_at line cells ≡ Ok x → Goes cells (x.0 ∷ []) x.1 × (x.0 ≤ latest_start)
unfolding start_at
start_goes line [] x e = absurd (cc)
start_goes line (cell ∷ cells) x e =
    then_ok (as_number line (number cell)) _ x e (λ start read e.
    then_ok (check (nat_le start latest_start) code.Limit line) _ x e (λ u early e.
    let small : start ≤ latest_start = leb-true start latest_start (check_ok (nat_le start latest_start) code.Limit line u early) in
    let P : ℕ × List (List ℕ) → Type 0 = λ y. Goes (cell ∷ cells) (y.0 ∷ []) y.1 × (y.0 ≤ latest_start) in
    subst P (same_ok (start, cells) x e) ((number_is line (number cell) start read, refl), small)))

goes_start : (line start : ℕ) (cells rest : List (List ℕ)) → Goes cells (start ∷ []) rest → start ≤ latest_start → start_at line cells ≡ Ok (start, rest)
unfolding start_at
goes_start line start [] rest p small = absurd p
goes_start line start (cell ∷ cells) rest p small =
    ok_bind (as_number line (number cell)) _ start (start, rest) (ap (as_number line) p.0)
    (ok_bind (check (nat_le start latest_start) code.Limit line) _ tt (start, rest) (ok_check (nat_le start latest_start) code.Limit line (le-leb start latest_start small))
    (ap (λ (xs : List (List ℕ)). Ok (start, xs)) p.1))

-- ---- rows

pub start_shows : (entry : Entry) (row : Row) (s : ℕ) → start_in entry row ≡ Ok s → ShowsStart entry s row
unfolding start_in
start_shows entry row s e =
    then_ok (expect_all row.line entry.keys row.cells) _ s e (λ rest keys e.
    then_ok (start_at row.line rest) _ s e (λ start read e.
    then_ok (expect_all row.line ((start.0 + entry.duration) ∷ []) start.1) _ s e (λ behind ended e.
    let end : ℕ = start.0 + entry.duration in
    let one = start_goes row.line rest start read in
    let times = goes_append rest start.1 behind (start.0 ∷ []) (end ∷ []) one.0 (all_goes row.line (end ∷ []) start.1 behind ended) in
    let all = goes_append row.cells rest behind entry.keys (start.0 ∷ end ∷ []) (all_goes row.line entry.keys row.cells rest keys) times in
    let shown : ShowsStart entry start.0 row = record {
      spelled = goes_begins row.cells behind (entry.keys ++ start.0 ∷ end ∷ []) all;
      in_time = one.1;
    } in
    subst (λ (x : ℕ). ShowsStart entry x row) (same_ok start.0 s e) shown)))

pub shows_start : (entry : Entry) (row : Row) (s : ℕ) → ShowsStart entry s row → start_in entry row ≡ Ok s
unfolding start_in
shows_start entry row s shows =
    let end : ℕ = s + entry.duration in
    let all = begins_goes row.cells (entry.keys ++ s ∷ end ∷ []) shows.spelled in
    let keys = goes_split row.cells all.0 entry.keys (s ∷ end ∷ []) all.1 in
    let one = goes_split keys.0 all.0 (s ∷ []) (end ∷ []) keys.2 in
    ok_bind (expect_all row.line entry.keys row.cells) _ keys.0 s (goes_all row.line entry.keys row.cells keys.0 keys.1)
    (ok_bind (start_at row.line keys.0) _ (s, one.0) s (goes_start row.line s keys.0 one.0 one.1 shows.in_time)
    (ok_bind (expect_all row.line (end ∷ []) one.0) _ all.0 s (goes_all row.line (end ∷ []) one.0 all.0 one.2) refl))

-- the numbers of an entry whose row shows a start are in the row
row_next : (entry : Entry) (start : ℕ) (row : Row) (rows : List Row) → ShowsStart entry start row → is_next entry (row ∷ rows) ≡ true
row_next entry start row rows shows =
    let all = begins_goes row.cells (entry.keys ++ start ∷ (start + entry.duration) ∷ []) shows.spelled in
    let keys = goes_split row.cells all.0 entry.keys (start ∷ (start + entry.duration) ∷ []) all.1 in
    ap (λ (r : Result (List (List ℕ)) Fault). is_ok r) (goes_all row.line entry.keys row.cells keys.0 keys.1)

-- a row that is read shows its start
row_shows : (last : ℕ) (entry : Entry) (rows : List Row) (x : ℕ × ℕ × List Row) → row_start last entry rows ≡ Ok x → ShowsRow entry x.0 rows x.2
unfolding row_start
row_shows last entry [] x e = absurd (cc)
row_shows last entry (row ∷ rows) x e =
    then_ok (start_in entry row) _ x e (λ start read e.
    let P : ℕ × ℕ × List Row → Type 0 = λ y. ShowsRow entry y.0 (row ∷ rows) y.2 in
    subst P (same_ok (start, row.line, rows) x e) (start_shows entry row start read, refl))

shows_row : (last : ℕ) (entry : Entry) (start : ℕ) (rows others : List Row) → ShowsRow entry start rows others
    → (line : ℕ) × (row_start last entry rows ≡ Ok (start, line, others)) × (is_next entry rows ≡ true)
unfolding row_start
shows_row last entry start [] others p = absurd p
shows_row last entry start (row ∷ rows) others p = (
  row.line,
  ok_bind (start_in entry row) _ start (start, row.line, others) (shows_start entry row start p.0) (ap (λ (rs : List Row). Ok (start, row.line, rs)) p.1),
  row_next entry start row rows p.0,
)

-- a start without a row
early_is : (last start : ℕ) (b : Bool) (x : ℕ) → nat_le start latest_start ≡ b → (if b then Ok start else fault code.Limit last) ≡ Ok x → (start ≡ x) × (start ≤ latest_start)
early_is last start true x is e = (same_ok start x e, leb-true start latest_start is)
early_is last start false x is e = absurd (cc)

early_ok : (last start : ℕ) (b : Bool) → nat_le start latest_start ≡ b → start ≤ latest_start → (if b then Ok start else fault code.Limit last) ≡ Ok start
early_ok last start true is early = refl
early_ok last start false is early =
    let lie : true ≡ false = sym (le-leb start latest_start early) ∙ is in
    absurd (cc)

left_shows : (last end start : ℕ) (entry : Entry) (rows : List Row) (x : ℕ × ℕ × List Row) → absent_start entry.absence end ≡ Some start → is_next entry rows ≡ false
    → left_out last start rows ≡ Ok x → IsLeftOut end entry x.0 rows x.2
left_shows last end start entry rows x absent missing e =
    then_ok (early_start last start) _ x e (λ early read e.
    let is = early_is last start (nat_le start latest_start) early refl read in
    let P : ℕ × ℕ × List Row → Type 0 = λ y. IsLeftOut end entry y.0 rows y.2 in
    let Q : ℕ → Type 0 = λ t. absent_start entry.absence end ≡ Some t in
    let R : ℕ → Type 0 = λ t. t ≤ latest_start in
    subst P (same_ok (early, last, rows) x e) (record {
      absent = subst Q is.0 absent;
      missing = missing;
      in_time = subst R is.0 is.1;
      same = refl;
    }))

by_shows : (last end : ℕ) (o : Option ℕ) (b : Bool) (entry : Entry) (rows : List Row) (x : ℕ × ℕ × List Row) → absent_start entry.absence end ≡ o → is_next entry rows ≡ b
    → start_by last o entry rows ≡ Ok x → ShowsNext end entry x.0 rows x.2
by_shows last end None b entry rows x absent next e = inl (row_shows last entry rows x e)
by_shows last end (Some start) true entry rows x absent next e =
    inl (row_shows last entry rows x (sym (ap (λ (c : Bool). if c then row_start last entry rows else left_out last start rows) next) ∙ e))
by_shows last end (Some start) false entry rows x absent next e =
    inr (left_shows last end start entry rows x absent next (sym (ap (λ (c : Bool). if c then row_start last entry rows else left_out last start rows) next) ∙ e))

next_shows : (last end : ℕ) (entry : Entry) (rows : List Row) (x : ℕ × ℕ × List Row) → next_start last end entry rows ≡ Ok x → ShowsNext end entry x.0 rows x.2
unfolding next_start
next_shows last end entry rows x e = by_shows last end (absent_start entry.absence end) (is_next entry rows) entry rows x refl refl e

by_row : (last : ℕ) (o : Option ℕ) (entry : Entry) (rows : List Row) → is_next entry rows ≡ true → start_by last o entry rows ≡ row_start last entry rows
by_row last None entry rows next = refl
by_row last (Some start) entry rows next = ap (λ (c : Bool). if c then row_start last entry rows else left_out last start rows) next

-- what shows a start is read
shows_next : (last end start : ℕ) (entry : Entry) (rows others : List Row) → ShowsNext end entry start rows others
    → (line : ℕ) × (next_start last end entry rows ≡ Ok (start, line, others))
unfolding next_start
shows_next last end start entry rows others (inl shows) =
    let read = shows_row last entry start rows others shows in
    (read.0, by_row last (absent_start entry.absence end) entry rows read.2 ∙ read.1)
shows_next last end start entry rows others (inr left) =
    let Out : Type 0 = Result (ℕ × ℕ × List Row) Fault in
    let skip : Path Out (left_out last start rows) (Ok (start, last, rows)) =
    ok_bind (early_start last start) _ start (start, last, rows) (early_ok last start (nat_le start latest_start) refl left.in_time) refl in (
      last,
      ap (λ (o : Option ℕ). start_by last o entry rows) left.absent
          ∙ ap (λ (c : Bool). if c then row_start last entry rows else left_out last start rows) left.missing
          ∙ skip ∙ ap (λ (rs : List Row). Ok (start, last, rs)) left.same,
    )

-- the starts that are read are shown by the rows before the rest
after_shows : (entries : List Entry) (before : List ℕ) (last end : ℕ) (rows : List Row) (x : List ℕ × List Row) → starts_after before last end entries rows ≡ Ok x
    → (new : List ℕ) × (x.0 ≡ before ++ new) × ShowStarts end entries new rows x.1
unfolding starts_after
after_shows [] before last end rows x e =
    let P : List ℕ × List Row → Type 0 = λ z. (new : List ℕ) × (z.0 ≡ before ++ new) × ShowStarts end [] new rows z.1 in
    subst P (same_ok (before, rows) x e) ([], sym (append-nil before), refl)
after_shows (entry ∷ entries) before last end rows x e =
    then_ok (next_start last end entry rows) _ x e (λ next read e.
    let rest = after_shows entries (before ++ next.0 ∷ []) next.1 (next.0 + entry.duration) next.2 x e in
    (next.0 ∷ rest.0, rest.1 ∙ append_assoc before (next.0 ∷ []) rest.0, (next.2, next_shows last end entry rows next read, rest.2)))

-- the starts that rows show are read
shows_after : (entries : List Entry) (new before : List ℕ) (last end : ℕ) (rows rest : List Row) → ShowStarts end entries new rows rest
    → starts_after before last end entries rows ≡ Ok (before ++ new, rest)
unfolding starts_after
shows_after [] [] before last end rows rest p = ap (λ (rs : List Row). Ok (before, rs)) p ∙ ap (λ (xs : List ℕ). Ok (xs, rest)) (sym (append-nil before))
shows_after [] (s ∷ ss) before last end rows rest p = absurd p
shows_after (entry ∷ entries) [] before last end rows rest p = absurd p
shows_after (entry ∷ entries) (s ∷ ss) before last end rows rest p =
    let read = shows_next last end s entry rows p.0 p.1 in
    ok_bind (next_start last end entry rows) _ (s, read.0, p.0) (before ++ s ∷ ss, rest) read.1
    (shows_after entries ss (before ++ s ∷ []) read.0 (s + entry.duration) p.0 rest p.2 ∙ ap (λ (xs : List ℕ). Ok (xs, rest)) (append_assoc before (s ∷ []) ss))

-- the starts behind the next one
pub starts_go : (before : List ℕ) (last end : ℕ) (entry : Entry) (entries : List Entry) (rows others : List Row) (start line : ℕ) (whole : Result (List ℕ × List Row) Fault)
    → next_start last end entry rows ≡ Ok (start, line, others) → starts_after before last end (entry ∷ entries) rows ≡ whole
    → starts_after (before ++ start ∷ []) line (start + entry.duration) entries others ≡ whole
unfolding starts_after
starts_go before last end entry entries rows others start line whole read all =
    sym (ap (λ (r : Result (ℕ × ℕ × List Row) Fault). r >>= (λ next. starts_after (before ++ next.0 ∷ []) next.1 (next.0 + entry.duration) entries next.2)) read) ∙ all

-- ---- sheets

pub sheet_shows : (sheet : Sheet) (rows : List Row) (x : List ℕ × List Row) → sheet_at sheet rows ≡ Ok x → ShowsSheet sheet rows x.0 x.1
unfolding sheet_at
sheet_shows sheet [] x e = absurd (cc)
sheet_shows sheet (head ∷ rows) x e =
    then_ok (check (has_columns sheet.columns head.cells) code.MissingHead head.line) _ x e (λ u named e.
    let all = after_shows sheet.entries [] head.line 0 rows x e in record {
      head = head;
      behind = rows;
      split = refl;
      named = check_ok (has_columns sheet.columns head.cells) code.MissingHead head.line u named;
      shown = subst (λ (xs : List ℕ). ShowStarts 0 sheet.entries xs rows x.1) (sym all.1) all.2;
    })

pub shows_sheet : (sheet : Sheet) (rows : List Row) (starts : List ℕ) (rest : List Row) → ShowsSheet sheet rows starts rest → sheet_at sheet rows ≡ Ok (starts, rest)
unfolding sheet_at
shows_sheet sheet rows starts rest shows =
    ap (sheet_at sheet) shows.split
    ∙ ok_bind (check (has_columns sheet.columns shows.head.cells) code.MissingHead shows.head.line) _ tt (starts, rest)
    (ok_check (has_columns sheet.columns shows.head.cells) code.MissingHead shows.head.line shows.named)
    (shows_after sheet.entries starts [] shows.head.line 0 shows.behind rest shows.shown)

-- ---- what callers learn

shown_whole : (end : ℕ) (entries : List Entry) (starts : List ℕ) (rows rest : List Row) → ShowStarts end entries starts rows rest → length starts ≡ length entries
shown_whole end [] [] rows rest p = refl
shown_whole end [] (s ∷ ss) rows rest p = absurd p
shown_whole end (entry ∷ entries) [] rows rest p = absurd p
shown_whole end (entry ∷ entries) (s ∷ ss) rows rest p = ap suc (shown_whole (s + entry.duration) entries ss p.0 rest p.2)

row_early : (entry : Entry) (start : ℕ) (rows others : List Row) → ShowsRow entry start rows others → start ≤ latest_start
row_early entry start [] others p = absurd p
row_early entry start (row ∷ rows) others p = p.0.in_time

next_early : (end start : ℕ) (entry : Entry) (rows others : List Row) → ShowsNext end entry start rows others → start ≤ latest_start
next_early end start entry rows others (inl shows) = row_early entry start rows others shows
next_early end start entry rows others (inr left) = left.in_time

shown_early : (end : ℕ) (entries : List Entry) (starts : List ℕ) (rows rest : List Row) → ShowStarts end entries starts rows rest → AllByRecursion (λ t. t ≤ latest_start) starts
shown_early end [] [] rows rest p = tt
shown_early end [] (s ∷ ss) rows rest p = absurd p
shown_early end (entry ∷ entries) [] rows rest p = absurd p
shown_early end (entry ∷ entries) (s ∷ ss) rows rest p = (next_early end s entry rows p.0 p.1, shown_early (s + entry.duration) entries ss p.0 rest p.2)

pub sheet_whole : (sheet : Sheet) (rows : List Row) (starts : List ℕ) (rest : List Row) → ShowsSheet sheet rows starts rest → length starts ≡ length sheet.entries
sheet_whole sheet rows starts rest shows = shown_whole 0 sheet.entries starts shows.behind rest shows.shown

pub sheet_early : (sheet : Sheet) (rows : List Row) (starts : List ℕ) (rest : List Row) → ShowsSheet sheet rows starts rest → All (λ t. t ≤ latest_start) starts
sheet_early sheet rows starts rest shows = All-from_recursion (λ t. t ≤ latest_start) starts (shown_early 0 sheet.entries starts shows.behind rest shows.shown)
