-- The text of rows is read as these rows.
use Rattle.std.proofs.Common.{◌≡◌, ◌⊎◌, inl, inr, ◌≤◌, ◌<◌, ◌+◌, ◌-◌, ℕ, zero, suc, arith, Bool, true, false, List, [], ◌∷◌, ◌++◌, Option, Some, None, Result, Ok, Err, length, map, refl, sym, ap, ◌∙◌, subst, append_assoc}
use Rattle.std.specs.Prelude.{◌==◌, filter, fold, if◌then◌else◌, not, replicate, nat_le, count_by}
use Rattle.std.specs.List.{list_all, slice_split}
use Rattle.std.specs.Str.{bytes_eq, is_utf8}
use Rattle.std.proofs.lemmas.Bool.{and_from, and_parts, cases_Bool, eqb-true, le-leb, ne_eqb}
use Rattle.std.proofs.lemmas.Bool.Decides.{Decides-eqb, leb_tells}
use Rattle.std.proofs.lemmas.Slice.Eq.{bytes_eq-Decides}
use Rattle.std.proofs.lemmas.List.{append-nil}
use Rattle.std.proofs.lemmas.List.Sums.{fold-append, sum_by-cons}
use Rattle.csv.specs.declared.parser.State as machine
use Rattle.csv.specs.declared.parser.State.TheVariants as st
use Rattle.plan_psplib.specs.Lines.{before_trimmed, is_line_feed, trim_end, without_empty_end}
use Rattle.plan_psplib.specs.Plain.{longest_text}
use Rattle.plan_table.specs.Csv.{Machine, Row, delimiter_of, fed, first_filled, fresh, header_line, line_behind, read_of, records_of, rows_at_end, rows_or_line, scanned, unclosed, without_mark}
use Rattle.plan_table.specs.Entries.{is_blank_row}
use Rattle.plan_table.specs.Listing.{rows_read}
use Rattle.plan_table.specs.Reading.{Fault}
use Rattle.plan_spreadsheet.specs.declared.fault.SpreadsheetFault.TheVariants as faults
use Rattle.plan_spreadsheet.specs.PlainLists.{IsUnwritten}
use Rattle.plan_spreadsheet.specs.Rows.{Spells, filled, is_filled, same_cells, same_row, same_rows}
use Rattle.plan_spreadsheet.specs.Spelling.{AreInOrder, AreWritable, IsTooLong, cells_from, end_line, feeds, feeds_in, gap, no_row, quoted_byte, quoted_from, rows_from, spelling, start_mark, with_cell, with_row, with_tab}

-- ---- the separator

nonzero : (n : ℕ) → (suc n == 0) ≡ false
nonzero n = ne_eqb (suc n) 0 (λ same. omega (arith, same))

by_test : (part : List ℕ) (lines : List (List ℕ)) (empty : Bool) → empty ≡ false
    → delimiter_of (if empty then first_filled lines else 34 ∷ 34 ∷ 9 ∷ 13 ∷ part) ≡ 9
by_test part lines true other = let no : true ≡ false = other in cc no
by_test part lines false other = refl

by_trimmed : (part trimmed : List ℕ) (lines : List (List ℕ))
    → delimiter_of (if length (before_trimmed 34 trimmed) == 0 then first_filled lines else 34 ∷ 34 ∷ 9 ∷ 13 ∷ part) ≡ 9
by_trimmed part [] lines = refl
by_trimmed part (byte ∷ trimmed) lines = by_test part lines (length (34 ∷ byte ∷ trimmed) == 0) (nonzero (length (byte ∷ trimmed)))

by_line : (part : List ℕ) (lines : List (List ℕ)) → delimiter_of (first_filled ((34 ∷ 34 ∷ 9 ∷ 13 ∷ part) ∷ lines)) ≡ 9
by_line part lines = by_trimmed part (trim_end (34 ∷ 9 ∷ 13 ∷ part)) lines

-- the first line begins with the start mark
abbrev marked : List (List ℕ) → List (List ℕ)
marked [] = (34 ∷ 34 ∷ 9 ∷ 13 ∷ []) ∷ []
marked (part ∷ parts) = (34 ∷ 34 ∷ 9 ∷ 13 ∷ part) ∷ parts

by_parts : (parts : List (List ℕ)) → delimiter_of (first_filled (without_empty_end (marked parts))) ≡ 9
by_parts [] = by_line [] []
by_parts (part ∷ []) = by_line part []
by_parts (part ∷ next ∷ parts) = by_line part (without_empty_end (next ∷ parts))

split_marked : (rest : List ℕ) (parts : List (List ℕ)) → slice_split is_line_feed rest ≡ parts
    → slice_split is_line_feed (34 ∷ 34 ∷ 9 ∷ 13 ∷ rest) ≡ marked parts
split_marked rest [] is = rw is refl
split_marked rest (part ∷ parts) is = rw is refl

separated : (rest : List ℕ) → delimiter_of (header_line (34 ∷ 34 ∷ 9 ∷ 13 ∷ rest)) ≡ 9
separated rest =
    ap (λ parts. delimiter_of (first_filled (without_empty_end parts))) (split_marked rest (slice_split is_line_feed rest) refl)
    ∙ by_parts (slice_split is_line_feed rest)

-- ---- texts behind others

abbrev Extends : List ℕ → List ℕ → Type 0
Extends text new = (rest : List ℕ) × (new ≡ text ++ rest)

more : (text a b new : List ℕ) → b ≡ text ++ a → Extends b new → Extends text new
more text a b new is (rest, all) = (a ++ rest, all ∙ ap (λ t. t ++ rest) is ∙ append_assoc text a rest)

same_text : (text : List ℕ) → Extends text text
same_text text = ([], sym (append-nil text))

quoted_extends : (text cell : List ℕ) → Extends text (quoted_from text cell)
unfolding quoted_from
quoted_extends text [] = same_text text
quoted_extends text (byte ∷ cell) =
    more text (quoted_byte byte) (text ++ quoted_byte byte) (quoted_from (text ++ quoted_byte byte) cell) refl
    (quoted_extends (text ++ quoted_byte byte) cell)

behind_both : (a b c : List ℕ) → Extends a b → Extends b c → Extends a c
behind_both a b c (r, is) next = more a r b c is next

cell_extends : (text cell : List ℕ) → Extends text (with_cell text cell)
cell_extends text cell =
    behind_both text (text ++ 34 ∷ []) (with_cell text cell) (34 ∷ [], refl)
    (behind_both (text ++ 34 ∷ []) (quoted_from (text ++ 34 ∷ []) cell) (with_cell text cell) (quoted_extends (text ++ 34 ∷ []) cell) (34 ∷ [], refl))

tab_by : (first : Bool) (text : List ℕ) → Extends text (if first then text else text ++ 9 ∷ [])
tab_by true text = same_text text
tab_by false text = (9 ∷ [], refl)

tab_extends : (k : ℕ) (text : List ℕ) → Extends text (with_tab k text)
tab_extends k text = tab_by (k == 0) text

cells_extend : (text : List ℕ) (k : ℕ) (cells : List (List ℕ)) → Extends text (cells_from text k cells)
unfolding cells_from
cells_extend text k [] = same_text text
cells_extend text k (cell ∷ cells) =
    let tab = with_tab k text in
    behind_both text tab (cells_from (with_cell tab cell) (k + 1) cells) (tab_extends k text)
    (behind_both tab (with_cell tab cell) (cells_from (with_cell tab cell) (k + 1) cells) (cell_extends tab cell)
    (cells_extend (with_cell tab cell) (k + 1) cells))

row_extends : (text : List ℕ) (before row : Row) → Extends text (with_row text before row)
row_extends text before row =
    let start = text ++ replicate (gap before row.line) 10 in
    behind_both text start (with_row text before row) (replicate (gap before row.line) 10, refl)
    (behind_both start (cells_from start 0 row.cells) (with_row text before row) (cells_extend start 0 row.cells) (13 ∷ [], refl))

rows_extend : (text : List ℕ) (before : Row) (rows : List Row) → Extends text (rows_from text before rows)
unfolding rows_from
rows_extend text before [] = same_text text
rows_extend text before (row ∷ rows) =
    behind_both text (with_row text before row) (rows_from (with_row text before row) row rows) (row_extends text before row)
    (rows_extend (with_row text before row) row rows)

-- ---- the machine behind a cell

abbrev at : machine.State → List (List ℕ) → List ℕ → ℕ → ℕ → List Row → Machine
at state cells cell line first rows =
    record { state = state; cells = cells; cell = cell; line = line; first = first; rows = rows }

next_byte : (text : List ℕ) (byte : ℕ) (m : Machine) → scanned 9 text ≡ m → scanned 9 (text ++ byte ∷ []) ≡ fed 9 m byte
next_byte text byte m is = fold-append (fed 9) fresh text (byte ∷ []) ∙ ap (λ n. fed 9 n byte) is

plain_fed : (byte : ℕ) (cells : List (List ℕ)) (cell : List ℕ) (line first : ℕ) (rows : List Row) → (byte == 34) ≡ false
    → fed 9 (at st.InQuoted cells cell line first rows) byte ≡ at st.InQuoted cells (cell ++ byte ∷ []) (line_behind line byte) first rows
plain_fed byte cells cell line first rows other = rw other refl

quote_read : (text : List ℕ) (cells : List (List ℕ)) (cell : List ℕ) (line first : ℕ) (rows : List Row)
    → scanned 9 text ≡ at st.InQuoted cells cell line first rows
    → scanned 9 (text ++ 34 ∷ 34 ∷ []) ≡ at st.InQuoted cells (cell ++ 34 ∷ []) line first rows
quote_read text cells cell line first rows is =
    fold-append (fed 9) fresh text (34 ∷ 34 ∷ []) ∙ ap (λ n. fed 9 (fed 9 n 34) 34) is

plain_byte : (byte : ℕ) → (byte == 34) ≡ false → quoted_byte byte ≡ byte ∷ []
plain_byte byte other = rw other refl

byte_read : (text : List ℕ) (byte : ℕ) (cells : List (List ℕ)) (cell : List ℕ) (line first : ℕ) (rows : List Row)
    → scanned 9 text ≡ at st.InQuoted cells cell line first rows
    → scanned 9 (text ++ quoted_byte byte) ≡ at st.InQuoted cells (cell ++ byte ∷ []) (line_behind line byte) first rows
byte_read text byte cells cell line first rows is = elim (cases_Bool (byte == 34)) [
  | inl same ↦
      subst (λ z. scanned 9 (text ++ quoted_byte z) ≡ at st.InQuoted cells (cell ++ z ∷ []) (line_behind line z) first rows)
      (sym (eqb-true byte 34 same)) (quote_read text cells cell line first rows is)
  | inr other ↦
      ap (λ t. scanned 9 (text ++ t)) (plain_byte byte other)
      ∙ next_byte text byte (at st.InQuoted cells cell line first rows) is
      ∙ plain_fed byte cells cell line first rows other
]

at_same : (state : machine.State) (cells : List (List ℕ)) (cell other : List ℕ) (line last first : ℕ) (rows : List Row)
    → cell ≡ other → line ≡ last → at state cells cell line first rows ≡ at state cells other last first rows
at_same state cells cell other line last first rows same end =
    ap (λ c. at state cells c line first rows) same ∙ ap (λ n. at state cells other n first rows) end

feeds_more : (line byte : ℕ) (cell : List ℕ) → line_behind line byte + feeds_in cell ≡ line + feeds_in (byte ∷ cell)
feeds_more line byte cell =
    let all = sum_by-cons (λ x. if is_line_feed x then 1 else 0) byte cell in
    elim (cases_Bool (byte == 10)) [
      | inl same ↦ rw (all, same) (omega arith)
      | inr other ↦ rw (all, other) (omega arith)
    ]

quoted_read : (cell text : List ℕ) (cells : List (List ℕ)) (before : List ℕ) (line first : ℕ) (rows : List Row)
    → scanned 9 text ≡ at st.InQuoted cells before line first rows
    → scanned 9 (quoted_from text cell) ≡ at st.InQuoted cells (before ++ cell) (line + feeds_in cell) first rows
unfolding quoted_from
quoted_read [] text cells before line first rows is =
    is ∙ at_same st.InQuoted cells before (before ++ []) line (line + feeds_in []) first rows (sym (append-nil before)) (omega arith)
quoted_read (byte ∷ cell) text cells before line first rows is =
    quoted_read cell (text ++ quoted_byte byte) cells (before ++ byte ∷ []) (line_behind line byte) first rows
    (byte_read text byte cells before line first rows is)
    ∙ at_same st.InQuoted cells ((before ++ byte ∷ []) ++ cell) (before ++ byte ∷ cell) (line_behind line byte + feeds_in cell)
    (line + feeds_in (byte ∷ cell)) first rows (append_assoc before (byte ∷ []) cell) (feeds_more line byte cell)

-- a cell, behind the quote that begins it
cell_read : (text cell : List ℕ) (cells : List (List ℕ)) (line first : ℕ) (rows : List Row)
    → scanned 9 (text ++ 34 ∷ []) ≡ at st.InQuoted cells [] line first rows
    → scanned 9 (with_cell text cell) ≡ at st.AfterQuote cells cell (line + feeds_in cell) first rows
cell_read text cell cells line first rows is =
    next_byte (quoted_from (text ++ 34 ∷ []) cell) 34 (at st.InQuoted cells cell (line + feeds_in cell) first rows)
    (quoted_read cell (text ++ 34 ∷ []) cells [] line first rows is)

-- ---- the machine behind a row

abbrev row_at : ℕ → List (List ℕ) → Row
row_at line cells = record { line = line; cells = cells }

no_tab : (k : ℕ) → (k + 1 == 0) ≡ false
no_tab k = ne_eqb (k + 1) 0 (λ same. omega (arith, same))

tabbed : (k : ℕ) (text : List ℕ) → with_tab (k + 1) text ≡ text ++ 9 ∷ []
tabbed k text = rw (no_tab k) refl

ended_same : (line last first : ℕ) (cells others : List (List ℕ)) (rows : List Row) → line ≡ last → cells ≡ others
    → at st.AfterCr [] [] line first (rows ++ row_at first cells ∷ []) ≡ at st.AfterCr [] [] last first (rows ++ row_at first others ∷ [])
ended_same line last first cells others rows end same =
    ap (λ n. at st.AfterCr [] [] n first (rows ++ row_at first cells ∷ [])) end
    ∙ ap (λ c. at st.AfterCr [] [] last first (rows ++ row_at first c ∷ [])) same

next_cell : (text cell : List ℕ) (cells : List (List ℕ)) (before : List ℕ) (line first : ℕ) (rows : List Row)
    → scanned 9 text ≡ at st.AfterQuote cells before line first rows
    → scanned 9 (with_cell (text ++ 9 ∷ []) cell) ≡ at st.AfterQuote (cells ++ before ∷ []) cell (line + feeds_in cell) first rows
next_cell text cell cells before line first rows is =
    cell_read (text ++ 9 ∷ []) cell (cells ++ before ∷ []) line first rows
    (next_byte (text ++ 9 ∷ []) 34 (at st.StartField (cells ++ before ∷ []) [] line first rows)
    (next_byte text 9 (at st.AfterQuote cells before line first rows) is))

row_ended : (others : List (List ℕ)) (text : List ℕ) (k : ℕ) (cells : List (List ℕ)) (cell : List ℕ) (line first : ℕ) (rows : List Row)
    → scanned 9 text ≡ at st.AfterQuote cells cell line first rows
    → scanned 9 (cells_from text (k + 1) others ++ 13 ∷ [])
    ≡ at st.AfterCr [] [] (line + feeds others) first (rows ++ row_at first (cells ++ cell ∷ others) ∷ [])
unfolding cells_from
row_ended [] text k cells cell line first rows is =
    next_byte text 13 (at st.AfterQuote cells cell line first rows) is
    ∙ ended_same line (line + feeds []) first (cells ++ cell ∷ []) (cells ++ cell ∷ []) rows (omega arith) refl
row_ended (next ∷ others) text k cells cell line first rows is =
    let tab = text ++ 9 ∷ [] in
    ap (λ t. scanned 9 (cells_from (with_cell t next) ((k + 1) + 1) others ++ 13 ∷ [])) (tabbed k text)
    ∙ row_ended others (with_cell tab next) (k + 1) (cells ++ cell ∷ []) next (line + feeds_in next) first rows
    (next_cell text next cells cell line first rows is)
    ∙ ended_same ((line + feeds_in next) + feeds others) (line + feeds (next ∷ others)) first ((cells ++ cell ∷ []) ++ next ∷ others)
    (cells ++ cell ∷ next ∷ others) rows
    (let all = sum_by-cons feeds_in next others in rw all (omega arith)) (append_assoc cells (cell ∷ []) (next ∷ others))

-- no record has begun; the next one begins in this line
abbrev IsBetween : List ℕ → ℕ → List Row → Type 0
IsBetween text line rows =
    (first : ℕ) × ((scanned 9 text ≡ at st.StartRecord [] [] line first rows) ⊎ (scanned 9 text ≡ at st.AfterCr [] [] line first rows))

feed_read : (text : List ℕ) (line : ℕ) (rows : List Row) → IsBetween text line rows → IsBetween (text ++ 10 ∷ []) (line + 1) rows
feed_read text line rows (first, inl is) = (line, inl (next_byte text 10 (at st.StartRecord [] [] line first rows) is))
feed_read text line rows (first, inr is) = (line, inl (next_byte text 10 (at st.AfterCr [] [] line first rows) is))

feeds_read : (n : ℕ) (text : List ℕ) (line : ℕ) (rows : List Row) → IsBetween text line rows → IsBetween (text ++ replicate n 10) (line + n) rows
feeds_read zero text line rows is =
    subst (λ t. IsBetween t (line + 0) rows) (sym (append-nil text)) (subst (λ n. IsBetween text n rows) (omega arith) is)
feeds_read (suc n) text line rows is =
    let last : (line + 1) + n ≡ line + suc n = omega arith in
    subst (λ t. IsBetween t (line + suc n) rows) (append_assoc text (10 ∷ []) (replicate n 10))
    (subst (λ end. IsBetween ((text ++ 10 ∷ []) ++ replicate n 10) end rows) last
    (feeds_read n (text ++ 10 ∷ []) (line + 1) rows (feed_read text line rows is)))

first_cell : (text cell : List ℕ) (line : ℕ) (rows : List Row) → IsBetween text line rows
    → scanned 9 (with_cell text cell) ≡ at st.AfterQuote [] cell (line + feeds_in cell) line rows
first_cell text cell line rows (first, inl is) =
    cell_read text cell [] line line rows (next_byte text 34 (at st.StartRecord [] [] line first rows) is)
first_cell text cell line rows (first, inr is) =
    cell_read text cell [] line line rows (next_byte text 34 (at st.AfterCr [] [] line first rows) is)

-- cells behind line feeds are read as a row
cells_read : (text cell : List ℕ) (cells : List (List ℕ)) (line : ℕ) (rows : List Row) → IsBetween text line rows
    → scanned 9 (cells_from text 0 (cell ∷ cells) ++ 13 ∷ [])
    ≡ at st.AfterCr [] [] (line + feeds (cell ∷ cells)) line (rows ++ row_at line (cell ∷ cells) ∷ [])
unfolding cells_from
cells_read text cell cells line rows is =
    row_ended cells (with_cell text cell) 0 [] cell (line + feeds_in cell) line rows (first_cell text cell line rows is)
    ∙ ended_same ((line + feeds_in cell) + feeds cells) (line + feeds (cell ∷ cells)) line (cell ∷ cells) (cell ∷ cells) rows
    (let all = sum_by-cons feeds_in cell cells in rw all (omega arith)) refl

row_read : (text : List ℕ) (before row : Row) (rows : List Row) → is_filled row ≡ true → IsBetween text (end_line before) rows
    → end_line before ≤ row.line → IsBetween (with_row text before row) (end_line row) (rows ++ row ∷ [])
row_read text before row rows full is room = by_cells row.cells full refl
  where
    start : List ℕ
    start = text ++ replicate (gap before row.line) 10

    here : IsBetween start row.line rows
    here =
        let end : end_line before + gap before row.line ≡ row.line = omega (arith, room) in
        subst (λ n. IsBetween start n rows) end (feeds_read (gap before row.line) text (end_line before) rows is)

    by_cells : (cells : List (List ℕ)) → not (is_blank_row cells) ≡ true → row.cells ≡ cells
        → IsBetween (with_row text before row) (end_line row) (rows ++ row ∷ [])
    by_cells [] some same = cc some
    by_cells (cell ∷ cells) some same =
        subst (λ c. IsBetween (cells_from start 0 c ++ 13 ∷ []) (row.line + feeds c) (rows ++ row_at row.line c ∷ [])) (sym same)
        (row.line, inr (cells_read start cell cells row.line rows here))

-- ---- the machine behind all rows

all_read : (more : List Row) (text : List ℕ) (before : Row) (rows : List Row) → list_all is_filled more ≡ true → AreInOrder before more
    → IsBetween text (end_line before) rows → (line : ℕ) × IsBetween (rows_from text before more) line (rows ++ more)
unfolding rows_from
all_read [] text before rows full order is =
    (end_line before, subst (λ r. IsBetween text (end_line before) r) (sym (append-nil rows)) is)
all_read (row ∷ more) text before rows full order is =
    let both = and_parts (is_filled row) (list_all is_filled more) full in
    let rest = all_read more (with_row text before row) row (rows ++ row ∷ []) both.1 order.1
    (row_read text before row rows both.0 is order.0) in
    (rest.0, subst (λ r. IsBetween (rows_from (with_row text before row) row more) rest.0 r) (append_assoc rows (row ∷ []) more) rest.1)

-- the row of the start mark
abbrev mark_row : Row
mark_row = row_at 1 ([] ∷ [] ∷ [])

mark_read : IsBetween start_mark (end_line no_row) (mark_row ∷ [])
mark_read = (1, inr refl)

ended : (text : List ℕ) (line : ℕ) (rows : List Row) → IsBetween text line rows
    → (unclosed (scanned 9 text) ≡ None) × (rows_at_end (scanned 9 text) ≡ rows)
ended text line rows (first, inl is) = rw is (refl, refl)
ended text line rows (first, inr is) = rw is (refl, refl)

unmarked : (text rest : List ℕ) → text ≡ 34 ∷ 34 ∷ 9 ∷ 13 ∷ rest → without_mark text ≡ text
unmarked text rest is = subst (λ t. without_mark t ≡ t) (sym is) refl

-- the records of the text of rows
spelt_records : (rows : List Row) → list_all is_filled rows ≡ true → AreInOrder no_row rows → records_of (spelling rows) ≡ Ok (mark_row ∷ rows)
unfolding records_of
spelt_records rows full order =
    let found = all_read rows start_mark no_row (mark_row ∷ []) full order mark_read in
    let end = ended (spelling rows) found.0 (mark_row ∷ rows) found.1 in
    let whole = rows_extend start_mark no_row rows in
    let tab : delimiter_of (header_line (spelling rows)) ≡ 9 = ap (λ t. delimiter_of (header_line t)) whole.1 ∙ separated whole.0 in
    let read : read_of (without_mark (spelling rows)) ≡ scanned 9 (spelling rows) =
    ap read_of (unmarked (spelling rows) whole.0 whole.1) ∙ ap (λ d. scanned d (spelling rows)) tab in
    ap (λ m. rows_or_line (unclosed m) (rows_at_end m)) read
    ∙ ap (λ line. rows_or_line line (rows_at_end (scanned 9 (spelling rows)))) end.0 ∙ ap (λ r. rows_or_line None r) end.1

-- ---- reading

all_filled : (rows : List Row) → list_all is_filled rows ≡ true → filled rows ≡ rows
all_filled [] full = refl
all_filled (row ∷ rows) full =
    let both = and_parts (is_filled row) (list_all is_filled rows) full in
    rw (both.0) (ap (λ r. row ∷ r) (all_filled rows both.1))

-- rows whose text is short enough are spelt by it
spelt_rows : (rows : List Row) → AreWritable rows → length (spelling rows) ≤ longest_text → Spells (spelling rows) rows
unfolding rows_read
spelt_rows rows good short =
    let records = spelt_records rows good.full good.in_order in
    let fits : nat_le (length (spelling rows)) longest_text ≡ true = le-leb (length (spelling rows)) longest_text short in
    (mark_row ∷ rows, rw (fits, good.utf8, records) refl, all_filled rows good.full)

-- a text of rows that isn't read as them is too long
too_long : (rows : List Row) (text : List ℕ) → text ≡ spelling rows → (Spells text rows → ⊥) → IsTooLong rows
too_long rows text is none good = elim (leb_tells (length (spelling rows)) longest_text) [
  | inl short ↦ absurd (none (subst (λ t. Spells t rows) (sym is) (spelt_rows rows good short.1)))
  | inr long ↦ long.1
]

-- rows whose text isn't read as them
pub unwritten : (rows : List Row) (text written : List ℕ) (right : Bool) → text ≡ written → written ≡ spelling rows
    → right ≡ false → (right ≡ false → Spells text rows → ⊥) → IsUnwritten rows faults.TooLong
unwritten rows text written right same is wrong unread = inr (refl, too_long rows text (same ∙ is) (unread wrong))

-- ---- rows that are the same

cells_alike : (cells : List (List ℕ)) → same_cells cells cells ≡ true
unfolding same_cells
cells_alike [] = refl
cells_alike (cell ∷ cells) = and_from (bytes_eq cell cell) (same_cells cells cells) ((bytes_eq-Decides cell cell).1 refl) (cells_alike cells)

rows_alike : (rows : List Row) → same_rows rows rows ≡ true
unfolding same_rows
rows_alike [] = refl
rows_alike (row ∷ rows) =
    and_from (same_row row row) (same_rows rows rows)
    (and_from (row.line == row.line) (same_cells row.cells row.cells) ((Decides-eqb row.line row.line).1 refl) (cells_alike row.cells))
    (rows_alike rows)

abbrev from_ok : Result (List Row) Fault → List Row
from_ok (Ok rows) = rows
from_ok (Err fault) = []

-- a text that is read as other rows
pub unspelt : (text : List ℕ) (found before rows : List Row) → rows_read text ≡ Ok found → before ≡ filled found
    → same_rows before rows ≡ false → Spells text rows → ⊥
unspelt text found before rows is full other (all, read, same) =
    let known : found ≡ all = ap from_ok (sym is ∙ read) in
    let alike : before ≡ rows = full ∙ ap filled known ∙ same in
    let yes : same_rows before rows ≡ true = subst (λ r. same_rows before r ≡ true) alike (rows_alike before) in
    let no : true ≡ false = sym yes ∙ other in
    cc no

-- a text that isn't read
pub unread : (text : List ℕ) (rows : List Row) (fault : Fault) → rows_read text ≡ Err fault → Spells text rows → ⊥
unread text rows fault is (all, read, same) =
    let no = sym is ∙ read in
    cc no
