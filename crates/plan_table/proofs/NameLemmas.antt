-- The ids and names that the text of a table gives.
use Rattle.std.proofs.Common.{◌≡◌, ℕ, ◌+◌, ◌≤◌, ◌<◌, ◌==◌, Bool, true, false, List, [], ◌∷◌, ◌++◌, Some, None, length, drop, codes, refl, sym, ap, ◌∙◌, subst, append_assoc, append-nil, arith, cond}
use Rattle.std.specs.Prelude.{nat_lt, not}
use Rattle.std.specs.List.{AllByRecursion, filter_map, cons_option, position, position_or_len}
use Rattle.std.specs.Fmt.{decimal}
use Rattle.std.proofs.Math.Seq.{take-append_seam, drop-append_seam}
use Rattle.std.proofs.lemmas.Bool.{and_parts, and_from, not-true, not_from_false, lt-ltb, ltb-true, ne_eqb, or_from, or_parts}
use Rattle.std.proofs.lemmas.List.{length-append}
use Rattle.std.proofs.lemmas.List.Elements.{filter_map-append}
use Rattle.plan_psplib.specs.Lines.{is_blank, numbered_from, trim, trim_start, trim_end, before_trimmed}
use Rattle.plan_psplib.specs.Numbers.{number}
use Rattle.plan_psplib.specs.Sections.{begins_with, is_title, information_title, availabilities_title}
use Rattle.plan_table.specs.Columns.{columns}
use Rattle.plan_table.specs.Jobs.{table_jobs, capacities_of}
use Rattle.plan_table.specs.Limits.{IsEntry, IsId, IsName, IsSupply, IsTable, IsWithinLimits}
use Rattle.plan_table.specs.Names.{Name, SaysIds, SaysNames, behind, name_at, name_cut, name_in, name_section, named, names_behind, numbered_name, activity_key, activity_names_of, id_key, ids_from, resource_key, resource_names_of}
use Rattle.plan_table.specs.Numbered.{numbered}
use Rattle.plan_table.specs.ProjectText.{project_text, resource_heads}
use Rattle.plan_table.specs.Table.{Activity, Resource, Table}
use Rattle.plan_table.proofs.DigitLemmas.{all_weaker, decimal_first, number-decimal}
use Rattle.plan_table.proofs.LineLemmas.{is_inside, IsWord, IsSolid, solid_word, word_decimal, trim_start-word, trim_end-before}
use Rattle.plan_table.proofs.SectionLemmas.{none_begins}
use Rattle.plan_table.proofs.TextLineLemmas.{rule, head_lines, information_lines, precedence_lines, request_lines, availability_lines}
use Rattle.plan_table.proofs.RowListLemmas.{no_availabilities}
use Rattle.plan_table.proofs.HeadLemmas.{head_none_begins, information_none}
use Rattle.plan_table.proofs.LawLemmas.{IsLaidOut, capacities_row, precedence_none, requests_none, resource_heads_are}
use Rattle.plan_table.proofs.TableTextLemmas.{id_row, id_rows, own_rows, names_rest, name_row, name_rows, resource_row, resource_rows, laid_out_table, rest_is}

-- ---- the section of the names

-- the lines behind a front stand behind lines that don't begin with it
behind_past : (front : List ℕ) (ls rest : List (List ℕ)) (n : ℕ) → none_begins front ls ≡ true →
    (m : ℕ) × (behind front (numbered_from n (ls ++ rest)) ≡ behind front (numbered_from m rest))
behind_past front [] rest n none = (n, refl)
behind_past front (l ∷ ls) rest n none =
    let parts = and_parts _ (none_begins front ls) none in
    let further = behind_past front ls rest (n + 1) parts.1 in (
      further.0,
      ap (λ b. cond b (numbered_from (n + 1) (ls ++ rest)) (behind front (numbered_from (n + 1) (ls ++ rest)))) (not-true (begins_with (trim l) front) parts.0)
          ∙ further.1,
    )

no_information : (text : List ℕ) → is_title text ≡ false → begins_with text information_title ≡ false
no_information text e = (or_parts _ _ (or_parts _ _ (or_parts _ _ e).0).0).0

-- the lines behind the title of the names
section_of_names : (text : List ℕ) (t : Table) (p : IsLaidOut text (table_jobs t) (capacities_of t.resources)) → (m : ℕ) × (name_section text ≡ numbered_from m p.rest)
section_of_names text t p =
    let jobs = table_jobs t in
    let capacities = capacities_of t.resources in
    let title = codes "PROJECT INFORMATION:" in
    let heads = resource_heads capacities in
    let row = columns 4 4 capacities in
    let last = availability_lines capacities ++ title ∷ p.rest in
    let a = behind_past availabilities_title (head_lines (length jobs) p.horizon (length capacities))
    (information_lines p.activities p.horizon ++ (precedence_lines jobs ++ (request_lines jobs capacities ++ last))) 1
    (head_none_begins availabilities_title (length jobs) p.horizon (length capacities) p.small refl) in
    let b = behind_past availabilities_title (information_lines p.activities p.horizon) (precedence_lines jobs ++ (request_lines jobs capacities ++ last)) a.0
    (information_none availabilities_title p.activities p.horizon refl refl (λ ys. refl) refl) in
    let c = behind_past availabilities_title (precedence_lines jobs) (request_lines jobs capacities ++ last) b.0
    (precedence_none availabilities_title no_availabilities refl refl refl jobs p.precedences) in
    let d = behind_past availabilities_title (request_lines jobs capacities) last c.0 (requests_none jobs capacities p.requests) in
    let no_head = no_information (trim heads) (resource_heads_are capacities p.some).title in
    let no_row = no_information (trim row) (capacities_row capacities p.some p.capacities_small).title in
    let none : none_begins information_title (heads ∷ row ∷ rule ∷ []) ≡ true =
    and_from _ _ (not_from_false _ no_head) (and_from _ _ (not_from_false _ no_row) refl) in
    let e = behind_past information_title (heads ∷ row ∷ rule ∷ []) (title ∷ p.rest) (d.0 + 1) none in (
      e.0 + 1,
      ap (λ ls. behind information_title (behind availabilities_title (numbered_from 1 ls))) p.raw
          ∙ ap (behind information_title) (a.1 ∙ b.1 ∙ c.1 ∙ d.1) ∙ e.1,
    )

-- ---- names without blanks at their ends

trim_end_short : (text : List ℕ) → length (trim_end text) ≤ length text
trim_end_short [] = omega arith
trim_end_short (b ∷ bs) = by_rest (trim_end bs) (trim_end_short bs)
  where
    by_test : (t : Bool) → length (cond t [] (b ∷ [])) ≤ length (b ∷ bs)
    by_test true = omega arith
    by_test false = omega arith

    by_rest : (o : List ℕ) → length o ≤ length bs → length (before_trimmed b o) ≤ length (b ∷ bs)
    by_rest [] short = by_test (is_blank b)
    by_rest (c ∷ cs) short = omega (arith, short)

trim_start_short : (text : List ℕ) → length (trim_start text) ≤ length text
trim_start_short [] = omega arith
trim_start_short (b ∷ bs) = by_test (is_blank b) (trim_start_short bs)
  where
    by_test : (t : Bool) → length (trim_start bs) ≤ length bs → length (cond t (trim_start bs) (b ∷ bs)) ≤ length (b ∷ bs)
    by_test true rest = omega (arith, rest)
    by_test false rest = omega arith

-- a trimmed text begins with no blank
first_inside : (b : ℕ) (bs : List ℕ) → trim (b ∷ bs) ≡ b ∷ bs → is_blank b ≡ false
first_inside b bs is = by_test (is_blank b) refl
  where
    by_test : (t : Bool) → is_blank b ≡ t → t ≡ false
    by_test false e = refl
    by_test true e =
        let whole : trim_end (trim_start bs) ≡ b ∷ bs = sym (ap (λ t. trim_end (cond t (trim_start bs) (b ∷ bs))) e) ∙ is in
        let size = ap length whole in
        let one = trim_end_short (trim_start bs) in
        let two = trim_start_short bs in
        absurd (omega (arith, size, one, two))

trimmed_start : (text : List ℕ) → trim text ≡ text → trim_start text ≡ text
trimmed_start [] is = refl
trimmed_start (b ∷ bs) is = ap (λ t. cond t (trim_start bs) (b ∷ bs)) (first_inside b bs is)

pub solid_name : (b : ℕ) (name : List ℕ) → IsName (b ∷ name) → IsSolid (b ∷ name)
solid_name b name is = record { some = omega arith; end = ap trim_end (sym (trimmed_start (b ∷ name) is.trimmed)) ∙ is.trimmed }

-- ---- the name of a line

-- the first blank stands behind a word
prefix_word : (word rest : List ℕ) → IsWord word → position_or_len is_blank (word ++ 32 ∷ rest) ≡ length word
prefix_word [] rest inside = refl
prefix_word (b ∷ bs) rest inside =
    let parts = and_parts (is_inside b) _ inside in
    let one : 1 + length bs ≡ length (b ∷ bs) = omega arith in
    ap (λ t. cond t (1 + position_or_len is_blank (bs ++ 32 ∷ rest)) 0) parts.0 ∙ ap (λ n. 1 + n) (prefix_word bs rest parts.1) ∙ one

position_word : (word rest : List ℕ) → IsWord word → position is_blank (word ++ 32 ∷ rest) ≡ Some (length word)
position_word word rest inside =
    let size = length-append word (32 ∷ rest) in
    ap (λ k. cond (nat_lt k (length (word ++ 32 ∷ rest))) (Some k) None) (prefix_word word rest inside)
    ∙ ap (λ b. cond b (Some (length word)) None) (lt-ltb (length word) (length (word ++ 32 ∷ rest)) (omega (arith, size)))

-- a number, a space and a name
numbered_line : (j b : ℕ) (name : List ℕ) → j < 1000000000 → trim_start (b ∷ name) ≡ b ∷ name → name_in (decimal j ++ 32 ∷ b ∷ name) ≡ Some (record { number = j; name = b ∷ name })
numbered_line j b name small is =
    let rest = 32 ∷ b ∷ name in
    let d = decimal j in
    ap (λ at. name_cut at (d ++ rest)) (position_word d (b ∷ name) (word_decimal j small))
    ∙ ap (λ word. numbered_name (number word) (trim_start (drop (length d) (d ++ rest)))) (take-append_seam d rest)
    ∙ ap (λ left. numbered_name (number d) (trim_start left)) (drop-append_seam d rest)
    ∙ ap (λ n. numbered_name n (trim_start (b ∷ name))) (number-decimal j small)
    ∙ ap (numbered_name (Some j)) is

trim_start_number : (j : ℕ) (rest : List ℕ) → j < 1000000000 → trim_start (decimal j ++ rest) ≡ decimal j ++ rest
trim_start_number j rest small =
    let d = decimal_first j small in
    let P : List ℕ → Type 0 = λ text. trim_start (text ++ rest) ≡ text ++ rest in
    subst P (sym d.is) (trim_start-word d.first d.others rest (subst IsWord d.is (word_decimal j small)))

-- what stands behind the key of a line, if a name or an id begins with no blank
behind_start : (j b : ℕ) (name : List ℕ) → j < 1000000000 → trim_start (b ∷ name) ≡ b ∷ name →
    name_in (trim_start (decimal j ++ codes " " ++ (b ∷ name))) ≡ Some (record { number = j; name = b ∷ name })
behind_start j b name small is =
    ap (λ text. name_in (trim_start text)) (append_assoc (decimal j) (32 ∷ []) (b ∷ name))
    ∙ ap name_in (trim_start_number j (32 ∷ b ∷ name) small) ∙ numbered_line j b name small is

pub behind_key : (j b : ℕ) (name : List ℕ) → j < 1000000000 → IsName (b ∷ name) → name_in (trim_start (decimal j ++ codes " " ++ (b ∷ name))) ≡ Some (record { number = j; name = b ∷ name })
behind_key j b name small is = behind_start j b name small (trimmed_start (b ∷ name) is.trimmed)

-- the line of a name as it is read
abbrev line_text : List ℕ → ℕ → List ℕ → List ℕ
line_text key j name = key ++ decimal j ++ codes " " ++ name

activity_line_trimmed : (j b : ℕ) (name : List ℕ) → IsName (b ∷ name) → trim (line_text activity_key j (b ∷ name)) ≡ line_text activity_key j (b ∷ name)
activity_line_trimmed j b name is = trim_end-before (activity_key ++ decimal j ++ codes " ") (b ∷ name) (solid_name b name is)

resource_line_trimmed : (i b : ℕ) (name : List ℕ) → IsName (b ∷ name) → trim (line_text resource_key i (b ∷ name)) ≡ line_text resource_key i (b ∷ name)
resource_line_trimmed i b name is = trim_end-before (resource_key ++ decimal i ++ codes " ") (b ∷ name) (solid_name b name is)

-- the names that lines give
abbrev pub gives : List ℕ → List (List ℕ) → List Name
gives key ls = filter_map (λ l. named key (trim l)) ls

pub names_of_lines : (key : List ℕ) (n : ℕ) (ls : List (List ℕ)) → filter_map (λ line. named key line.text) (numbered_from n ls) ≡ gives key ls
names_of_lines key n [] = refl
names_of_lines key n (l ∷ ls) = ap (cons_option (named key (trim l))) (names_of_lines key (n + 1) ls)

-- ---- the lines of the names

pub one_name : (key l : List ℕ) (n : Name) → named key (trim l) ≡ Some n → gives key (l ∷ []) ≡ n ∷ []
one_name key l n is = ap (λ o. cons_option o []) is

pub no_name : (key l : List ℕ) → named key (trim l) ≡ None → gives key (l ∷ []) ≡ []
no_name key l is = ap (λ o. cons_option o []) is

activity_name : (j : ℕ) (name : List ℕ) → j < 1000000000 → IsName name → gives activity_key (name_row j name) ≡ name_at j name
activity_name j [] small is = refl
activity_name j (b ∷ name) small is =
    one_name activity_key (line_text activity_key j (b ∷ name)) (record { number = j; name = b ∷ name }) (ap (named activity_key) (activity_line_trimmed j b name is) ∙ behind_key j b name small is)

activity_no_resource : (j : ℕ) (name : List ℕ) → IsName name → gives resource_key (name_row j name) ≡ []
activity_no_resource j [] is = refl
activity_no_resource j (b ∷ name) is = no_name resource_key (line_text activity_key j (b ∷ name)) (ap (named resource_key) (activity_line_trimmed j b name is))

resource_name : (i : ℕ) (r : Resource) → i < 1000000000 → IsSupply r → gives resource_key (resource_row i r.name ∷ []) ≡ record { number = i; name = r.name } ∷ []
resource_name i r small is = by_name r.name is.name is.named
  where
    by_name : (name : List ℕ) → IsName name → 0 < length name → gives resource_key (resource_row i name ∷ []) ≡ record { number = i; name = name } ∷ []
    by_name [] is some = absurd (omega (arith, some))
    by_name (b ∷ name) is some =
        one_name resource_key (line_text resource_key i (b ∷ name)) (record { number = i; name = b ∷ name }) (ap (named resource_key) (resource_line_trimmed i b name is) ∙ behind_key i b name small is)

resource_no_activity : (i : ℕ) (r : Resource) → IsSupply r → gives activity_key (resource_row i r.name ∷ []) ≡ []
resource_no_activity i r is = by_name r.name is.name is.named
  where
    by_name : (name : List ℕ) → IsName name → 0 < length name → gives activity_key (resource_row i name ∷ []) ≡ []
    by_name [] is some = absurd (omega (arith, some))
    by_name (b ∷ name) is some = no_name activity_key (line_text resource_key i (b ∷ name)) (ap (named activity_key) (resource_line_trimmed i b name is))

-- lines of elements in a row
activities_give : (n k j : ℕ) (xs : List Activity) → j + length xs ≤ 1000 → AllByRecursion (IsEntry n k) xs →
    gives activity_key (name_rows j xs) ≡ numbered (λ i a. name_at i a.name) j xs
activities_give n k j [] few h = refl
activities_give n k j (x ∷ xs) few h =
    filter_map-append (λ l. named activity_key (trim l)) (name_row j x.name) (name_rows (j + 1) xs)
    ∙ ap (λ ns. ns ++ gives activity_key (name_rows (j + 1) xs)) (activity_name j x.name (omega (arith, few)) h.0.name)
    ∙ ap (λ ns. name_at j x.name ++ ns) (activities_give n k (j + 1) xs (omega (arith, few)) h.1)

activities_give_none : (n k j : ℕ) (xs : List Activity) → AllByRecursion (IsEntry n k) xs → gives resource_key (name_rows j xs) ≡ []
activities_give_none n k j [] h = refl
activities_give_none n k j (x ∷ xs) h =
    filter_map-append (λ l. named resource_key (trim l)) (name_row j x.name) (name_rows (j + 1) xs)
    ∙ ap (λ ns. ns ++ gives resource_key (name_rows (j + 1) xs)) (activity_no_resource j x.name h.0.name)
    ∙ activities_give_none n k (j + 1) xs h.1

resources_give : (i : ℕ) (rs : List Resource) → i + length rs ≤ 1000 → AllByRecursion IsSupply rs →
    gives resource_key (resource_rows i rs) ≡ numbered (λ i r. record { number = i; name = r.name } ∷ []) i rs
resources_give i [] few h = refl
resources_give i (r ∷ rs) few h =
    filter_map-append (λ l. named resource_key (trim l)) (resource_row i r.name ∷ []) (resource_rows (i + 1) rs)
    ∙ ap (λ ns. ns ++ gives resource_key (resource_rows (i + 1) rs)) (resource_name i r (omega (arith, few)) h.0)
    ∙ ap (λ ns. record { number = i; name = r.name } ∷ ns) (resources_give (i + 1) rs (omega (arith, few)) h.1)

resources_give_none : (i : ℕ) (rs : List Resource) → AllByRecursion IsSupply rs → gives activity_key (resource_rows i rs) ≡ []
resources_give_none i [] h = refl
resources_give_none i (r ∷ rs) h =
    filter_map-append (λ l. named activity_key (trim l)) (resource_row i r.name ∷ []) (resource_rows (i + 1) rs)
    ∙ ap (λ ns. ns ++ gives activity_key (resource_rows (i + 1) rs)) (resource_no_activity i r h.0)
    ∙ resources_give_none (i + 1) rs h.1

-- ---- the lines of the ids

-- no blank is above the space
above_blanks : (b : ℕ) → nat_lt 32 b ≡ true → is_inside b ≡ true
above_blanks b e =
    let high = ltb-true 32 b e in
    let other : (n : ℕ) → n ≤ 32 → (b == n) ≡ false = λ n low. ne_eqb b n (λ same. omega (arith, same, low, high)) in
    ap not
    (or_from _ _
    (or_from _ _ (or_from _ _ (or_from _ _ (or_from _ _ (other 9 (omega arith)) (other 11 (omega arith))) (other 12 (omega arith))) (other 13 (omega arith))) (other 26 (omega arith)))
    (other 32 (omega arith)))

id_word : (id : List ℕ) → IsId id → IsWord id
id_word id is = all_weaker (λ byte. nat_lt 32 byte) is_inside above_blanks id is.bytes

id_line_trimmed : (j b : ℕ) (id : List ℕ) → IsId (b ∷ id) → trim (line_text id_key j (b ∷ id)) ≡ line_text id_key j (b ∷ id)
id_line_trimmed j b id is = trim_end-before (id_key ++ decimal j ++ codes " ") (b ∷ id) (solid_word (b ∷ id) is.some (id_word (b ∷ id) is))

id_named : (j : ℕ) (id : List ℕ) → j < 1000000000 → IsId id → gives id_key (id_row j id ∷ []) ≡ record { number = j; name = id } ∷ []
id_named j [] small is = absurd (let some = is.some in omega (arith, some))
id_named j (b ∷ id) small is =
    let start = sym (ap trim_start (append-nil (b ∷ id))) ∙ trim_start-word b id [] (id_word (b ∷ id) is) ∙ append-nil (b ∷ id) in
    one_name id_key (line_text id_key j (b ∷ id)) (record { number = j; name = b ∷ id })
    (ap (named id_key) (id_line_trimmed j b id is) ∙ behind_start j b id small start)

-- a line of an id gives nothing of another kind
id_no_name : (j : ℕ) (id : List ℕ) → IsId id → gives activity_key (id_row j id ∷ []) ≡ []
id_no_name j [] is = absurd (let some = is.some in omega (arith, some))
id_no_name j (b ∷ id) is = no_name activity_key (line_text id_key j (b ∷ id)) (ap (named activity_key) (id_line_trimmed j b id is))

id_no_resource : (j : ℕ) (id : List ℕ) → IsId id → gives resource_key (id_row j id ∷ []) ≡ []
id_no_resource j [] is = absurd (let some = is.some in omega (arith, some))
id_no_resource j (b ∷ id) is = no_name resource_key (line_text id_key j (b ∷ id)) (ap (named resource_key) (id_line_trimmed j b id is))

activity_no_id : (j : ℕ) (name : List ℕ) → IsName name → gives id_key (name_row j name) ≡ []
activity_no_id j [] is = refl
activity_no_id j (b ∷ name) is = no_name id_key (line_text activity_key j (b ∷ name)) (ap (named id_key) (activity_line_trimmed j b name is))

resource_no_id : (i : ℕ) (r : Resource) → IsSupply r → gives id_key (resource_row i r.name ∷ []) ≡ []
resource_no_id i r is = by_name r.name is.name is.named
  where
    by_name : (name : List ℕ) → IsName name → 0 < length name → gives id_key (resource_row i name ∷ []) ≡ []
    by_name [] is some = absurd (omega (arith, some))
    by_name (b ∷ name) is some = no_name id_key (line_text resource_key i (b ∷ name)) (ap (named id_key) (resource_line_trimmed i b name is))

-- ids in a row
ids_give : (j : ℕ) (xs : List Activity) → j + length xs ≤ 1000 → AllByRecursion (λ a. IsId a.id) xs →
    gives id_key (id_rows j xs) ≡ numbered (λ i a. record { number = i; name = a.id } ∷ []) j xs
ids_give j [] few h = refl
ids_give j (x ∷ xs) few h =
    filter_map-append (λ l. named id_key (trim l)) (id_row j x.id ∷ []) (id_rows (j + 1) xs)
    ∙ ap (λ ns. ns ++ gives id_key (id_rows (j + 1) xs)) (id_named j x.id (omega (arith, few)) h.0)
    ∙ ap (λ ns. record { number = j; name = x.id } ∷ ns) (ids_give (j + 1) xs (omega (arith, few)) h.1)

-- lines that give nothing of a kind
ids_give_none : (key : List ℕ) (j : ℕ) (xs : List Activity) → ((i : ℕ) (id : List ℕ) → IsId id → gives key (id_row i id ∷ []) ≡ []) → AllByRecursion (λ a. IsId a.id) xs →
    gives key (id_rows j xs) ≡ []
ids_give_none key j [] none h = refl
ids_give_none key j (x ∷ xs) none h =
    filter_map-append (λ l. named key (trim l)) (id_row j x.id ∷ []) (id_rows (j + 1) xs)
    ∙ ap (λ ns. ns ++ gives key (id_rows (j + 1) xs)) (none j x.id h.0)
    ∙ ids_give_none key (j + 1) xs none h.1

own_give : (own : Bool) (xs : List Activity) → 2 + length xs ≤ 1000 → (own ≡ true → AllByRecursion (λ a. IsId a.id) xs) → gives id_key (own_rows own xs) ≡ ids_from own xs
own_give true xs few ids = ids_give 2 xs few (ids refl)
own_give false xs few ids = refl

own_give_none : (key : List ℕ) (own : Bool) (xs : List Activity) → ((i : ℕ) (id : List ℕ) → IsId id → gives key (id_row i id ∷ []) ≡ []) →
    (own ≡ true → AllByRecursion (λ a. IsId a.id) xs) → gives key (own_rows own xs) ≡ []
own_give_none key true xs none ids = ids_give_none key 2 xs none (ids refl)
own_give_none key false xs none ids = refl

activities_no_ids : (n k j : ℕ) (xs : List Activity) → AllByRecursion (IsEntry n k) xs → gives id_key (name_rows j xs) ≡ []
activities_no_ids n k j [] h = refl
activities_no_ids n k j (x ∷ xs) h =
    filter_map-append (λ l. named id_key (trim l)) (name_row j x.name) (name_rows (j + 1) xs)
    ∙ ap (λ ns. ns ++ gives id_key (name_rows (j + 1) xs)) (activity_no_id j x.name h.0.name)
    ∙ activities_no_ids n k (j + 1) xs h.1

resources_no_ids : (i : ℕ) (rs : List Resource) → AllByRecursion IsSupply rs → gives id_key (resource_rows i rs) ≡ []
resources_no_ids i [] h = refl
resources_no_ids i (r ∷ rs) h =
    filter_map-append (λ l. named id_key (trim l)) (resource_row i r.name ∷ []) (resource_rows (i + 1) rs)
    ∙ ap (λ ns. ns ++ gives id_key (resource_rows (i + 1) rs)) (resource_no_id i r h.0)
    ∙ resources_no_ids (i + 1) rs h.1

-- two groups of lines
two_give : (key : List ℕ) (a b : List (List ℕ)) (x y : List Name) → gives key a ≡ x → gives key b ≡ y → gives key (a ++ b) ≡ x ++ y
two_give key a b x y p q = filter_map-append (λ l. named key (trim l)) a b ∙ ap (λ ns. ns ++ gives key b) p ∙ ap (λ ns. x ++ ns) q

-- three groups of lines
three_give : (key : List ℕ) (a b c : List (List ℕ)) (x y z : List Name) → gives key a ≡ x → gives key b ≡ y → gives key c ≡ z → gives key (a ++ (b ++ c)) ≡ x ++ (y ++ z)
three_give key a b c x y z p q r =
    filter_map-append (λ l. named key (trim l)) a (b ++ c) ∙ ap (λ ns. ns ++ gives key (b ++ c)) p
    ∙ ap (λ ns. x ++ ns) (filter_map-append (λ l. named key (trim l)) b c ∙ ap (λ ns. ns ++ gives key c) q ∙ ap (λ ns. y ++ ns) r)

-- the ids and names behind a key in the text of a table
said : (key : List ℕ) (t : Table) (limits : IsWithinLimits t) → names_behind key (project_text t) ≡ gives key (names_rest t)
said key t limits =
    let p = laid_out_table t limits in
    let section = section_of_names (project_text t) t p in
    ap (filter_map (λ line. named key line.text)) section.1 ∙ names_of_lines key section.0 p.rest ∙ ap (gives key) (rest_is t limits)

-- the text of a table names its activities and its resources
pub names_said : (t : Table) → IsTable t → SaysNames (project_text t) t
names_said t is =
    let limits = is.limits in
    let rows = limits.rows in
    let few = limits.columns in
    let own = own_rows t.own_ids t.activities in
    let a = name_rows 2 t.activities in
    let b = resource_rows 1 t.resources in
    let n = length t.activities in
    let k = length t.resources in
    record {
      activities = said activity_key t limits
          ∙ two_give activity_key own (a ++ (b ++ rule ∷ [])) [] (activity_names_of t ++ []) (own_give_none activity_key t.own_ids t.activities id_no_name limits.ids)
          (three_give activity_key a b (rule ∷ []) (activity_names_of t) [] [] (activities_give n k 2 t.activities (omega (arith, rows)) limits.activities)
          (resources_give_none 1 t.resources limits.resources) refl)
          ∙ append-nil (activity_names_of t);
      resources = said resource_key t limits
          ∙ two_give resource_key own (a ++ (b ++ rule ∷ [])) [] (resource_names_of t ++ []) (own_give_none resource_key t.own_ids t.activities id_no_resource limits.ids)
          (three_give resource_key a b (rule ∷ []) [] (resource_names_of t) [] (activities_give_none n k 2 t.activities limits.activities)
          (resources_give 1 t.resources (omega (arith, few)) limits.resources) refl)
          ∙ append-nil (resource_names_of t);
    }

-- the text of a table has its ids
pub ids_said : (t : Table) → IsTable t → SaysIds (project_text t) t
ids_said t is =
    let limits = is.limits in
    let rows = limits.rows in
    let own = own_rows t.own_ids t.activities in
    let a = name_rows 2 t.activities in
    let b = resource_rows 1 t.resources in
    let ids = ids_from t.own_ids t.activities in
    said id_key t limits
    ∙ two_give id_key own (a ++ (b ++ rule ∷ [])) ids [] (own_give t.own_ids t.activities (omega (arith, rows)) limits.ids)
    (three_give id_key a b (rule ∷ []) [] [] [] (activities_no_ids (length t.activities) (length t.resources) 2 t.activities limits.activities)
    (resources_no_ids 1 t.resources limits.resources) refl)
    ∙ append-nil ids
