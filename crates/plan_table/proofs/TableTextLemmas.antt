-- The text of a table within the limits.
use Rattle.std.proofs.Common.{◌≡◌, ℕ, ◌+◌, ◌≤◌, ◌<◌, Bool, true, false, cond, List, [], ◌∷◌, ◌++◌, length, codes, refl, sym, ap, ◌∙◌, subst, append_assoc, append-nil, arith}
use Rattle.std.specs.Prelude.{nat_lt}
use Rattle.std.specs.List.{AllByRecursion, list_all}
use Rattle.std.specs.Fmt.{decimal}
use Rattle.std.proofs.lemmas.Bool.{and_from, le-leb, leb-true, ltb-true}
use Rattle.std.proofs.lemmas.List.Folds.{list_all-append}
use Rattle.plan_psplib.specs.Lines.{raw_lines}
use Rattle.plan_psplib.specs.Project.{SaysProject}
use Rattle.plan_table.specs.Numbered.{numbered}
use Rattle.plan_table.specs.Table.{Activity, Resource, Table}
use Rattle.plan_table.specs.Jobs.{Job, table_jobs, capacities_of, project_of}
use Rattle.plan_table.specs.Limits.{IsEntry, IsId, IsSupply, IsWithinLimits, IsTable}
use Rattle.plan_table.specs.ProjectText.{resource_head, resource_heads, rule_line, head_text, front_text, sections_text, id_line, id_lines, name_line, name_line_of, resource_line, names_text, horizon_of, project_text}
use Rattle.plan_table.proofs.DigitLemmas.{all_weaker}
use Rattle.plan_table.proofs.LineLemmas.{is_plain, IsPlain, plain_append, plain_decimal}
use Rattle.plan_table.proofs.JobLemmas.{jobs_count}
use Rattle.plan_table.proofs.GoodJobLemmas.{IsGoodJob, good_jobs, jobs_total, good_capacities, capacities_fit}
use Rattle.plan_table.proofs.RowListLemmas.{AreRows, row_lines, rows_plain, precedence_rows, request_rows, precedence_gives, request_gives}
use Rattle.plan_table.proofs.TextLineLemmas.{lines_before, IsLines, lines_both, one_line, numbered_lines, raw_lines-before, rule, head_lines, information_lines, precedence_row, precedence_lines, request_row, request_lines, availability_lines, head_is_lines, information_is_lines, precedence_is_lines, requests_are_lines, availabilities_are_lines}
use Rattle.plan_table.proofs.HeadLemmas.{AreSmall, head_plain, information_plain}
use Rattle.plan_table.proofs.LawLemmas.{IsLaidOut, IsText, capacities_row, is_some_byte, says_project}

all_both : {A : Type 0} (P : A → Type 0) (xs ys : List A) → AllByRecursion P xs → AllByRecursion P ys → AllByRecursion P (xs ++ ys)
all_both P [] ys h k = k
all_both P (x ∷ xs) ys h k = (h.0, all_both P xs ys h.1 k)

-- ---- plain lines

heads_plain : (i : ℕ) (capacities : List ℕ) → i + length capacities ≤ 1000 → IsPlain (numbered (λ i _. resource_head i) i capacities)
heads_plain i [] few = refl
heads_plain i (c ∷ cs) few =
    plain_append (resource_head i) (numbered (λ i _. resource_head i) (i + 1) cs)
    (plain_append (codes "  R ") (decimal i) refl (plain_decimal i (omega (arith, few)))) (heads_plain (i + 1) cs (omega (arith, few)))

abbrev all_lines : ℕ → ℕ → ℕ → List Job → List ℕ → List (List ℕ)
all_lines n activities horizon jobs capacities =
    (head_lines n horizon (length capacities) ++ information_lines activities horizon)
    ++ ((precedence_lines jobs ++ request_lines jobs capacities) ++ availability_lines capacities)

lines_plain : (activities horizon : ℕ) (jobs : List Job) (capacities : List ℕ) → AreSmall (length jobs) horizon (length capacities) → activities < 1000000000 →
    length capacities ≤ 16 → 1 ≤ length capacities → AllByRecursion (λ n. n ≤ 10000) capacities →
    AreRows precedence_row precedence_gives 1 jobs → AreRows request_row request_gives 1 jobs →
    AllByRecursion IsPlain (all_lines (length jobs) activities horizon jobs capacities)
lines_plain activities horizon jobs capacities small few short some low precedences requests =
    let heads = heads_plain 1 capacities (omega (arith, short)) in
    let head = plain_append (codes "jobnr. mode duration") (resource_heads capacities) refl heads in
    all_both IsPlain (head_lines (length jobs) horizon (length capacities) ++ information_lines activities horizon)
    ((precedence_lines jobs ++ request_lines jobs capacities) ++ availability_lines capacities)
    (all_both IsPlain (head_lines (length jobs) horizon (length capacities)) (information_lines activities horizon)
    (head_plain (length jobs) horizon (length capacities) small) (information_plain activities horizon few small.horizon))
    (all_both IsPlain (precedence_lines jobs ++ request_lines jobs capacities) (availability_lines capacities)
    (all_both IsPlain (precedence_lines jobs) (request_lines jobs capacities)
    (refl, (refl, all_both IsPlain (row_lines precedence_row 1 jobs) (rule ∷ []) (rows_plain precedence_row precedence_gives 1 jobs precedences) (refl, tt)))
    (refl, (head, (refl, all_both IsPlain (row_lines request_row 1 jobs) (rule ∷ []) (rows_plain request_row request_gives 1 jobs requests) (refl, tt)))))
    (refl, (heads, ((capacities_row capacities some low).plain, (refl, tt)))))

-- ---- no zero bytes

abbrev HasBytes : List ℕ → Type 0
HasBytes text = list_all is_some_byte text ≡ true

bytes_append : (a b : List ℕ) → HasBytes a → HasBytes b → HasBytes (a ++ b)
bytes_append a b p q = list_all-append is_some_byte a b ∙ and_from (list_all is_some_byte a) (list_all is_some_byte b) p q

plain_bytes : (text : List ℕ) → IsPlain text → HasBytes text
plain_bytes text plain = all_weaker is_plain is_some_byte (λ b e. le-leb 1 b (let low = leb-true 32 b e in omega (arith, low))) text plain

pub lines_bytes : (ls : List (List ℕ)) (rest : List ℕ) → AllByRecursion IsPlain ls → HasBytes rest → HasBytes (lines_before ls rest)
lines_bytes [] rest plain h = h
lines_bytes (l ∷ ls) rest plain h = bytes_append l (10 ∷ lines_before ls rest) (plain_bytes l plain.0) (lines_bytes ls rest plain.1 h)

name_line_bytes : (j : ℕ) (name : List ℕ) → j < 1000000000 → IsPlain name → HasBytes (name_line_of j name)
name_line_bytes j [] small plain = refl
name_line_bytes j (byte ∷ name) small plain =
    bytes_append (codes "name " ++ decimal j ++ codes " " ++ (byte ∷ name)) (codes "\n")
    (bytes_append (codes "name " ++ decimal j ++ codes " ") (byte ∷ name)
    (bytes_append (codes "name " ++ decimal j) (codes " ") (bytes_append (codes "name ") (decimal j) refl (plain_bytes (decimal j) (plain_decimal j small))) refl)
    (plain_bytes (byte ∷ name) plain)) refl

resource_line_bytes : (i : ℕ) (r : Resource) → i < 1000000000 → IsPlain r.name → HasBytes (resource_line i r)
unfolding resource_line
resource_line_bytes i r small plain =
    bytes_append (codes "resource " ++ decimal i ++ codes " " ++ r.name) (codes "\n")
    (bytes_append (codes "resource " ++ decimal i ++ codes " ") r.name
    (bytes_append (codes "resource " ++ decimal i) (codes " ") (bytes_append (codes "resource ") (decimal i) refl (plain_bytes (decimal i) (plain_decimal i small))) refl)
    (plain_bytes r.name plain)) refl

activity_names_bytes : (n k j : ℕ) (xs : List Activity) → j + length xs ≤ 1000 → AllByRecursion (IsEntry n k) xs → HasBytes (numbered name_line j xs)
unfolding name_line
activity_names_bytes n k j [] few h = refl
activity_names_bytes n k j (x ∷ xs) few h =
    bytes_append (name_line j x) (numbered name_line (j + 1) xs) (name_line_bytes j x.name (omega (arith, few)) h.0.name.plain)
    (activity_names_bytes n k (j + 1) xs (omega (arith, few)) h.1)

resource_names_bytes : (i : ℕ) (rs : List Resource) → i + length rs ≤ 1000 → AllByRecursion IsSupply rs → HasBytes (numbered resource_line i rs)
resource_names_bytes i [] few h = refl
resource_names_bytes i (r ∷ rs) few h =
    bytes_append (resource_line i r) (numbered resource_line (i + 1) rs) (resource_line_bytes i r (omega (arith, few)) h.0.name.plain)
    (resource_names_bytes (i + 1) rs (omega (arith, few)) h.1)

id_line_bytes : (j : ℕ) (a : Activity) → j < 1000000000 → IsPlain a.id → HasBytes (id_line j a)
unfolding id_line
id_line_bytes j a small plain =
    bytes_append (codes "id " ++ decimal j ++ codes " " ++ a.id) (codes "\n")
    (bytes_append (codes "id " ++ decimal j ++ codes " ") a.id
    (bytes_append (codes "id " ++ decimal j) (codes " ") (bytes_append (codes "id ") (decimal j) refl (plain_bytes (decimal j) (plain_decimal j small))) refl)
    (plain_bytes a.id plain)) refl

-- an id has no control character
id_plain : (id : List ℕ) → IsId id → IsPlain id
id_plain id is = all_weaker (λ byte. nat_lt 32 byte) is_plain (λ b e. le-leb 32 b (let low = ltb-true 32 b e in omega (arith, low))) id is.bytes

ids_bytes : (j : ℕ) (xs : List Activity) → j + length xs ≤ 1000 → AllByRecursion (λ a. IsId a.id) xs → HasBytes (numbered id_line j xs)
ids_bytes j [] few h = refl
ids_bytes j (x ∷ xs) few h =
    bytes_append (id_line j x) (numbered id_line (j + 1) xs) (id_line_bytes j x (omega (arith, few)) (id_plain x.id h.0))
    (ids_bytes (j + 1) xs (omega (arith, few)) h.1)

id_lines_bytes : (own : Bool) (xs : List Activity) → 2 + length xs ≤ 1000 → (own ≡ true → AllByRecursion (λ a. IsId a.id) xs) → HasBytes (id_lines own xs)
id_lines_bytes true xs few ids = ids_bytes 2 xs few (ids refl)
id_lines_bytes false xs few ids = refl

names_bytes : (t : Table) → IsWithinLimits t → HasBytes (names_text t)
unfolding names_text
names_bytes t limits =
    let rows = limits.rows in
    let columns = limits.columns in
    let a = activity_names_bytes (length t.activities) (length t.resources) 2 t.activities (omega (arith, rows)) limits.activities in
    let b = resource_names_bytes 1 t.resources (omega (arith, columns)) limits.resources in
    let c = id_lines_bytes t.own_ids t.activities (omega (arith, rows)) limits.ids in
    let front = codes "PROJECT INFORMATION:\n" ++ id_lines t.own_ids t.activities in
    bytes_append (front ++ numbered name_line 2 t.activities ++ numbered resource_line 1 t.resources) rule_line
    (bytes_append (front ++ numbered name_line 2 t.activities) (numbered resource_line 1 t.resources)
    (bytes_append front (numbered name_line 2 t.activities) (bytes_append (codes "PROJECT INFORMATION:\n") (id_lines t.own_ids t.activities) refl c) a) b) refl

-- ---- the text as lines

text_is_lines : (t : Table) (n : ℕ) (jobs : List Job) (capacities : List ℕ) → length t.activities + 2 ≡ n →
    IsLines (front_text t.activities (length capacities) ++ sections_text jobs capacities) (all_lines n (length t.activities) (horizon_of t.activities) jobs capacities)
text_is_lines t n jobs capacities count =
    let head = subst (λ m. IsLines (head_text (length t.activities + 2) (horizon_of t.activities) (length capacities)) (head_lines m (horizon_of t.activities) (length capacities))) count
    (head_is_lines (length t.activities + 2) (horizon_of t.activities) (length capacities)) in
    lines_both _ _ _ _ (lines_both _ _ _ _ head (information_is_lines (length t.activities) (horizon_of t.activities)))
    (lines_both _ _ _ _ (lines_both _ _ _ _ (precedence_is_lines jobs) (requests_are_lines jobs capacities)) (availabilities_are_lines capacities))

regroup : {A : Type 0} (a b c d e x : List A) → ((a ++ b) ++ ((c ++ d) ++ e)) ++ x ≡ a ++ (b ++ (c ++ (d ++ (e ++ x))))
regroup a b c d e x = simp append_assoc

-- ---- the lines of the names

-- the line of an activity's name; an activity without a name has none
abbrev pub name_row : ℕ → List ℕ → List (List ℕ)
name_row j [] = []
name_row j (byte ∷ name) = (codes "name " ++ decimal j ++ codes " " ++ (byte ∷ name)) ∷ []

abbrev pub name_rows : ℕ → List Activity → List (List ℕ)
name_rows j xs = numbered (λ i a. name_row i a.name) j xs

-- the line of a resource's name
abbrev pub resource_row : ℕ → List ℕ → List ℕ
resource_row i name = codes "resource " ++ decimal i ++ codes " " ++ name

abbrev pub resource_rows : ℕ → List Resource → List (List ℕ)
resource_rows i rs = numbered (λ i r. resource_row i r.name ∷ []) i rs

-- the line of an activity's id
abbrev pub id_row : ℕ → List ℕ → List ℕ
id_row j id = codes "id " ++ decimal j ++ codes " " ++ id

abbrev pub id_rows : ℕ → List Activity → List (List ℕ)
id_rows j xs = numbered (λ i a. id_row i a.id ∷ []) j xs

abbrev pub own_rows : Bool → List Activity → List (List ℕ)
own_rows own xs = cond own (id_rows 2 xs) []

-- the lines behind the title of the names
abbrev pub names_rest : Table → List (List ℕ)
names_rest t = own_rows t.own_ids t.activities ++ (name_rows 2 t.activities ++ (resource_rows 1 t.resources ++ rule ∷ []))

id_line_is : (j : ℕ) (a : Activity) → id_line j a ≡ id_row j a.id ++ 10 ∷ []
unfolding id_line
id_line_is j a = refl

id_lines_are : (own : Bool) (xs : List Activity) → IsLines (id_lines own xs) (own_rows own xs)
id_lines_are true xs = numbered_lines id_line (λ i a. id_row i a.id) id_line_is 2 xs
id_lines_are false xs = record { before = λ rest. refl }

name_line_is : (j : ℕ) (name : List ℕ) → IsLines (name_line_of j name) (name_row j name)
name_line_is j [] = record { before = λ rest. refl }
name_line_is j (byte ∷ name) = one_line (codes "name " ++ decimal j ++ codes " " ++ (byte ∷ name))

name_lines_are : (j : ℕ) (xs : List Activity) → IsLines (numbered name_line j xs) (name_rows j xs)
unfolding name_line
name_lines_are j [] = record { before = λ rest. refl }
name_lines_are j (x ∷ xs) = lines_both _ _ _ _ (name_line_is j x.name) (name_lines_are (j + 1) xs)

resource_line_is : (i : ℕ) (r : Resource) → resource_line i r ≡ resource_row i r.name ++ 10 ∷ []
unfolding resource_line
resource_line_is i r = refl

fold_right : {A : Type 0} (a b c d : List A) → (((a ++ b) ++ c) ++ d) ≡ a ++ (b ++ (c ++ d))
fold_right a b c d = simp append_assoc

names_are_lines : (t : Table) → IsLines (names_text t) (codes "PROJECT INFORMATION:" ∷ names_rest t)
unfolding names_text
names_are_lines t =
    let a = name_rows 2 t.activities in
    let b = resource_rows 1 t.resources in
    let title : IsLines (codes "PROJECT INFORMATION:\n") (codes "PROJECT INFORMATION:" ∷ []) = record { before = λ rest. refl } in
    let d = own_rows t.own_ids t.activities in
    subst (λ ls. IsLines (names_text t) (codes "PROJECT INFORMATION:" ∷ ls)) (fold_right d a b (rule ∷ []))
    (lines_both _ _ _ _ (lines_both _ _ _ _ (lines_both _ _ _ _ (lines_both _ _ _ _ title (id_lines_are t.own_ids t.activities)) (name_lines_are 2 t.activities))
    (numbered_lines resource_line (λ i r. resource_row i r.name) resource_line_is 1 t.resources)) (one_line rule))

name_row_plain : (j : ℕ) (name : List ℕ) → j < 1000000000 → IsPlain name → AllByRecursion IsPlain (name_row j name)
name_row_plain j [] small plain = tt
name_row_plain j (byte ∷ name) small plain = (
  plain_append (codes "name " ++ decimal j ++ codes " ") (byte ∷ name)
      (plain_append (codes "name " ++ decimal j) (codes " ") (plain_append (codes "name ") (decimal j) refl (plain_decimal j small)) refl) plain,
  tt,
)

name_rows_plain : (n k j : ℕ) (xs : List Activity) → j + length xs ≤ 1000 → AllByRecursion (IsEntry n k) xs → AllByRecursion IsPlain (name_rows j xs)
name_rows_plain n k j [] few h = tt
name_rows_plain n k j (x ∷ xs) few h =
    all_both IsPlain (name_row j x.name) (name_rows (j + 1) xs) (name_row_plain j x.name (omega (arith, few)) h.0.name.plain)
    (name_rows_plain n k (j + 1) xs (omega (arith, few)) h.1)

resource_rows_plain : (i : ℕ) (rs : List Resource) → i + length rs ≤ 1000 → AllByRecursion IsSupply rs → AllByRecursion IsPlain (resource_rows i rs)
resource_rows_plain i [] few h = tt
resource_rows_plain i (r ∷ rs) few h = (
  plain_append (codes "resource " ++ decimal i ++ codes " ") r.name
      (plain_append (codes "resource " ++ decimal i) (codes " ") (plain_append (codes "resource ") (decimal i) refl (plain_decimal i (omega (arith, few)))) refl) h.0.name.plain,
  resource_rows_plain (i + 1) rs (omega (arith, few)) h.1,
)

id_rows_plain : (j : ℕ) (xs : List Activity) → j + length xs ≤ 1000 → AllByRecursion (λ a. IsId a.id) xs → AllByRecursion IsPlain (id_rows j xs)
id_rows_plain j [] few h = tt
id_rows_plain j (x ∷ xs) few h = (
  plain_append (codes "id " ++ decimal j ++ codes " ") x.id
      (plain_append (codes "id " ++ decimal j) (codes " ") (plain_append (codes "id ") (decimal j) refl (plain_decimal j (omega (arith, few)))) refl) (id_plain x.id h.0),
  id_rows_plain (j + 1) xs (omega (arith, few)) h.1,
)

own_rows_plain : (own : Bool) (xs : List Activity) → 2 + length xs ≤ 1000 → (own ≡ true → AllByRecursion (λ a. IsId a.id) xs) → AllByRecursion IsPlain (own_rows own xs)
own_rows_plain true xs few ids = id_rows_plain 2 xs few (ids refl)
own_rows_plain false xs few ids = tt

names_raw : (t : Table) → IsWithinLimits t → raw_lines (names_text t) ≡ codes "PROJECT INFORMATION:" ∷ names_rest t
names_raw t limits =
    let rows = limits.rows in
    let few = limits.columns in
    let ls = codes "PROJECT INFORMATION:" ∷ names_rest t in
    let plain : AllByRecursion IsPlain ls = (
      refl,
      all_both IsPlain (own_rows t.own_ids t.activities) (name_rows 2 t.activities ++ (resource_rows 1 t.resources ++ rule ∷ []))
          (own_rows_plain t.own_ids t.activities (omega (arith, rows)) limits.ids)
          (all_both IsPlain (name_rows 2 t.activities) (resource_rows 1 t.resources ++ rule ∷ [])
          (name_rows_plain (length t.activities) (length t.resources) 2 t.activities (omega (arith, rows)) limits.activities)
          (all_both IsPlain (resource_rows 1 t.resources) (rule ∷ []) (resource_rows_plain 1 t.resources (omega (arith, few)) limits.resources) (refl, tt))),
    ) in
    ap raw_lines (sym (append-nil (names_text t)) ∙ (names_are_lines t).before []) ∙ raw_lines-before ls [] plain ∙ append-nil ls

-- the lines of the text of a table
pub laid_out_table : (t : Table) → IsWithinLimits t → IsLaidOut (project_text t) (table_jobs t) (capacities_of t.resources)
laid_out_table t limits =
    let jobs = table_jobs t in
    let capacities = capacities_of t.resources in
    let count : length t.activities + 2 ≡ length jobs = sym (jobs_count t.activities (length capacities)) in
    let rows = limits.rows in
    let total = limits.total in
    let fit = capacities_fit t limits in
    let low = good_capacities t limits in
    let good = subst (λ n. AllByRecursion (IsGoodJob n (length capacities)) jobs) count (good_jobs t limits) in
    let few : length jobs ≤ 502 = omega (arith, count, rows) in
    let small : AreSmall (length jobs) (horizon_of t.activities) (length capacities) = record { jobs = omega (arith, few); horizon = omega (arith, total); resources = omega (arith, fit.1) } in
    let precedences = precedence_rows (length jobs) (length capacities) 1 jobs few (omega (arith, few)) good in
    let requests = request_rows (length jobs) (length capacities) 1 jobs (omega (arith, few)) good in
    let ls = all_lines (length jobs) (length t.activities) (horizon_of t.activities) jobs capacities in
    let plain = lines_plain (length t.activities) (horizon_of t.activities) jobs capacities small (omega (arith, rows)) fit.1 fit.0 low precedences requests in
    let is = (text_is_lines t (length jobs) jobs capacities count).before (names_text t) in
    record {
      activities = length t.activities;
      horizon = horizon_of t.activities;
      rest = names_rest t;
      raw = ap raw_lines is ∙ raw_lines-before ls (names_text t) plain ∙ ap (λ r. ls ++ r) (names_raw t limits)
          ∙ regroup (head_lines (length jobs) (horizon_of t.activities) (length capacities)) (information_lines (length t.activities) (horizon_of t.activities))
          (precedence_lines jobs) (request_lines jobs capacities) (availability_lines capacities) (codes "PROJECT INFORMATION:" ∷ names_rest t);
      small = small;
      precedences = precedences;
      requests = requests;
      some = fit.0;
      capacities_small = low;
    }

pub rest_is : (t : Table) (limits : IsWithinLimits t) → (laid_out_table t limits).rest ≡ names_rest t
unfolding laid_out_table
rest_is t limits = refl

-- the text of a table within the limits, if it is short enough
text_of_table : (t : Table) → IsWithinLimits t → length (project_text t) ≤ 1048576 → IsText (project_text t) (table_jobs t) (capacities_of t.resources)
text_of_table t limits short =
    let jobs = table_jobs t in
    let capacities = capacities_of t.resources in
    let count : length t.activities + 2 ≡ length jobs = sym (jobs_count t.activities (length capacities)) in
    let rows = limits.rows in
    let total = limits.total in
    let fit = capacities_fit t limits in
    let low = good_capacities t limits in
    let good = subst (λ n. AllByRecursion (IsGoodJob n (length capacities)) jobs) count (good_jobs t limits) in
    let few : length jobs ≤ 502 = omega (arith, count, rows) in
    let small : AreSmall (length jobs) (horizon_of t.activities) (length capacities) = record { jobs = omega (arith, few); horizon = omega (arith, total); resources = omega (arith, fit.1) } in
    let p = laid_out_table t limits in
    let ls = all_lines (length jobs) (length t.activities) (horizon_of t.activities) jobs capacities in
    let plain = lines_plain (length t.activities) (horizon_of t.activities) jobs capacities small (omega (arith, rows)) fit.1 fit.0 low p.precedences p.requests in
    let is = (text_is_lines t (length jobs) jobs capacities count).before (names_text t) in
    record {
      laid_out = p;
      short = short;
      plain = ap (list_all is_some_byte) is ∙ lines_bytes ls (names_text t) plain (names_bytes t limits);
      good = good;
      fewest = omega (arith, count);
      most = few;
      resources = fit;
      total = let same = jobs_total t in omega (arith, same, total);
    }

-- the text of a table says the project of the table
pub table_said : (t : Table) → IsTable t → length (project_text t) ≤ 1048576 → SaysProject (project_text t) (project_of t)
table_said t is short = says_project (project_text t) (table_jobs t) (capacities_of t.resources) (text_of_table t is.limits short) is.sound
