-- The rows of jobs: what holds of all of them, and the numbers that they give.
use Rattle.std.proofs.Common.{◌≡◌, ℕ, ◌+◌, ◌≤◌, ◌<◌, true, false, List, [], ◌∷◌, ◌++◌, Some, length, map, refl, sym, ap, ◌∙◌, append_assoc, arith, cond}
use Rattle.std.specs.Prelude.{not}
use Rattle.std.specs.List.{AllByRecursion, flat_map}
use Rattle.std.proofs.lemmas.Bool.{and_from, not_from_false, or_parts}
use Rattle.std.proofs.lemmas.List.{map-append}
use Rattle.plan_psplib.specs.Lines.{trim, words}
use Rattle.plan_psplib.specs.Numbers.{number}
use Rattle.plan_psplib.specs.Sections.{is_title, begins_with, requests_title, availabilities_title}
use Rattle.plan_psplib.specs.Says.{precedence_numbers, request_numbers}
use Rattle.plan_table.specs.Numbered.{numbered}
use Rattle.plan_table.specs.Columns.{spaced, places_at, columns}
use Rattle.plan_table.specs.Jobs.{Job, durations_of, rows_of}
use Rattle.plan_table.proofs.LineLemmas.{IsPlain}
use Rattle.plan_table.proofs.RowLemmas.{IsRow, tail_more, tail_columns, row_is}
use Rattle.plan_table.proofs.SectionLemmas.{none_begins, no_titles, numbers_in}
use Rattle.plan_table.proofs.TextLineLemmas.{precedence_row, request_row}
use Rattle.plan_table.proofs.GoodJobLemmas.{IsGoodJob}

-- each element has a row, which gives its numbers
abbrev pub AreRows : {A : Type 0} → (ℕ → A → List ℕ) → (ℕ → A → List ℕ) → ℕ → List A → Type 0
AreRows row gives n [] = Unit {0}
AreRows row gives n (x ∷ xs) = IsRow (row n x) (gives n x) × AreRows row gives (n + 1) xs

-- the rows as lines
abbrev pub row_lines : {A : Type 0} → (ℕ → A → List ℕ) → ℕ → List A → List (List ℕ)
row_lines row n xs = numbered (λ j x. row j x ∷ []) n xs

pub rows_plain : {A : Type 0} (row gives : ℕ → A → List ℕ) (n : ℕ) (xs : List A) → AreRows row gives n xs → AllByRecursion IsPlain (row_lines row n xs)
rows_plain row gives n [] h = tt
rows_plain row gives n (x ∷ xs) h = (h.0.plain, rows_plain row gives (n + 1) xs h.1)

pub rows_no_titles : {A : Type 0} (row gives : ℕ → A → List ℕ) (n : ℕ) (xs : List A) → AreRows row gives n xs → no_titles (row_lines row n xs) ≡ true
rows_no_titles row gives n [] h = refl
rows_no_titles row gives n (x ∷ xs) h =
    and_from (not (is_title (trim (row n x)))) (no_titles (row_lines row (n + 1) xs)) (not_from_false (is_title (trim (row n x))) h.0.title)
    (rows_no_titles row gives (n + 1) xs h.1)

-- a line that is no title begins with none of the titles
pub no_requests : (text : List ℕ) → is_title text ≡ false → begins_with text requests_title ≡ false
no_requests text e = (or_parts _ _ (or_parts _ _ e).0).1

pub no_availabilities : (text : List ℕ) → is_title text ≡ false → begins_with text availabilities_title ≡ false
no_availabilities text e = (or_parts _ _ e).1

pub rows_none_begins : {A : Type 0} (title : List ℕ) → ((text : List ℕ) → is_title text ≡ false → begins_with text title ≡ false) →
    (row gives : ℕ → A → List ℕ) (n : ℕ) (xs : List A) → AreRows row gives n xs → none_begins title (row_lines row n xs) ≡ true
rows_none_begins title none row gives n [] h = refl
rows_none_begins title none row gives n (x ∷ xs) h =
    and_from (not (begins_with (trim (row n x)) title)) (none_begins title (row_lines row (n + 1) xs))
    (not_from_false (begins_with (trim (row n x)) title) (none (trim (row n x)) h.0.title))
    (rows_none_begins title none row gives (n + 1) xs h.1)

-- the numbers that rows give, and then those of other lines
pub rows_numbers : {A : Type 0} (row gives : ℕ → A → List ℕ) (n : ℕ) (xs : List A) (rest : List (List ℕ)) → AreRows row gives n xs →
    flat_map numbers_in (row_lines row n xs ++ rest) ≡ map Some (numbered gives n xs) ++ flat_map numbers_in rest
rows_numbers row gives n [] rest h = refl
rows_numbers row gives n (x ∷ xs) rest h =
    ap (λ b. cond b (map number (words (trim (row n x)))) [] ++ flat_map numbers_in (row_lines row (n + 1) xs ++ rest)) h.0.kept
    ∙ ap (λ os. os ++ flat_map numbers_in (row_lines row (n + 1) xs ++ rest)) h.0.reads
    ∙ ap (λ os. map Some (gives n x) ++ os) (rows_numbers row gives (n + 1) xs rest h.1)
    ∙ sym (append_assoc (map Some (gives n x)) (map Some (numbered gives (n + 1) xs)) (flat_map numbers_in rest))
    ∙ ap (λ os. os ++ flat_map numbers_in rest) (sym (map-append Some (gives n x) (numbered gives (n + 1) xs)))

-- ---- the rows of jobs

abbrev pub precedence_gives : ℕ → Job → List ℕ
precedence_gives j job = j ∷ 1 ∷ length job.successors ∷ job.successors

abbrev pub request_gives : ℕ → Job → List ℕ
request_gives j job = j ∷ 1 ∷ job.duration ∷ job.needs

small_successors : (n : ℕ) (js : List ℕ) → n ≤ 502 → AllByRecursion (λ j. (1 ≤ j) × (j ≤ n)) js → AllByRecursion (λ j. j < 1000000000) js
small_successors n [] few h = tt
small_successors n (j ∷ js) few h = (omega (arith, h.0.1, few), small_successors n js few h.1)

pub small_amounts : (ns : List ℕ) → AllByRecursion (λ n. n ≤ 10000) ns → AllByRecursion (λ n. n < 1000000000) ns
small_amounts [] h = tt
small_amounts (n ∷ ns) h = (omega (arith, h.0), small_amounts ns h.1)

pub precedence_rows : (n k j : ℕ) (jobs : List Job) → n ≤ 502 → j + length jobs ≤ 1000 → AllByRecursion (IsGoodJob n k) jobs → AreRows precedence_row precedence_gives j jobs
precedence_rows n k j [] few fits h = tt
precedence_rows n k j (job ∷ jobs) few fits h =
    let good = h.0 in
    let short = good.short in (
      row_is 4 j (spaced 8 1 ++ (spaced 10 (length job.successors) ++ columns 11 3 job.successors)) (1 ∷ length job.successors ∷ job.successors) (omega (arith, fits))
          (tail_more 8 1 _ _ (omega arith) (tail_more 10 (length job.successors) _ _ (omega (arith, short))
          (tail_columns (places_at 11 3) 0 job.successors (small_successors n job.successors few good.row.0)))),
      precedence_rows n k (j + 1) jobs few (omega (arith, fits)) h.1,
    )

pub request_rows : (n k j : ℕ) (jobs : List Job) → j + length jobs ≤ 1000 → AllByRecursion (IsGoodJob n k) jobs → AreRows request_row request_gives j jobs
request_rows n k j [] fits h = tt
request_rows n k j (job ∷ jobs) fits h =
    let good = h.0 in
    let short = good.duration in (
      row_is 3 j (spaced 6 1 ++ (spaced 5 job.duration ++ columns 7 4 job.needs)) (1 ∷ job.duration ∷ job.needs) (omega (arith, fits))
          (tail_more 6 1 _ _ (omega arith) (tail_more 5 job.duration _ _ (omega (arith, short))
          (tail_columns (places_at 7 4) 0 job.needs (small_amounts job.needs good.needs.1)))),
      request_rows n k (j + 1) jobs (omega (arith, fits)) h.1,
    )

-- the numbers that the rows of jobs give
pub precedence_numbers_are : (j : ℕ) (jobs : List Job) → numbered precedence_gives j jobs ≡ precedence_numbers j (rows_of jobs)
precedence_numbers_are j [] = refl
precedence_numbers_are j (job ∷ jobs) = ap (λ ns. precedence_gives j job ++ ns) (precedence_numbers_are (j + 1) jobs)

pub request_numbers_are : (j : ℕ) (jobs : List Job) → numbered request_gives j jobs ≡ request_numbers j (durations_of jobs) (map (λ job. job.needs) jobs)
request_numbers_are j [] = refl
request_numbers_are j (job ∷ jobs) = ap (λ ns. request_gives j job ++ ns) (request_numbers_are (j + 1) jobs)
