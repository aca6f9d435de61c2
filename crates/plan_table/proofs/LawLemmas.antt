-- The text of a table says the project of the table.
use Rattle.std.proofs.Common.{◌≡◌, ◌≢◌, ℕ, ◌+◌, ◌≤◌, Bool, true, false, List, [], ◌∷◌, ◌++◌, Some, length, map, sum, codes, refl, sym, ap, ◌∙◌, subst, append-nil, arith, cond}
use Rattle.std.specs.Prelude.{not, All, nat_le}
use Rattle.std.specs.List.{AllByRecursion, list_all, flat_map}
use Rattle.std.specs.Fmt.{decimal}
use Rattle.std.proofs.lemmas.Bool.{and_from, not_from_false, leb-true}
use Rattle.std.proofs.lemmas.List.Elements.{All-weaker}
use Rattle.std.proofs.lemmas.List.Sums.{AllPass-from_list_all}
use Rattle.std.proofs.lemmas.List.{length-map}
use Rattle.std.proofs.lemmas.List.Folds.{list_all-append}
use Rattle.plan_net.specs.Successors as successors
use Rattle.plan_net.specs.Successors.{arcs_of_rows}
use Rattle.plan_net.specs.Limits.{IsSound}
use Rattle.plan_psplib.specs.Document.{Document}
use Rattle.plan_psplib.specs.Project.{Project, SaysProject}
use Rattle.plan_psplib.proofs.NetworkLemmas.{project_good}
use Rattle.plan_psplib.specs.Lines.{raw_lines, trim, trim_end, before_trimmed}
use Rattle.plan_psplib.specs.Lines.{words as words_in}
use Rattle.plan_psplib.specs.Numbers.{number}
use Rattle.plan_psplib.specs.Streams.{Stream, LineWord}
use Rattle.plan_psplib.specs.Sections.{kept_lines, section, section_from, before_title, key_line, is_kept, is_title, begins_with, precedence_title, requests_title, availabilities_title}
use Rattle.plan_psplib.specs.Says.{Says, HasValue, IsNeeds, SpellsArcs, Spells, SectionSpells, precedence_numbers, request_numbers}
use Rattle.plan_table.specs.Numbered.{numbered}
use Rattle.plan_table.specs.Columns.{number_column, spaced, places_at, columns}
use Rattle.plan_table.specs.Jobs.{Job, rows_of, durations_of, network_of}
use Rattle.plan_table.specs.ProjectText.{resource_head, resource_heads}
use Rattle.plan_table.proofs.RowLemmas.{IsRow, row_is, blank_row, tail_columns}
use Rattle.plan_table.proofs.SectionLemmas.{kept_from, none_begins, no_titles, section_past, section_at, section_words, numbers_in, words_numbers}
use Rattle.plan_table.proofs.TextLineLemmas.{rule, dashes, head_lines, information_lines, precedence_row, precedence_lines, request_row, request_lines, availability_lines}
use Rattle.plan_table.proofs.GoodJobLemmas.{IsGoodJob}
use Rattle.plan_table.proofs.RowListLemmas.{AreRows, row_lines, rows_no_titles, rows_none_begins, no_requests, no_availabilities, rows_numbers, precedence_gives, request_gives, precedence_numbers_are, request_numbers_are, small_amounts}
use Rattle.plan_table.proofs.HeadLemmas.{AreSmall, trim_first, head_none_begins, information_none, GivesValue, projects_value, jobs_value, resources_value, nonrenewable_value, doubly_value}

-- ---- the lines of the sections

-- the heads of the columns of the requests
abbrev pub request_head : List ℕ → List ℕ
request_head capacities = codes "jobnr. mode duration" ++ resource_heads capacities

request_head_first : (capacities : List ℕ) → (ys : List ℕ) × (trim (request_head capacities) ≡ 106 ∷ ys)
request_head_first capacities = trim_first 106 (codes "obnr. mode duration" ++ resource_heads capacities) refl

-- the heads of the columns of the availabilities
pub record IsHead (text : List ℕ) : Type 0 where
  pub kept : is_kept (trim text) ≡ true
  pub title : is_title (trim text) ≡ false

head_by_end : (o : List ℕ) → (is_kept (before_trimmed 82 (before_trimmed 32 o)) ≡ true) × (is_title (before_trimmed 82 (before_trimmed 32 o)) ≡ false)
head_by_end [] = (refl, refl)
head_by_end (c ∷ cs) = (refl, refl)

pub resource_heads_are : (capacities : List ℕ) → 1 ≤ length capacities → IsHead (resource_heads capacities)
resource_heads_are [] some = absurd (omega (arith, some))
resource_heads_are (c ∷ cs) some =
    let both = head_by_end (trim_end (decimal 1 ++ numbered (λ i _. resource_head i) 2 cs)) in
    record { kept = both.0; title = both.1 }

-- rows and the rule behind them are no titles
rows_rule : {A : Type 0} (row gives : ℕ → A → List ℕ) (n : ℕ) (xs : List A) → AreRows row gives n xs → no_titles (row_lines row n xs ++ rule ∷ []) ≡ true
rows_rule row gives n xs rows =
    list_all-append (λ l. not (is_title (trim l))) (row_lines row n xs) (rule ∷ []) ∙ and_from _ _ (rows_no_titles row gives n xs rows) refl

rows_rule_none : {A : Type 0} (title : List ℕ) → ((text : List ℕ) → is_title text ≡ false → begins_with text title ≡ false) → begins_with rule title ≡ false →
    (row gives : ℕ → A → List ℕ) (n : ℕ) (xs : List A) → AreRows row gives n xs → none_begins title (row_lines row n xs ++ rule ∷ []) ≡ true
rows_rule_none title none rule_none row gives n xs rows =
    list_all-append (λ l. not (begins_with (trim l) title)) (row_lines row n xs) (rule ∷ [])
    ∙ and_from _ _ (rows_none_begins title none row gives n xs rows) (and_from _ _ (not_from_false _ rule_none) refl)

-- the numbers of rows with the rule behind them
rows_rule_numbers : {A : Type 0} (row gives : ℕ → A → List ℕ) (n : ℕ) (xs : List A) → AreRows row gives n xs →
    flat_map numbers_in (row_lines row n xs ++ rule ∷ []) ≡ map Some (numbered gives n xs)
rows_rule_numbers row gives n xs rows = rows_numbers row gives n xs (rule ∷ []) rows ∙ append-nil (map Some (numbered gives n xs))

pub precedence_none : (title : List ℕ) → ((text : List ℕ) → is_title text ≡ false → begins_with text title ≡ false) → begins_with rule title ≡ false →
    begins_with (codes "PRECEDENCE RELATIONS:") title ≡ false → begins_with (codes "jobnr.    #modes  #successors   successors") title ≡ false →
    (jobs : List Job) → AreRows precedence_row precedence_gives 1 jobs → none_begins title (precedence_lines jobs) ≡ true
precedence_none title none rule_none a b jobs rows =
    and_from _ _ (not_from_false _ a) (and_from _ _ (not_from_false _ b) (rows_rule_none title none rule_none precedence_row precedence_gives 1 jobs rows))

pub requests_none : (jobs : List Job) (capacities : List ℕ) → AreRows request_row request_gives 1 jobs → none_begins availabilities_title (request_lines jobs capacities) ≡ true
requests_none jobs capacities rows =
    let head = request_head_first capacities in
    let a : begins_with (trim (request_head capacities)) availabilities_title ≡ false = ap (λ t. begins_with t availabilities_title) head.1 in
    and_from true _ refl (and_from _ _ (not_from_false _ a) (and_from true _ refl
    (rows_rule_none availabilities_title no_availabilities refl request_row request_gives 1 jobs rows)))

-- ---- a text as sections

-- what the lines of a text are made of
pub record IsLaidOut (text : List ℕ) (jobs : List Job) (capacities : List ℕ) : Type 0 where
  pub activities : ℕ
  pub horizon : ℕ
  pub rest : List (List ℕ)
  pub raw : raw_lines text ≡ head_lines (length jobs) horizon (length capacities) ++ (information_lines activities horizon
      ++ (precedence_lines jobs ++ (request_lines jobs capacities ++ (availability_lines capacities ++ codes "PROJECT INFORMATION:" ∷ rest))))
  pub small : AreSmall (length jobs) horizon (length capacities)
  pub precedences : AreRows precedence_row precedence_gives 1 jobs
  pub requests : AreRows request_row request_gives 1 jobs
  pub some : 1 ≤ length capacities
  pub capacities_small : AllByRecursion (λ n. n ≤ 10000) capacities

-- the lines behind the sections
abbrev after : {text : List ℕ} {jobs : List Job} {capacities : List ℕ} → IsLaidOut text jobs capacities → List (List ℕ)
after p = codes "PROJECT INFORMATION:" ∷ p.rest

module _ (text : List ℕ) (jobs : List Job) (capacities : List ℕ) (p : IsLaidOut text jobs capacities) where
  -- the section of the precedences
  pub precedence_section : (s : Stream) × (section precedence_title (kept_lines text) ≡ Some s) × Spells s.words (precedence_numbers 1 (rows_of jobs))
  precedence_section =
      let further = request_lines jobs capacities ++ (availability_lines capacities ++ after p) in
      let body = row_lines precedence_row 1 jobs ++ rule ∷ [] in
      let heads = codes "jobnr.    #modes  #successors   successors" in
      let a = section_past precedence_title (head_lines (length jobs) p.horizon (length capacities))
      (information_lines p.activities p.horizon ++ (precedence_lines jobs ++ further)) 1
      (head_none_begins precedence_title (length jobs) p.horizon (length capacities) p.small refl) in
      let b = section_past precedence_title (information_lines p.activities p.horizon) (precedence_lines jobs ++ further) a.0
      (information_none precedence_title p.activities p.horizon refl refl (λ ys. refl) refl) in
      let c = section_at precedence_title (codes "PRECEDENCE RELATIONS:") (heads ∷ (body ++ further)) b.0 refl refl in
      let at : section precedence_title (kept_lines text) ≡ Some (section_from b.0 (kept_from (b.0 + 1) (heads ∷ (body ++ further)))) =
      ap (λ ls. section precedence_title (kept_from 1 ls)) p.raw ∙ a.1 ∙ b.1 ∙ c in
      let words = section_words heads (codes "REQUESTS/DURATIONS:") body
      (request_head capacities ∷ dashes ∷ (row_lines request_row 1 jobs ++ rule ∷ []) ++ (availability_lines capacities ++ after p)) (b.0 + 1)
      refl refl (rows_rule precedence_row precedence_gives 1 jobs p.precedences) refl refl in (
        section_from b.0 (kept_from (b.0 + 1) (heads ∷ (body ++ further))),
        at,
        ap (map (λ (word : LineWord). number word.text)) words ∙ words_numbers (b.0 + 1 + 1) body
            ∙ rows_rule_numbers precedence_row precedence_gives 1 jobs p.precedences ∙ ap (map Some) (precedence_numbers_are 1 jobs),
      )

  -- the section of the requests
  pub requests_section : SectionSpells text requests_title (request_numbers 1 (durations_of jobs) (map (λ job. job.needs) jobs))
  requests_section =
      let further = availability_lines capacities ++ after p in
      let body = dashes ∷ (row_lines request_row 1 jobs ++ rule ∷ []) in
      let heads = request_head capacities in
      let first = request_head_first capacities in
      let a = section_past requests_title (head_lines (length jobs) p.horizon (length capacities))
      (information_lines p.activities p.horizon ++ (precedence_lines jobs ++ (request_lines jobs capacities ++ further))) 1
      (head_none_begins requests_title (length jobs) p.horizon (length capacities) p.small refl) in
      let b = section_past requests_title (information_lines p.activities p.horizon) (precedence_lines jobs ++ (request_lines jobs capacities ++ further)) a.0
      (information_none requests_title p.activities p.horizon refl refl (λ ys. refl) refl) in
      let c = section_past requests_title (precedence_lines jobs) (request_lines jobs capacities ++ further) b.0
      (precedence_none requests_title no_requests refl refl refl jobs p.precedences) in
      let d = section_at requests_title (codes "REQUESTS/DURATIONS:") (heads ∷ (body ++ further)) c.0 refl refl in
      let at : section requests_title (kept_lines text) ≡ Some (section_from c.0 (kept_from (c.0 + 1) (heads ∷ (body ++ further)))) =
      ap (λ ls. section requests_title (kept_from 1 ls)) p.raw ∙ a.1 ∙ b.1 ∙ c.1 ∙ d in
      let words = section_words heads (codes "RESOURCEAVAILABILITIES:") body
      (resource_heads capacities ∷ columns 4 4 capacities ∷ rule ∷ after p) (c.0 + 1)
      (ap is_kept first.1) (ap is_title first.1) (rows_rule request_row request_gives 1 jobs p.requests) refl refl in (
        section_from c.0 (kept_from (c.0 + 1) (heads ∷ (body ++ further))),
        at,
        ap (map (λ (word : LineWord). number word.text)) words ∙ words_numbers (c.0 + 1 + 1) body
            ∙ rows_rule_numbers request_row request_gives 1 jobs p.requests ∙ ap (map Some) (request_numbers_are 1 jobs),
      )

-- the row of the capacities
pub capacities_row : (capacities : List ℕ) → 1 ≤ length capacities → AllByRecursion (λ n. n ≤ 10000) capacities → IsRow (columns 4 4 capacities) capacities
capacities_row [] some small = absurd (omega (arith, some))
capacities_row (c ∷ cs) some small =
    let least = small.0 in
    let text = numbered (λ i n. spaced (places_at 4 4 i) n) 1 cs in
    blank_row (number_column 4 c ++ text) (c ∷ cs)
    (row_is 4 c text cs (omega (arith, least)) (tail_columns (places_at 4 4) 1 cs (small_amounts cs small.1)))

module _ (text : List ℕ) (jobs : List Job) (capacities : List ℕ) (p : IsLaidOut text jobs capacities) where
  -- the section of the availabilities
  pub availabilities_section : SectionSpells text availabilities_title capacities
  availabilities_section =
      let body = columns 4 4 capacities ∷ rule ∷ [] in
      let heads = resource_heads capacities in
      let row = capacities_row capacities p.some p.capacities_small in
      let head = resource_heads_are capacities p.some in
      let last = availability_lines capacities ++ after p in
      let a = section_past availabilities_title (head_lines (length jobs) p.horizon (length capacities))
      (information_lines p.activities p.horizon ++ (precedence_lines jobs ++ (request_lines jobs capacities ++ last))) 1
      (head_none_begins availabilities_title (length jobs) p.horizon (length capacities) p.small refl) in
      let b = section_past availabilities_title (information_lines p.activities p.horizon) (precedence_lines jobs ++ (request_lines jobs capacities ++ last)) a.0
      (information_none availabilities_title p.activities p.horizon refl refl (λ ys. refl) refl) in
      let c = section_past availabilities_title (precedence_lines jobs) (request_lines jobs capacities ++ last) b.0
      (precedence_none availabilities_title no_availabilities refl refl refl jobs p.precedences) in
      let d = section_past availabilities_title (request_lines jobs capacities) last c.0 (requests_none jobs capacities p.requests) in
      let e = section_at availabilities_title (codes "RESOURCEAVAILABILITIES:") (heads ∷ (body ++ after p)) d.0 refl refl in
      let at : section availabilities_title (kept_lines text) ≡ Some (section_from d.0 (kept_from (d.0 + 1) (heads ∷ (body ++ after p)))) =
      ap (λ ls. section availabilities_title (kept_from 1 ls)) p.raw ∙ a.1 ∙ b.1 ∙ c.1 ∙ d.1 ∙ e in
      let words = section_words heads (codes "PROJECT INFORMATION:") body p.rest (d.0 + 1) head.kept head.title
      (and_from _ _ (not_from_false _ row.title) refl) refl refl in
      let numbers : flat_map numbers_in body ≡ map Some capacities =
      ap (λ b. cond b (map number (words_in (trim (columns 4 4 capacities)))) [] ++ []) row.kept
      ∙ append-nil (map number (words_in (trim (columns 4 4 capacities)))) ∙ row.reads in (
        section_from d.0 (kept_from (d.0 + 1) (heads ∷ (body ++ after p))),
        at,
        ap (map (λ (word : LineWord). number word.text)) words ∙ words_numbers (d.0 + 1 + 1) body ∙ numbers,
      )

  -- a key of the head
  pub head_value : (key : List ℕ) (n : ℕ) → ((rest : List (List ℕ)) → GivesValue (before_title (kept_from 1 (head_lines (length jobs) p.horizon (length capacities) ++ rest))) key n) → HasValue text key n
  head_value key n gives =
      let rest = information_lines p.activities p.horizon ++ (precedence_lines jobs ++ (request_lines jobs capacities ++ (availability_lines capacities ++ after p))) in
      let g = gives rest in
      (g.0, g.1, ap (λ ls. key_line key (before_title (kept_from 1 ls))) p.raw ∙ g.2, g.3, g.4)

-- ---- all that a text says

-- a text without zero bytes
abbrev pub is_some_byte : ℕ → Bool
is_some_byte byte = nat_le 1 byte

no_zero : (text : List ℕ) → list_all is_some_byte text ≡ true → All (λ byte. byte ≢ 0) text
no_zero text h = All-weaker (λ b. is_some_byte b ≡ true) (λ b. b ≢ 0) (λ b e zero_at. let one = leb-true 1 b e in omega (arith, one, zero_at)) text (AllPass-from_list_all is_some_byte text h)

-- the text is laid out, short, and has no zero byte, and the jobs are good and sound
pub record IsText (text : List ℕ) (jobs : List Job) (capacities : List ℕ) : Type 0 where
  pub laid_out : IsLaidOut text jobs capacities
  pub short : length text ≤ 1048576
  pub plain : list_all is_some_byte text ≡ true
  pub good : AllByRecursion (IsGoodJob (length jobs) (length capacities)) jobs
  pub fewest : 2 ≤ length jobs
  pub most : length jobs ≤ 502
  pub resources : (1 ≤ length capacities) × (length capacities ≤ 16)
  pub total : sum (durations_of jobs) ≤ 1000000

pub job_rows : (n k : ℕ) (jobs : List Job) → AllByRecursion (IsGoodJob n k) jobs → AllByRecursion (successors.IsRow n) (rows_of jobs)
job_rows n k [] h = tt
job_rows n k (job ∷ jobs) h = (h.0.row, job_rows n k jobs h.1)

pub job_durations : (n k : ℕ) (jobs : List Job) → AllByRecursion (IsGoodJob n k) jobs → AllByRecursion (λ d. d ≤ 10000) (durations_of jobs)
job_durations n k [] h = tt
job_durations n k (job ∷ jobs) h = (h.0.duration, job_durations n k jobs h.1)

job_needs : (n k : ℕ) (jobs : List Job) → AllByRecursion (IsGoodJob n k) jobs → AllByRecursion (IsNeeds k) (map (λ job. job.needs) jobs)
job_needs n k [] h = tt
job_needs n k (job ∷ jobs) h = (h.0.needs, job_needs n k jobs h.1)

-- the document of jobs
abbrev pub document_of_jobs : ℕ → List Job → List ℕ → Document
document_of_jobs line jobs capacities = record {
  requests = record { durations = durations_of jobs; needs = map (λ job. job.needs) jobs };
  arcs = arcs_of_rows 1 (rows_of jobs);
  available = capacities;
  precedence_line = line;
}

pub says_document : (text : List ℕ) (jobs : List Job) (capacities : List ℕ) → IsText text jobs capacities → (line : ℕ) × Says text (document_of_jobs line jobs capacities)
says_document text jobs capacities h =
    let p = h.laid_out in
    let first = precedence_section text jobs capacities p in
    let n : length (durations_of jobs) ≡ length jobs = length-map jobs (λ job. job.duration) in
    let m : length (map (λ job. job.needs) jobs) ≡ length jobs = length-map jobs (λ job. job.needs) in
    let r : length (rows_of jobs) ≡ length jobs = length-map jobs (λ job. job.successors) in
    let count = sym n in
    let HasJobs : ℕ → Type 0 = λ i. HasValue text (codes "jobs") i in
    let JobsFit : ℕ → Type 0 = λ i. (2 ≤ i) × (i ≤ 502) in
    let Arcs : ℕ → Type 0 = λ i. SpellsArcs i first.0.words (arcs_of_rows 1 (rows_of jobs)) in (
      first.0.last,
      record {
        short = h.short;
        plain = no_zero text h.plain;
        one_project = head_value text jobs capacities p (codes "projects") 1 (λ rest. projects_value (length jobs) p.horizon (length capacities) rest p.small);
        jobs = subst HasJobs count (head_value text jobs capacities p (codes "jobs") (length jobs) (λ rest. jobs_value (length jobs) p.horizon (length capacities) rest p.small));
        resources = head_value text jobs capacities p (codes "- renewable") (length capacities) (λ rest. resources_value (length jobs) p.horizon (length capacities) rest p.small);
        no_nonrenewable = head_value text jobs capacities p (codes "- nonrenewable") 0 (λ rest. nonrenewable_value (length jobs) p.horizon (length capacities) rest p.small);
        no_doubly_constrained = head_value text jobs capacities p (codes "- doubly constrained") 0 (λ rest. doubly_value (length jobs) p.horizon (length capacities) rest p.small);
        jobs_fit = subst JobsFit count (h.fewest, h.most);
        resources_fit = h.resources;
        precedence = (first.0, first.1, refl, subst Arcs count (rows_of jobs, r, job_rows (length jobs) (length capacities) jobs h.good, first.2, refl));
        requests = requests_section text jobs capacities p;
        rows = m ∙ count;
        needs = job_needs (length jobs) (length capacities) jobs h.good;
        durations_fit = job_durations (length jobs) (length capacities) jobs h.good;
        total_fits = h.total;
        availabilities = availabilities_section text jobs capacities p;
        available_fit = p.capacities_small;
      },
    )

-- the project of jobs
abbrev pub project_of_jobs : List Job → List ℕ → Project
project_of_jobs jobs capacities = record { network = network_of jobs; needs = map (λ job. job.needs) jobs; available = capacities }

-- a text says the project of its jobs, if they have no cycle
pub says_project : (text : List ℕ) (jobs : List Job) (capacities : List ℕ) → IsText text jobs capacities → IsSound (network_of jobs) → SaysProject text (project_of_jobs jobs capacities)
says_project text jobs capacities h sound =
    let says = says_document text jobs capacities h in
    let d = document_of_jobs says.0 jobs capacities in
    (d, says.1, refl, project_good text d (network_of jobs) says.1 refl sound)
