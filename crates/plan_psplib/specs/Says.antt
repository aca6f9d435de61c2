-- The document of an `.sm` text, independent of the order in which it is read (docs/definitions.md,
-- "Files").
use Rattle.std.specs.Prelude.{◌≡◌, ◌≢◌, ℕ, ◌+◌, ◌≤◌, List, [], ◌∷◌, ◌++◌, Some, All, codes, length, map, sum}
use Rattle.std.specs.List.{AllByRecursion}
use Rattle.plan_psplib.specs.Lines.{NumberedLine}
use Rattle.plan_psplib.specs.Numbers.{number}
use Rattle.plan_psplib.specs.Streams.{LineWord, Stream}
use Rattle.plan_psplib.specs.Sections.{kept_lines, head_of, section, key_line, value_word, precedence_title, requests_title, availabilities_title}
use Rattle.plan_net.specs.Limits.{fewest_activities, most_activities}
use Rattle.plan_net.specs.Successors.{arcs_of_rows, IsRow}
use Rattle.plan_psplib.specs.Tokens.{greatest, greatest_total}
use Rattle.plan_psplib.specs.Head.{most_resources}
use Rattle.plan_psplib.specs.Document.{Document}
use Rattle.plan_psplib.specs.Plain.{longest_text}

-- the words spell these numbers, one each
abbrev pub Spells : List LineWord → List ℕ → Type 0
Spells words numbers = map (λ word. number word.text) words ≡ map Some numbers

-- the numbers of the rows from a job on: the job, the number of modes (1), the number of
-- successors, the successors
abbrev pub precedence_numbers : ℕ → List (List ℕ) → List ℕ
precedence_numbers job [] = []
precedence_numbers job (row ∷ rows) = (job ∷ 1 ∷ length row ∷ row) ++ precedence_numbers (job + 1) rows

-- the words spell the rows of n jobs, and these are their arcs
abbrev pub SpellsArcs : ℕ → List LineWord → List (ℕ × ℕ) → Type 0
SpellsArcs n words arcs = (rows : List (List ℕ)) × (length rows ≡ n) × AllByRecursion (IsRow n) rows × Spells words (precedence_numbers 1 rows) × (arcs ≡ arcs_of_rows 1 rows)

-- the numbers of the rows from a job on: the job, the mode 1, its duration, its needs
abbrev pub request_numbers : ℕ → List ℕ → List (List ℕ) → List ℕ
request_numbers job (duration ∷ durations) (needs ∷ others) = (job ∷ 1 ∷ duration ∷ needs) ++ request_numbers (job + 1) durations others
request_numbers job _ _ = []

-- the needs of a job: an amount of each of k resources
abbrev pub IsNeeds : ℕ → List ℕ → Type 0
IsNeeds k needs = (length needs ≡ k) × AllByRecursion (λ amount. amount ≤ greatest) needs

-- the value of a key in the head is this number
abbrev pub HasValue : List ℕ → List ℕ → ℕ → Type 0
HasValue text key n = (line : NumberedLine) × (word : List ℕ) × (key_line key (head_of text) ≡ Some line) × (value_word line.text ≡ Some word) × (number word ≡ Some n)

-- the section of a title spells these numbers
abbrev pub SectionSpells : List ℕ → List ℕ → List ℕ → Type 0
SectionSpells text title numbers = (s : Stream) × (section title (kept_lines text) ≡ Some s) × Spells s.words numbers

-- a text describes a document: its head and its three sections spell it, and it keeps the limits
pub record Says (text : List ℕ) (d : Document) : Type 0 where
  pub short : length text ≤ longest_text
  pub plain : All (λ byte. byte ≢ 0) text
  pub one_project : HasValue text (codes "projects") 1
  pub jobs : HasValue text (codes "jobs") (length d.requests.durations)
  pub resources : HasValue text (codes "- renewable") (length d.available)
  pub no_nonrenewable : HasValue text (codes "- nonrenewable") 0
  pub no_doubly_constrained : HasValue text (codes "- doubly constrained") 0
  pub jobs_fit : (fewest_activities ≤ length d.requests.durations) × (length d.requests.durations ≤ most_activities)
  pub resources_fit : (1 ≤ length d.available) × (length d.available ≤ most_resources)
  pub precedence : (s : Stream) × (section precedence_title (kept_lines text) ≡ Some s) × (s.last ≡ d.precedence_line) × SpellsArcs (length d.requests.durations) s.words d.arcs
  pub requests : SectionSpells text requests_title (request_numbers 1 d.requests.durations d.requests.needs)
  pub rows : length d.requests.needs ≡ length d.requests.durations
  pub needs : AllByRecursion (IsNeeds (length d.available)) d.requests.needs
  pub durations_fit : AllByRecursion (λ duration. duration ≤ greatest) d.requests.durations
  pub total_fits : sum d.requests.durations ≤ greatest_total
  pub availabilities : SectionSpells text availabilities_title d.available
  pub available_fit : AllByRecursion (λ amount. amount ≤ greatest) d.available
