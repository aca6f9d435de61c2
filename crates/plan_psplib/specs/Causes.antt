-- The condition on an `.sm` text that each error states by itself, whatever the order of the checks
-- (docs/definitions.md, "Files").
use Rattle.std.specs.Prelude.{◌≡◌, ◌≢◌, ◌⊎◌, ℕ, ◌+◌, ◌<◌, true, List, [], ◌∷◌, Some, None, Ok, Err, codes, count_by, get_or, length, sum, take}
use Rattle.plan_net.specs.Limits.{fewest_activities, most_activities}
use Rattle.plan_psplib.specs.declared.text.fault.FileCode.{FileCode}
use Rattle.plan_psplib.specs.declared.text.fault.FileCode.TheVariants as code
use Rattle.plan_psplib.specs.declared.text.fault.Fault.{Fault}
use Rattle.plan_psplib.specs.Lines.{NumberedLine, is_line_feed, last_line}
use Rattle.plan_psplib.specs.Numbers.{number}
use Rattle.plan_psplib.specs.Plain.{longest_text}
use Rattle.plan_psplib.specs.Streams.{LineWord, Stream}
use Rattle.plan_psplib.specs.Sections.{kept_lines, head_of, section, key_line, value_word, precedence_title, requests_title, availabilities_title}
use Rattle.plan_psplib.specs.Tokens.{greatest, greatest_total}
use Rattle.plan_psplib.specs.Head.{most_resources}
use Rattle.plan_psplib.specs.Precedence.{is_among}
use Rattle.plan_psplib.specs.Document.{Document, document}
use Rattle.plan_psplib.specs.Says.{HasValue, IsNeeds}
use Rattle.plan_psplib.specs.Places.{IsAtJob, IsAtModes, IsAtSuccessor, IsBegunPrecedence, IsWholePrecedence, IsAtRequest, IsAtMode, IsAtDuration, IsAtNeed, AreFirstAmounts, AreBegunRequests, AreWholeRequests}

-- the line of the first zero byte: one more than the line feeds before it
abbrev pub HasZeroByte : List ℕ → ℕ → Type 0
HasZeroByte text line = (i : ℕ) × (i < length text) × (get_or text i 0 ≡ 0)
    × ((k : ℕ) → k < i → get_or text k 0 ≢ 0) × (line ≡ count_by is_line_feed (take i text) + 1)

-- the five keys of a head
abbrev pub IsKey : List ℕ → Type 0
IsKey key = (key ≡ codes "projects") ⊎ (key ≡ codes "jobs") ⊎ (key ≡ codes "- renewable")
    ⊎ (key ≡ codes "- nonrenewable") ⊎ (key ≡ codes "- doubly constrained")

-- no line of the head begins with this key
abbrev pub LacksKey : List ℕ → List ℕ → Type 0
LacksKey text key = key_line key (head_of text) ≡ None

-- the first line with a key has this number, and the key no number as its value
abbrev pub LacksValue : List ℕ → List ℕ → ℕ → Type 0
LacksValue text key at = (line : NumberedLine) × (key_line key (head_of text) ≡ Some line) × (line.number ≡ at)
    × ((word : List ℕ) → value_word line.text ≡ Some word → number word ≡ None)

-- the first line with a key has this number, and the key this value
abbrev pub GivesAt : List ℕ → List ℕ → ℕ → ℕ → Type 0
GivesAt text key at n = (line : NumberedLine) × (key_line key (head_of text) ≡ Some line) × (line.number ≡ at)
    × (word : List ℕ) × (value_word line.text ≡ Some word) × (number word ≡ Some n)

-- the three titles of sections
abbrev pub IsSectionTitle : List ℕ → Type 0
IsSectionTitle title = (title ≡ precedence_title) ⊎ (title ≡ requests_title) ⊎ (title ≡ availabilities_title)

-- no kept line begins with this title
abbrev pub LacksSection : List ℕ → List ℕ → Type 0
LacksSection text title = section title (kept_lines text) ≡ None

-- a section begins with these numbers, and then goes on as the other stream
abbrev pub BeginsWith : Stream → List ℕ → Stream → Type 0
BeginsWith s [] t = t ≡ s
BeginsWith s (n ∷ ns) t = (word : LineWord) × (words : List LineWord) × (s.words ≡ word ∷ words)
    × (number word.text ≡ Some n) × BeginsWith (record { last = word.line; words = words }) ns t

-- the next word is on this line, and no number
abbrev pub NextIsNoNumber : Stream → ℕ → Type 0
NextIsNoNumber t line = (word : LineWord) × (words : List LineWord) × (t.words ≡ word ∷ words)
    × (line ≡ word.line) × (number word.text ≡ None)

-- the next word is a number on this line, with this property
abbrev pub NextIs : Stream → ℕ → (ℕ → Type 0) → Type 0
NextIs t line P = (word : LineWord) × (words : List LineWord) × (t.words ≡ word ∷ words)
    × (line ≡ word.line) × (n : ℕ) × (number word.text ≡ Some n) × P n

-- no word is left, and the last one is on this line
abbrev pub EndsAt : Stream → ℕ → Type 0
EndsAt t line = (t.words ≡ []) × (line ≡ t.last)

-- a word is left, on this line
abbrev pub GoesOnAt : Stream → ℕ → Type 0
GoesOnAt t line = (word : LineWord) × (words : List LineWord) × (t.words ≡ word ∷ words)
    × (line ≡ word.line)

-- The word at which the precedence section of n jobs stops, behind these numbers of it. A job's
-- number is that of the row; a successor is a job, and one that its row hasn't listed before.
abbrev pub PrecedenceStops : ℕ → FileCode → List ℕ → Stream → ℕ → Type 0
PrecedenceStops n code.BadNumber before t line = IsBegunPrecedence n before × NextIsNoNumber t line
PrecedenceStops n code.JobOrder before t line =
    ((job : ℕ) × IsAtJob n before job × NextIs t line (λ m. m ≢ job))
    ⊎ ((listed : List ℕ) × IsAtSuccessor n before listed × NextIs t line (λ m. (m < 1) ⊎ (n < m)))
PrecedenceStops n code.Modes before t line = IsAtModes n before × NextIs t line (λ m. m ≢ 1)
PrecedenceStops n code.Count before t line =
    (IsBegunPrecedence n before × EndsAt t line) ⊎ (IsWholePrecedence n before × GoesOnAt t line)
PrecedenceStops n code.Double before t line =
    (listed : List ℕ) × IsAtSuccessor n before listed
    × NextIs t line (λ m. is_among listed m ≡ true)
PrecedenceStops n _ before t line = ⊥

-- The same for the requests section of n jobs and k resources. A number beyond its limit is a need
-- or a duration above 10,000, or a duration with which they add up to more than 1,000,000.
abbrev pub RequestsStop : ℕ → ℕ → FileCode → List ℕ → Stream → ℕ → Type 0
RequestsStop n k code.BadNumber before t line = AreBegunRequests n k before × NextIsNoNumber t line
RequestsStop n k code.JobOrder before t line =
    (job : ℕ) × IsAtRequest n k before job × NextIs t line (λ m. m ≢ job)
RequestsStop n k code.Modes before t line = IsAtMode n k before × NextIs t line (λ m. m ≢ 1)
RequestsStop n k code.Count before t line =
    (AreBegunRequests n k before × EndsAt t line) ⊎ (AreWholeRequests n k before × GoesOnAt t line)
RequestsStop n k code.Limit before t line =
    ((durations : List ℕ) × IsAtDuration n k before durations
    × NextIs t line (λ m. (greatest < m) ⊎ (greatest_total < sum durations + m)))
    ⊎ (IsAtNeed n k before × NextIs t line (λ m. greatest < m))
RequestsStop n k _ before t line = ⊥

-- the same for the availabilities of k resources
abbrev pub AvailabilitiesStop : ℕ → FileCode → List ℕ → Stream → ℕ → Type 0
AvailabilitiesStop k code.BadNumber before t line = AreFirstAmounts k before × NextIsNoNumber t line
AvailabilitiesStop k code.Count before t line =
    (AreFirstAmounts k before × EndsAt t line) ⊎ (IsNeeds k before × GoesOnAt t line)
AvailabilitiesStop k code.Limit before t line =
    AreFirstAmounts k before × NextIs t line (λ m. greatest < m)
AvailabilitiesStop k _ before t line = ⊥

-- a section stops behind some of its numbers
abbrev pub StopsIn : (FileCode → List ℕ → Stream → ℕ → Type 0) → Stream → FileCode → ℕ → Type 0
StopsIn Stops s c line = (before : List ℕ) × (t : Stream) × BeginsWith s before t
    × Stops c before t line

-- the section of a title stops
abbrev pub SectionStops : List ℕ → List ℕ → (FileCode → List ℕ → Stream → ℕ → Type 0) → FileCode
    → ℕ → Type 0
SectionStops text title Stops c line =
    (s : Stream) × (section title (kept_lines text) ≡ Some s) × StopsIn Stops s c line

-- one of the three sections stops, for the number of jobs and the number of resources in the head
abbrev pub ASectionStops : List ℕ → FileCode → ℕ → Type 0
ASectionStops text c line = (n : ℕ) × (k : ℕ) × HasValue text (codes "jobs") n
    × HasValue text (codes "- renewable") k
    × (SectionStops text precedence_title (PrecedenceStops n) c line
    ⊎ SectionStops text requests_title (RequestsStop n k) c line
    ⊎ SectionStops text availabilities_title (AvailabilitiesStop k) c line)

-- what an error says of the whole text or of its head
abbrev pub IsWrong : FileCode → List ℕ → ℕ → Type 0
IsWrong code.TooLong text line = (longest_text < length text) × (line ≡ 0)
IsWrong code.NotText text line = HasZeroByte text line
IsWrong code.MissingHead text line = ((key : List ℕ) × IsKey key × LacksKey text key) × (line ≡ last_line text)
IsWrong code.Unsupported text line =
    ((n : ℕ) × GivesAt text (codes "projects") line n × (n ≢ 1))
    ⊎ ((n : ℕ) × GivesAt text (codes "- nonrenewable") line n × (n ≢ 0))
    ⊎ ((n : ℕ) × GivesAt text (codes "- doubly constrained") line n × (n ≢ 0))
IsWrong code.MissingSection text line =
    ((title : List ℕ) × IsSectionTitle title × LacksSection text title) × (line ≡ last_line text)
IsWrong code.BadNumber text line = (key : List ℕ) × IsKey key × LacksValue text key line
IsWrong code.Limit text line =
    ((n : ℕ) × GivesAt text (codes "jobs") line n × ((n < fewest_activities) ⊎ (most_activities < n)))
    ⊎ ((n : ℕ) × GivesAt text (codes "- renewable") line n × ((n < 1) ⊎ (most_resources < n)))
IsWrong _ text line = ⊥

-- what an error says of a text by itself
abbrev pub Shows : FileCode → List ℕ → ℕ → Type 0
Shows c text line = IsWrong c text line ⊎ ASectionStops text c line

-- the first check that a text fails shows what it says by itself
unfoldable pub ErrorsShow : Type 0
ErrorsShow = (text : List ℕ) (f : Fault) → document text ≡ Err f → Shows f.code text f.line

-- nothing of this is true of a text that is read
unfoldable pub ReadTextsAreRight : Type 0
ReadTextsAreRight = (text : List ℕ) (d : Document) (c : FileCode) (line : ℕ)
    → document text ≡ Ok d → Shows c text line → ⊥
