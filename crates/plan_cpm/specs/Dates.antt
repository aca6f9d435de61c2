-- Earliest and latest dates, and floats (docs/definitions.md, "Dates").
use Rattle.std.specs.Prelude.{ℕ, ◌≡◌, ◌+◌, ◌-◌, ◌≤◌, ◌<◌, ◌⊎◌, List, length, slice_index}
use Rattle.plan_net.specs.Network.{Net, count_of, duration_of, lag_of, IsActivity, IsArc, IsGreatest, IsLeast}
use Rattle.plan_cpm.specs.Lengths.{IsLength, IsLengthFrom, AreFinishes, AreTails}

-- the dates of a network: the project duration, and lists with a number for each activity
pub record DateTable : Type 0 where
  pub duration : ℕ
  pub durations : List ℕ
  pub finishes : List ℕ
  pub tails : List ℕ
  pub free_floats : List ℕ

-- EF
abbrev pub early_finish_of : DateTable → ℕ → ℕ
early_finish_of dates j = slice_index dates.finishes (j - 1)

-- ES
abbrev pub early_start_of : DateTable → ℕ → ℕ
early_start_of dates j = early_finish_of dates j - slice_index dates.durations (j - 1)

-- LS
abbrev pub late_start_of : DateTable → ℕ → ℕ
late_start_of dates j = dates.duration - slice_index dates.tails (j - 1)

-- LF
abbrev pub late_finish_of : DateTable → ℕ → ℕ
late_finish_of dates j = late_start_of dates j + slice_index dates.durations (j - 1)

-- TF
abbrev pub total_float_of : DateTable → ℕ → ℕ
total_float_of dates j = late_start_of dates j - early_start_of dates j

-- FF
abbrev pub free_float_of : DateTable → ℕ → ℕ
free_float_of dates j = slice_index dates.free_floats (j - 1)

-- v is the latest end of j that the earliest start of some successor allows
abbrev pub IsSuccessorStart : Net → DateTable → ℕ → ℕ → Type 0
IsSuccessorStart net dates j v = (k : ℕ) × IsArc net j k × (v + lag_of net j k ≡ early_start_of dates k)

-- the dates are those of the greatest path lengths
pub record AreDates (net : Net) (dates : DateTable) : Type 0 where
  pub durations : dates.durations ≡ net.durations
  pub finishes : AreFinishes net dates.finishes
  pub tails : AreTails net dates.tails
  pub duration : IsGreatest (IsLength net) dates.duration
  pub free_count : length dates.free_floats ≡ count_of net
  pub free : (j k : ℕ) → IsArc net j k → IsLeast (IsSuccessorStart net dates j) (early_finish_of dates j + free_float_of dates j)
  pub free_last : (j : ℕ) → IsActivity net j → ((k : ℕ) → IsArc net j k → ⊥) → early_finish_of dates j + free_float_of dates j ≡ dates.duration

-- the tail of each activity is the project duration less its latest start
abbrev pub LeavesTails : Net → DateTable → Type 0
LeavesTails net dates = (j : ℕ) → IsActivity net j → IsGreatest (IsLengthFrom net j) (dates.duration - late_start_of dates j)

-- v is the earliest start of j that some predecessor allows
abbrev pub IsPredecessorFinish : Net → DateTable → ℕ → ℕ → Type 0
IsPredecessorFinish net dates j v = (i : ℕ) × IsArc net i j × (v ≡ early_finish_of dates i + lag_of net i j)

-- v is the latest finish of j that the latest start of some successor allows
abbrev pub IsSuccessorLateStart : Net → DateTable → ℕ → ℕ → Type 0
IsSuccessorLateStart net dates j v = (k : ℕ) × IsArc net j k × (v + lag_of net j k ≡ late_start_of dates k)

-- the recurrences by which the textbook computes the dates, forward and backward
pub record KeepRecurrences (net : Net) (dates : DateTable) : Type 0 where
  pub first : (j : ℕ) → IsActivity net j → ((i : ℕ) → IsArc net i j → ⊥) → early_start_of dates j ≡ 0
  pub start : (i j : ℕ) → IsArc net i j → IsGreatest (IsPredecessorFinish net dates j) (early_start_of dates j)
  pub finish : (j : ℕ) → IsActivity net j → early_finish_of dates j ≡ early_start_of dates j + duration_of net j
  pub last : (j : ℕ) → IsActivity net j → ((k : ℕ) → IsArc net j k → ⊥) → late_finish_of dates j ≡ dates.duration
  pub late_finish : (j k : ℕ) → IsArc net j k → IsLeast (IsSuccessorLateStart net dates j) (late_finish_of dates j)
  pub late_start : (j : ℕ) → IsActivity net j → late_start_of dates j + duration_of net j ≡ late_finish_of dates j
  pub float : (j : ℕ) → IsActivity net j → early_start_of dates j + total_float_of dates j ≡ late_start_of dates j
  pub reached : (j : ℕ) × IsActivity net j × (early_finish_of dates j ≡ dates.duration)
  pub within : (j : ℕ) → IsActivity net j → late_finish_of dates j ≤ dates.duration

-- v is the least start of a successor of j less its lag, or the project duration if that is less
pub record IsNextStart (net : Net) (finishes : List ℕ) (duration j v : ℕ) : Type 0 where
  pub below : (k : ℕ) → IsArc net j k → v + lag_of net j k + duration_of net k ≤ slice_index finishes (k - 1)
  pub within : v ≤ duration
  pub reached : (v ≡ duration) ⊎ ((k : ℕ) × IsArc net j k × (v + lag_of net j k + duration_of net k ≡ slice_index finishes (k - 1)))

-- the entry of each predecessor of k was lowered to at most `start` less the lag; no other entry
-- changed
pub record LowersBefore (net : Net) (k start : ℕ) (before after : List ℕ) : Type 0 where
  pub whole : length after ≡ length before
  pub kept : (x : ℕ) → slice_index after x ≤ slice_index before x
  pub lowered : (j : ℕ) → IsArc net j k → slice_index after (j - 1) + lag_of net j k ≤ start
  pub reached : (x : ℕ) → (slice_index after x ≡ slice_index before x) ⊎ ((j : ℕ) × IsArc net j k × (x ≡ j - 1) × (slice_index after x + lag_of net j k ≡ start))

-- for each activity the least start of a successor less its lag, at most the project duration
pub record AreNextStarts (net : Net) (finishes : List ℕ) (duration : ℕ) (list : List ℕ) : Type 0 where
  pub whole : length list ≡ count_of net
  pub next : (j : ℕ) → IsActivity net j → IsNextStart net finishes duration j (slice_index list (j - 1))

-- each activity's free float
pub record AreFreeFloats (net : Net) (finishes : List ℕ) (duration : ℕ) (list : List ℕ) : Type 0 where
  pub whole : length list ≡ count_of net
  pub next : (j : ℕ) → IsActivity net j → IsNextStart net finishes duration j (slice_index finishes (j - 1) + slice_index list (j - 1))

-- the lists are equally long, and no difference that defines a date is negative
pub record IsConsistent (dates : DateTable) : Type 0 where
  pub finishes : length dates.finishes ≡ length dates.durations
  pub tails : length dates.tails ≡ length dates.durations
  pub free_floats : length dates.free_floats ≡ length dates.durations
  pub begun : (i : ℕ) → i < length dates.durations → slice_index dates.durations i ≤ slice_index dates.finishes i
  pub kept : (i : ℕ) → i < length dates.durations → slice_index dates.durations i ≤ slice_index dates.tails i
  pub bounded : (i : ℕ) → i < length dates.durations → slice_index dates.tails i + slice_index dates.finishes i ≤ dates.duration + slice_index dates.durations i

-- j is one of the activities of the dates
abbrev pub IsDated : DateTable → ℕ → Type 0
IsDated dates j = (1 ≤ j) × (j ≤ length dates.durations)
