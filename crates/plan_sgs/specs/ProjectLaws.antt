-- Laws of the words of a project: letters rise, words are finite, full words are the activity
-- lists, and the bound is a lower bound (docs/definitions.md, "Words of a project").
use Rattle.std.specs.Prelude.{◌≡◌, ℕ, suc, ◌≤◌, ◌<◌, ◌*◌, true, false, List, ◌++◌, length, map, All, Contains, ◌↔◌}
use Rattle.std.specs.List.{AllPairs}
use Rattle.plan_net.specs.Network.{Net, IsActivity, IsGreatest, IsLeast}
use Rattle.plan_net.specs.Limits.{IsSound}
use Rattle.plan_cpm.specs.Lengths.{IsLength, IsLengthFrom}
use Rattle.plan_sgs.specs.Problem.{makespan, IsFeasible, IsActive, IsShortest}
use Rattle.plan_sgs.specs.Serial.{serial}
use Rattle.plan_sgs.specs.Rules.{IsNumberedList, rule_list}
use Rattle.plan_sgs.specs.Instances.{Planned, IsInstance, problem_of}
use Rattle.plan_sgs.specs.PathTails.{tail_of, longest_of}
use Rattle.plan_sgs.specs.ProjectWords.{depth_of, letters_after, IsWord, is_full, starts_by, makespan_by, rounded_up, bound_of}

-- a tail is the greatest length of a path that begins with the activity
unfoldable pub TailsAreGreatest : Type 0
TailsAreGreatest = (net : Net) (j : ℕ) → IsSound net → IsActivity net j
    → IsGreatest (IsLengthFrom net j) (tail_of net j)

-- the greatest tail is the greatest length of a path
unfoldable pub LongestIsGreatest : Type 0
LongestIsGreatest = (net : Net) → IsSound net → IsGreatest (IsLength net) (longest_of net)

-- a quotient rounded up is the least number that makes at least the dividend
unfoldable pub RoundsUp : Type 0
RoundsUp = (a b : ℕ) → 0 < b → IsLeast (λ c. a ≤ c * b) (rounded_up a b)

-- the letters after each list rise
unfoldable pub ProjectLettersRise : Type 0
ProjectLettersRise = (i : Planned) (w : List ℕ) → AllPairs (λ a b. a < b) (letters_after i w)

-- each letter is the number of an activity
unfoldable pub LettersAreActivities : Type 0
LettersAreActivities = (i : Planned) (w : List ℕ)
    → All (λ a. (1 ≤ a) × (a ≤ depth_of i)) (letters_after i w)

-- no word has more letters than there are activities
unfoldable pub ProjectWordsAreFinite : Type 0
ProjectWordsAreFinite = (i : Planned) (w : List ℕ) → IsWord i w → length w ≤ depth_of i

-- a word that isn't full has a letter that may follow
unfoldable pub WordsGoOn : Type 0
WordsGoOn = (i : Planned) (w : List ℕ) → IsInstance i → IsWord i w → is_full i w ≡ false
    → (a : ℕ) × Contains (letters_after i w) a

-- a full word
abbrev pub IsFullWord : Planned → List ℕ → Type 0
IsFullWord i w = IsWord i w × (is_full i w ≡ true)

-- the full words are the activity lists
unfoldable pub FullWordsAreLists : Type 0
FullWordsAreLists = (i : Planned) (w : List ℕ) → IsInstance i
    → IsFullWord i w ↔ IsNumberedList (problem_of i) w

-- the bound of a word is at most the makespan of every full word that begins with it
unfoldable pub ProjectBoundHolds : Type 0
ProjectBoundHolds = (i : Planned) (u v : List ℕ) → IsInstance i → IsFullWord i (u ++ v)
    → bound_of i u ≤ makespan_by i (u ++ v)

-- the schedule of every full word is active
unfoldable pub ProjectFullIsActive : Type 0
ProjectFullIsActive = (i : Planned) (w : List ℕ) → IsInstance i → IsFullWord i w
    → IsActive (problem_of i) (starts_by i w)

-- a full word with at most a makespan
pub record ReachesBy (i : Planned) (most : ℕ) : Type 0 where
  pub word : List ℕ
  pub full : IsFullWord i word
  pub makespan : makespan_by i word ≤ most

-- for every feasible list there is a full word with a makespan that is no greater
unfoldable pub ProjectWordsReach : Type 0
ProjectWordsReach =
    (i : Planned) (starts : List ℕ) → IsInstance i → IsFeasible (problem_of i) starts
    → ReachesBy i (makespan (problem_of i) starts)

-- a full word with the least makespan of all full words gives a shortest schedule
unfoldable pub LeastProjectWordIsShortest : Type 0
LeastProjectWordIsShortest =
    (i : Planned) (w : List ℕ) → IsInstance i → IsFullWord i w
    → ((v : List ℕ) → IsFullWord i v → makespan_by i w ≤ makespan_by i v)
    → IsShortest (problem_of i) (starts_by i w)

-- the list of a priority rule, by numbers from 1 on
abbrev pub rule_word : Planned → (ℕ → ℕ) → List ℕ
rule_word i key = map suc (rule_list (problem_of i) key)

-- the list of every key is a full word, and its starts are those of the list
unfoldable pub RuleWordIsFull : Type 0
RuleWordIsFull = (i : Planned) (key : ℕ → ℕ) → IsInstance i
    → IsFullWord i (rule_word i key)
    × (starts_by i (rule_word i key) ≡ serial (problem_of i) (rule_list (problem_of i) key))
