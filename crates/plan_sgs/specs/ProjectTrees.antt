-- The current word of the tree of a project, and the data that the tree keeps for it
-- (docs/definitions.md, "Words of a project"). Public clauses cite only `Standing` and `standing`.
use Rattle.std.specs.Prelude.{◌≡◌, ℕ, ◌+◌, ◌≤◌, ◌<◌, List, [], ◌∷◌, ◌++◌, length, get_or, slice_index, take, map, Option}
use Rattle.plan_net.specs.Network.{count_of}
use Rattle.plan_cpm.specs.Lengths.{AreTails}
use Rattle.plan_profile.specs.declared.profile.Profile.{Profile}
use Rattle.plan_sgs.specs.Problem.{greatest_below}
use Rattle.plan_sgs.specs.Serial.{end_of}
use Rattle.plan_sgs.specs.Rules.{places}
use Rattle.plan_sgs.specs.Instances.{Planned, IsInstance, problem_of}
use Rattle.plan_sgs.specs.Placement.{Holds}
use Rattle.plan_sgs.specs.Eligibility.{open_links}
use Rattle.plan_sgs.specs.ProjectWords.{depth_of, placed_by, IsWord, least_of_all, reach_of}
use Rattle.plan_sgs.specs.declared.project_tree.Turn.{Turn}

-- an instance and the current word of its tree
pub record Standing : Type 0 where
  pub instance : Planned
  pub word : List ℕ

abbrev pub standing : Planned → List ℕ → Standing
standing instance word = record { instance = instance; word = word }

-- the letters of the turns
abbrev pub word_of : List Turn → List ℕ
word_of turns = map (λ turn. turn.letter) turns

-- the greatest end of the activities that a word places
abbrev pub end_by : Planned → List ℕ → ℕ
end_by i w = greatest_below (depth_of i) (end_of (problem_of i) (placed_by i w))

-- the greatest sum of start and tail of the activities that a word places
abbrev pub reach_by : Planned → List ℕ → ℕ
reach_by i w = greatest_below (depth_of i) (reach_of i (placed_by i w))

-- the values of a turn are those of the word up to its letter
pub record IsTurn (i : Planned) (w : List ℕ) (turn : Turn) : Type 0 where
  pub latest : turn.end ≡ end_by i w
  pub farthest : turn.reach ≡ reach_by i w

-- each turn has the values of the word up to its letter
abbrev pub AreTurns : Planned → List ℕ → List Turn → Type 0
AreTurns i u [] = Unit {0}
AreTurns i u (turn ∷ turns) =
    IsTurn i (u ++ turn.letter ∷ []) turn × AreTurns i (u ++ turn.letter ∷ []) turns

-- the profiles of the words on the path to a word, from the empty word on. The profile of the word
-- itself may be missing.
pub record AreProfiles (i : Planned) (w : List ℕ) (profiles : List Profile) : Type 0 where
  pub some : 0 < length profiles
  pub enough : length w ≤ length profiles
  pub most : length profiles ≤ length w + 1
  pub held : (k : ℕ) (profile : Profile) → k < length profiles → profile ≡ get_or profiles k profile
      → Holds profile (problem_of i) (placed_by i (take k w))

-- for each activity the number of its predecessors that aren't in a word
pub record AreWaits (i : Planned) (w waits : List ℕ) : Type 0 where
  pub size : length waits ≡ count_of i.project.network
  pub each : (h : ℕ) → h < count_of i.project.network
      → slice_index waits h ≡ open_links (problem_of i) (places w) h

-- the invariant of a tree
pub record IsTree (i : Planned) (tails : List ℕ) (least : ℕ) (placed : List (Option ℕ))
    (waits : List ℕ) (profiles : List Profile) (turns : List Turn) : Type 0 where
  pub instance : IsInstance i
  pub tails_are : AreTails i.project.network tails
  pub least_is : least ≡ least_of_all i
  pub word : IsWord i (word_of turns)
  pub placed_are : placed ≡ placed_by i (word_of turns)
  pub waits_are : AreWaits i (word_of turns) waits
  pub profiles_are : AreProfiles i (word_of turns) profiles
  pub turns_are : AreTurns i [] turns
