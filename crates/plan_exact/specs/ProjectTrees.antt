-- The words of a project as a tree of words (docs/definitions.md, "Words", "Words of a project").
use Rattle.std.specs.Prelude.{ℕ, ◌≤◌, List, ◌↔◌}
use Rattle.plan_sgs.specs.Problem.{IsFeasible, makespan}
use Rattle.plan_sgs.specs.Instances.{Planned, IsInstance, problem_of}
use Rattle.plan_sgs.specs.ProjectWords.{letters_after, bound_of, is_full, makespan_by, depth_of, IsWord as IsProjectWord}
use Rattle.plan_exact.specs.Words.{WordTree, IsWord, words}
use Rattle.plan_exact.specs.Laws.{KeepsLaws}
use Rattle.plan_exact.specs.Visited.{Found, IsFirstLeast}

-- the words of a project
unfoldable pub project_tree : Planned → WordTree
project_tree i = record {
  letters = letters_after i;
  bound = bound_of i;
  full = is_full i;
  makespan = makespan_by i;
  depth = depth_of i;
}

-- an instance, the current word of its tree, and the number of successful pushes so far
pub record CountedProject : Type 0 where
  pub instance : Planned
  pub word : List ℕ
  pub pushes : ℕ

-- the words of the tree are those of the project
unfoldable pub TreeHasProjectWords : Planned → Type 0
TreeHasProjectWords i = (w : List ℕ) → IsWord (project_tree i) w ↔ IsProjectWord i w

-- the tree of every project satisfies the laws of trees
unfoldable pub ProjectTreesKeepLaws : Type 0
ProjectTreesKeepLaws = (i : Planned) → IsInstance i → KeepsLaws (project_tree i)

-- the first word of least makespan among all words has no greater makespan than any feasible
-- schedule
unfoldable pub FoundIsShortestProject : Type 0
FoundIsShortestProject =
    (i : Planned) (initial : ℕ) (f : Found) (starts : List ℕ) → IsInstance i
    → IsFirstLeast (project_tree i) initial (words (project_tree i)) f
    → IsFeasible (problem_of i) starts → f.value ≤ makespan (problem_of i) starts
