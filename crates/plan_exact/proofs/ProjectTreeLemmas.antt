-- The tree of a project keeps the laws of trees.
use Rattle.std.proofs.Common.{ℕ, ◌≤◌, List, [], ◌∷◌, ◌++◌, Contains, arith}
use Rattle.std.specs.Prelude.{IsTrue}
use Rattle.std.proofs.lemmas.List.Elements.{All-contains}
use Rattle.plan_sgs.specs.Problem.{makespan}
use Rattle.plan_sgs.specs.Instances.{Planned, IsInstance, problem_of}
use Rattle.plan_sgs.specs.ProjectWords.{Follows}
use Rattle.plan_sgs.specs.ProjectLaws.{ProjectLettersRise, ProjectWordsAreFinite, ProjectBoundHolds, ProjectWordsReach, ReachesBy}
use Rattle.plan_sgs.proofs.FullWordLemmas.{letters_rise, words_are_finite, words_reach}
use Rattle.plan_sgs.proofs.WordBoundLemmas.{bound_holds}
use Rattle.plan_exact.specs.Words.{Continues, words}
use Rattle.plan_exact.specs.Laws.{KeepsLaws, LettersRise, WordsAreFinite, BoundHolds, ListsWords}
use Rattle.plan_exact.specs.ProjectTrees.{project_tree, TreeHasProjectWords, ProjectTreesKeepLaws, FoundIsShortestProject}
use Rattle.plan_exact.proofs.WordLemmas.{words_listed}

-- letters that follow a word of the tree follow it in the project
follows_from : (i : Planned) (u v : List ℕ) → Continues (project_tree i) u v → Follows i u v
unfolding project_tree
follows_from i u [] c = tt
follows_from i u (a ∷ v) c = (c.0, follows_from i (u ++ a ∷ []) v c.1)

-- and the reverse
continues_from : (i : Planned) (u v : List ℕ) → Follows i u v → Continues (project_tree i) u v
unfolding project_tree
continues_from i u [] f = tt
continues_from i u (a ∷ v) f = (f.0, continues_from i (u ++ a ∷ []) v f.1)

pub tree_has_words : (i : Planned) → TreeHasProjectWords i
unfolding TreeHasProjectWords
tree_has_words i w = (follows_from i [] w, continues_from i [] w)

tree_letters_rise : (i : Planned) → LettersRise (project_tree i)
unfolding LettersRise project_tree ProjectLettersRise
tree_letters_rise i w is = letters_rise i w

tree_words_finite : (i : Planned) → WordsAreFinite (project_tree i)
unfolding WordsAreFinite project_tree ProjectWordsAreFinite
tree_words_finite i w is = words_are_finite i w (follows_from i [] w is)

tree_bound_holds : (i : Planned) → IsInstance i → BoundHolds (project_tree i)
unfolding BoundHolds project_tree ProjectBoundHolds
tree_bound_holds i instance u v is full = bound_holds i u v instance (follows_from i [] (u ++ v) is, full)

-- the tree of every project keeps the laws of trees
pub keeps_laws : (i : Planned) → IsInstance i → KeepsLaws (project_tree i)
keeps_laws i instance = record { rise = tree_letters_rise i; finite = tree_words_finite i; bounded = tree_bound_holds i instance }

pub project_trees_keep_laws : ProjectTreesKeepLaws
unfolding ProjectTreesKeepLaws
project_trees_keep_laws = keeps_laws

-- the first result of least makespan is at most the makespan of any feasible schedule
pub found_is_shortest : FoundIsShortestProject
unfolding FoundIsShortestProject ProjectWordsReach project_tree
found_is_shortest i initial f starts instance least feasible =
    let h : ReachesBy i (makespan (problem_of i) starts) = words_reach i starts instance feasible in
    let listed : ListsWords (project_tree i) (words (project_tree i)) = words_listed (project_tree i) (keeps_laws i instance) in
    let there : Contains (words (project_tree i)) h.word = listed.each h.word (continues_from i [] h.word h.full.0) in
    let most = All-contains (λ w. IsTrue ((project_tree i).full w) → f.value ≤ (project_tree i).makespan w) (words (project_tree i)) h.word least.at_most_words there h.full.1 in
    omega (arith, most, h.makespan)
