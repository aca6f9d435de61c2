-- Laws of trees of words, and their consequences for the list of all words and for a search that
-- skips words (docs/definitions.md, "Words", "Search").
use Rattle.std.specs.Prelude.{◌≡◌, ℕ, ◌≤◌, ◌<◌, List, ◌++◌, length, All, Contains, IsTrue}
use Rattle.std.specs.List.{AllPairs}
use Rattle.plan_exact.specs.Words.{WordTree, IsWord, words, is_before}
use Rattle.plan_exact.specs.Visited.{best, initial_found, visited_words, IsFirstLeast}

-- the letters that may follow a word are in rising order
unfoldable pub LettersRise : WordTree → Type 0
LettersRise t = (w : List ℕ) → IsWord t w → AllPairs (λ a b. a < b) (t.letters w)

-- no word is longer than the tree is deep
unfoldable pub WordsAreFinite : WordTree → Type 0
WordsAreFinite t = (w : List ℕ) → IsWord t w → length w ≤ t.depth

-- the bound of a word is at most the makespan of every full word that begins with it
unfoldable pub BoundHolds : WordTree → Type 0
BoundHolds t =
    (u v : List ℕ) → IsWord t (u ++ v) → IsTrue (t.full (u ++ v)) → t.bound u ≤ t.makespan (u ++ v)

-- a tree that satisfies the three laws
pub record KeepsLaws (t : WordTree) : Type 0 where
  pub rise : LettersRise t
  pub finite : WordsAreFinite t
  pub bounded : BoundHolds t

-- the list contains exactly the words of the tree, each once, in lexicographic order
pub record ListsWords (t : WordTree) (ws : List (List ℕ)) : Type 0 where
  pub each : (w : List ℕ) → IsWord t w → Contains ws w
  pub alone : All (IsWord t) ws
  pub rising : AllPairs (λ u w. IsTrue (is_before u w)) ws

-- `words` lists the words of every tree
unfoldable pub WordsAreListed : Type 0
WordsAreListed = (t : WordTree) → KeepsLaws t → ListsWords t (words t)

-- the first word of least makespan among the visited words is the first of least makespan among all
-- words
unfoldable pub PruningKeepsLeast : Type 0
PruningKeepsLeast =
    (t : WordTree) (initial : ℕ) → KeepsLaws t
    → best t (initial_found initial) (visited_words t initial)
    ≡ best t (initial_found initial) (words t)

-- `best` finds the first word of least makespan in every list
unfoldable pub BestIsFirstLeast : Type 0
BestIsFirstLeast =
    (t : WordTree) (initial : ℕ) (ws : List (List ℕ))
    → IsFirstLeast t initial ws (best t (initial_found initial) ws)
