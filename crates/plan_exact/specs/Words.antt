-- Trees of words and the lexicographic order of their words (docs/definitions.md, "Words").
use Rattle.std.specs.Prelude.{ℕ, zero, suc, Bool, true, false, ◌&&◌, ◌||◌, nat_lt, nat_eq, List, [], ◌∷◌, ◌++◌, Contains, flat_map}

-- a tree of words by its four functions: the letters that may follow a word, its bound, whether it
-- is full, and the makespan of a full word. No word is longer than `depth`
pub record WordTree : Type 0 where
  pub letters : List ℕ → List ℕ
  pub bound : List ℕ → ℕ
  pub full : List ℕ → Bool
  pub makespan : List ℕ → ℕ
  pub depth : ℕ

-- each letter of the list may follow the letters before it, after u
abbrev pub Continues : WordTree → List ℕ → List ℕ → Type 0
Continues t u [] = Unit {0}
Continues t u (a ∷ v) = Contains (t.letters u) a × Continues t (u ++ a ∷ []) v

-- a list of letters, each of which may follow those before it
abbrev pub IsWord : WordTree → List ℕ → Type 0
IsWord t w = Continues t [] w

-- u, then the words that begin with it and have at most n more letters, in the order of the letters
abbrev pub words_from : WordTree → ℕ → List ℕ → List (List ℕ)
words_from t zero u = u ∷ []
words_from t (suc n) u = u ∷ flat_map (λ a. words_from t n (u ++ a ∷ [])) (t.letters u)

-- all words of a tree
unfoldable pub words : WordTree → List (List ℕ)
words t = words_from t t.depth []

-- the one list comes before the other in lexicographic order, a list before those that it begins
abbrev pub is_before : List ℕ → List ℕ → Bool
is_before [] [] = false
is_before [] (b ∷ w) = true
is_before (a ∷ u) [] = false
is_before (a ∷ u) (b ∷ w) = nat_lt a b || (nat_eq a b && is_before u w)
