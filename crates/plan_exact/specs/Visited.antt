-- Visited words of a search, and the first schedule of least makespan (docs/definitions.md,
-- "Search").
use Rattle.std.specs.Prelude.{◌≡◌, ℕ, ◌≤◌, ◌<◌, Bool, cond, ◌&&◌, nat_lt, List, [], ◌∷◌, ◌++◌, map, filter, fold, All, IsTrue, Option, Some, None}
use Rattle.std.specs.List.{list_all}
use Rattle.plan_exact.specs.Words.{WordTree, words, is_before}

-- a makespan and its word, none for the initial schedule
pub record Found : Type 0 where
  pub value : ℕ
  pub word : Option (List ℕ)

-- the initial schedule by its makespan
abbrev pub initial_found : ℕ → Found
initial_found initial = record { value = initial; word = None }

-- the better of the best result so far and a word; the former if they are equal
abbrev pub better : WordTree → Found → List ℕ → Found
better t f w =
    cond (t.full w
    && nat_lt (t.makespan w) f.value) (record { value = t.makespan w; word = Some w }) f

-- the first of least makespan among the best result so far and then the full words of a list
abbrev pub best : WordTree → Found → List (List ℕ) → Found
best t f ws = fold (better t) f ws

-- w is a full word of the list with a makespan below the initial one, and each full word before it
-- has a greater makespan
pub record IsFirstOf (t : WordTree) (initial : ℕ) (ws : List (List ℕ)) (value : ℕ) (w : List ℕ)
    : Type 0 where
  pub below : value < initial
  pub is : value ≡ t.makespan w
  pub full : IsTrue (t.full w)
  pub before : List (List ℕ)
  pub after : List (List ℕ)
  pub split : ws ≡ before ++ w ∷ after
  pub greater : All (λ u. IsTrue (t.full u) → value < t.makespan u) before

-- a makespan is that of the initial schedule or of the first such word
abbrev pub IsTakenFrom : WordTree → ℕ → List (List ℕ) → ℕ → Option (List ℕ) → Type 0
IsTakenFrom t initial ws value None = value ≡ initial
IsTakenFrom t initial ws value (Some w) = IsFirstOf t initial ws value w

-- f is the first of least makespan among the initial schedule and then the full words of a list
pub record IsFirstLeast (t : WordTree) (initial : ℕ) (ws : List (List ℕ)) (f : Found) : Type 0 where
  pub at_most_initial : f.value ≤ initial
  pub at_most_words : All (λ w. IsTrue (t.full w) → f.value ≤ t.makespan w) ws
  pub taken : IsTakenFrom t initial ws f.value f.word

-- the least of the initial makespan and the makespans of all full words before u
unfoldable pub least : WordTree → ℕ → List ℕ → ℕ
least t initial u = (best t (initial_found initial) (filter (λ w. is_before w u) (words t))).value

-- the bound of u is below the least makespan before it, so its children are visited if u is
unfoldable pub is_open : WordTree → ℕ → List ℕ → Bool
is_open t initial u = nat_lt (t.bound u) (least t initial u)

-- the proper prefixes of a word, the shortest first
abbrev pub proper_prefixes : List ℕ → List (List ℕ)
proper_prefixes [] = []
proper_prefixes (a ∷ w) = [] ∷ map (λ u. a ∷ u) (proper_prefixes w)

-- each proper prefix of the word is open
unfoldable pub is_visited : WordTree → ℕ → List ℕ → Bool
is_visited t initial w = list_all (is_open t initial) (proper_prefixes w)

-- the visited words in order
unfoldable pub visited_words : WordTree → ℕ → List (List ℕ)
visited_words t initial = filter (is_visited t initial) (words t)
