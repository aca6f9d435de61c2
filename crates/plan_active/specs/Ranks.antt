-- The choice of a letter that makes no step start later than in a list of starts. Private clauses
-- cite it (docs/definitions.md, "Job shops"; Giffler and Thompson 1960).
use Rattle.std.specs.Prelude.{◌≡◌, ℕ, ◌+◌, ◌-◌, ◌*◌, ◌≤◌, ◌<◌, cond, nat_lt, List, length, get_or, Contains}
use Rattle.plan_shop.specs.Shop.{JobShop, IsShop}
use Rattle.plan_shop.specs.Words.{Placed, next_step, next_end, letters_after, IsWord}
use Rattle.plan_shop.specs.Trees.{Standing, placed}

-- a tree stands at a word of a shop
pub record IsAtWord (t : Standing) : Type 0 where
  pub shop : IsShop t.shop
  pub word : IsWord t.shop t.word

-- the letters that may follow the word of a tree
abbrev pub letters_of : Standing → List ℕ
letters_of t = letters_after t.shop (placed t)

-- the flat number of the next step of each job
pub record AreNextSteps (s : JobShop) (xs : List Placed) (next : List ℕ) : Type 0 where
  pub size : length next ≡ s.jobs
  pub each : (j : ℕ) → j < s.jobs → get_or next j 0 ≡ next_step s xs j

-- the lesser one of a start and an end, in halves. If both are at one instant the end is less.
abbrev pub lesser : ℕ → ℕ → ℕ
lesser start end = cond (nat_lt start end) (2 * start + 1) (2 * end)

-- the rank of a job: the start of its next step in a list, or its end if it is placed now
abbrev pub rank_of : JobShop → List Placed → List ℕ → ℕ → ℕ
rank_of s xs starts j = lesser (get_or starts (next_step s xs j) 0) (next_end s xs j)

-- the rank of a letter
abbrev pub rank_by : Standing → List ℕ → ℕ → ℕ
rank_by t starts letter = rank_of t.shop (placed t) starts (letter - 1)

-- a letter that may follow, of least rank
pub record IsLeastLetter (t : Standing) (starts : List ℕ) (letter : ℕ) : Type 0 where
  pub follows : Contains (letters_of t) letter
  pub least : (other : ℕ) → Contains (letters_of t) other
      → rank_by t starts letter ≤ rank_by t starts other
