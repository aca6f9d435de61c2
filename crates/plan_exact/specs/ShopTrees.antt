-- The words of a job shop as a tree of words (docs/definitions.md, "Words", "Job shops").
use Rattle.std.specs.Prelude.{ℕ, ◌*◌, ◌≤◌, List, ◌↔◌}
use Rattle.plan_sgs.specs.Problem.{IsFeasible, makespan}
use Rattle.plan_shop.specs.Shop.{JobShop, IsShop, problem_of}
use Rattle.plan_shop.specs.Words.{letters_after, is_full, makespan_of, IsWord as IsShopWord}
use Rattle.plan_shop.specs.Bound.{bound_of}
use Rattle.plan_shop.specs.Laws.{placed_in}
use Rattle.plan_exact.specs.Words.{WordTree, IsWord, words}
use Rattle.plan_exact.specs.Laws.{KeepsLaws}
use Rattle.plan_exact.specs.Visited.{Found, IsFirstLeast}

-- the words of a shop
unfoldable pub tree_of : JobShop → WordTree
tree_of s = record {
  letters = λ w. letters_after s (placed_in s w);
  bound = λ w. bound_of s (placed_in s w);
  full = λ w. is_full s (placed_in s w);
  makespan = λ w. makespan_of s (placed_in s w);
  depth = s.jobs * s.machines;
}

-- a shop, the current word of its tree, and the number of successful pushes so far
pub record Counted : Type 0 where
  pub shop : JobShop
  pub word : List ℕ
  pub pushes : ℕ

-- the words of the tree are those of the shop
unfoldable pub TreeHasWords : JobShop → Type 0
TreeHasWords s = (w : List ℕ) → IsWord (tree_of s) w ↔ IsShopWord s w

-- the tree of every shop satisfies the laws of trees
unfoldable pub ShopTreesKeepLaws : Type 0
ShopTreesKeepLaws = (s : JobShop) → IsShop s → KeepsLaws (tree_of s)

-- the first word of least makespan among all words has no greater makespan than any feasible
-- schedule
unfoldable pub FoundIsShortest : Type 0
FoundIsShortest =
    (s : JobShop) (initial : ℕ) (f : Found) (starts : List ℕ) → IsShop s
    → IsFirstLeast (tree_of s) initial (words (tree_of s)) f
    → IsFeasible (problem_of s) starts → f.value ≤ makespan (problem_of s) starts
