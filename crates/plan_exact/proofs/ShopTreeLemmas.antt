-- The tree of a job shop keeps the laws of trees.
use Rattle.std.proofs.Common.{ℕ, ◌≤◌, List, [], ◌∷◌, ◌++◌, Contains, sym, subst, arith}
use Rattle.std.specs.Prelude.{IsTrue}
use Rattle.std.proofs.lemmas.List.Elements.{All-contains}
use Rattle.plan_sgs.specs.Problem.{makespan}
use Rattle.plan_shop.specs.Shop.{JobShop, IsShop, problem_of}
use Rattle.plan_shop.specs.Words.{Follows}
use Rattle.plan_shop.specs.Laws.{placed_in, ShopLettersRise, ShopWordsAreFinite, ShopBoundHolds, WordsReach, Reaches}
use Rattle.plan_shop.proofs.ShopBound.{placed_append, shop_bound_holds}
use Rattle.plan_shop.proofs.WordCount.{letters_rise, words_are_finite}
use Rattle.plan_shop.proofs.WordsReach.{words_reach}
use Rattle.plan_exact.specs.Words.{Continues, words}
use Rattle.plan_exact.specs.Laws.{KeepsLaws, LettersRise, WordsAreFinite, BoundHolds, ListsWords}
use Rattle.plan_exact.specs.ShopTrees.{tree_of, TreeHasWords, ShopTreesKeepLaws, FoundIsShortest}
use Rattle.plan_exact.proofs.WordLemmas.{words_listed}

-- letters that follow a word of the tree follow what the word places
follows_from : (s : JobShop) (u v : List ℕ) → Continues (tree_of s) u v → Follows s (placed_in s u) v
unfolding tree_of
follows_from s u [] c = tt
follows_from s u (a ∷ v) c = (c.0, subst (λ zs. Follows s zs v) (placed_append s [] u (a ∷ [])) (follows_from s (u ++ a ∷ []) v c.1))

-- and the reverse
continues_from : (s : JobShop) (u v : List ℕ) → Follows s (placed_in s u) v → Continues (tree_of s) u v
unfolding tree_of
continues_from s u [] f = tt
continues_from s u (a ∷ v) f = (f.0, continues_from s (u ++ a ∷ []) v (subst (λ zs. Follows s zs v) (sym (placed_append s [] u (a ∷ []))) f.1))

pub tree_has_words : (s : JobShop) → TreeHasWords s
unfolding TreeHasWords
tree_has_words s w = (follows_from s [] w, continues_from s [] w)

pub tree_letters_rise : (s : JobShop) → LettersRise (tree_of s)
unfolding LettersRise tree_of ShopLettersRise
tree_letters_rise s w is = letters_rise s (placed_in s w)

pub tree_words_finite : (s : JobShop) → WordsAreFinite (tree_of s)
unfolding WordsAreFinite tree_of ShopWordsAreFinite
tree_words_finite s w is = words_are_finite s w (follows_from s [] w is)

pub tree_bound_holds : (s : JobShop) → IsShop s → BoundHolds (tree_of s)
unfolding BoundHolds tree_of ShopBoundHolds
tree_bound_holds s shop u v is full = shop_bound_holds s shop u v (follows_from s [] (u ++ v) is) full

-- the tree of every shop keeps the laws of trees
pub keeps_laws : (s : JobShop) → IsShop s → KeepsLaws (tree_of s)
keeps_laws s shop = record { rise = tree_letters_rise s; finite = tree_words_finite s; bounded = tree_bound_holds s shop }

pub shop_trees_keep_laws : ShopTreesKeepLaws
unfolding ShopTreesKeepLaws
shop_trees_keep_laws = keeps_laws

-- the first result of least makespan is at most the makespan of any feasible schedule
pub found_is_shortest : FoundIsShortest
unfolding FoundIsShortest WordsReach tree_of
found_is_shortest s initial f starts shop least feasible =
    let h : Reaches s (makespan (problem_of s) starts) = words_reach s shop starts feasible in
    let listed : ListsWords (tree_of s) (words (tree_of s)) = words_listed (tree_of s) (keeps_laws s shop) in
    let there : Contains (words (tree_of s)) h.word = listed.each h.word (continues_from s [] h.word h.is_word) in
    let most = All-contains (λ w. IsTrue ((tree_of s).full w) → f.value ≤ (tree_of s).makespan w) (words (tree_of s)) h.word least.at_most_words there h.full in
    omega (arith, most, h.makespan)
