-- The bound of the empty word of a shop is one of all makespans.
use Rattle.std.proofs.Common.{◌≡◌, ℕ, ◌≤◌, List, [], ◌∙◌, ap, arith}
use Rattle.plan_sgs.specs.Problem.{makespan}
use Rattle.plan_shop.specs.Shop.{JobShop, IsShop, problem_of}
use Rattle.plan_shop.specs.Words.{makespan_of}
use Rattle.plan_shop.specs.Bound.{bound_of}
use Rattle.plan_shop.specs.Trees.{Standing, standing, placed}
use Rattle.plan_shop.specs.Laws.{placed_in, ShopBoundHolds, WordsReach, Reaches}
use Rattle.plan_shop.proofs.ShopBound.{shop_bound_holds}
use Rattle.plan_shop.proofs.WordsReach.{words_reach}
use Rattle.plan_active.specs.Bounds.{IsLowerBound}

shop_bound_of_none : (s : JobShop) → IsShop s → IsLowerBound (problem_of s) (bound_of s (placed_in s []))
unfolding ShopBoundHolds WordsReach
shop_bound_of_none s shop starts feasible =
    let h : Reaches s (makespan (problem_of s) starts) = words_reach s shop starts feasible in
    let b : bound_of s (placed_in s []) ≤ makespan_of s (placed_in s h.word) = shop_bound_holds s shop [] h.word h.is_word h.full in
    omega (arith, b, h.makespan)

-- and so is that of a tree which stands at it
pub shop_bound_at_none : (s : JobShop) (t : Standing) (n : ℕ) → IsShop s → t ≡ standing s [] → n ≡ bound_of t.shop (placed t) → IsLowerBound (problem_of s) n
shop_bound_at_none s t n shop t_is n_is starts feasible =
    let e : n ≡ bound_of s (placed_in s []) = n_is ∙ ap (λ u. bound_of u.shop (placed u)) t_is in
    omega (arith, e, shop_bound_of_none s shop starts feasible)
