-- Tails as functions of a network: the greatest length among the paths that begin with an activity,
-- all of them listed, and the greatest of all paths (docs/definitions.md, "Words of a project"; the
-- tails of the critical path method, Kelley and Walker 1959).
use Rattle.std.specs.Prelude.{ℕ, zero, suc, max, nat_eq, List, [], ◌∷◌, map, filter, flat_map}
use Rattle.plan_net.specs.Network.{Net, count_of}
use Rattle.plan_net.specs.Path.{path_length}
use Rattle.plan_sgs.specs.Problem.{greatest_below}

-- the activities to which arcs lead from j, in the order of the arcs
abbrev pub successors_of : Net → ℕ → List ℕ
successors_of net j = map (λ arc. arc.1) (filter (λ arc. nat_eq arc.0 j) net.arcs)

-- the continuations of a path after j with at most n arcs
abbrev pub walks_from : Net → ℕ → ℕ → List (List ℕ)
walks_from net zero j = [] ∷ []
walks_from net (suc n) j =
    [] ∷ flat_map (λ k. map (λ others. k ∷ others) (walks_from net n k)) (successors_of net j)

-- the greatest value of f on a list, 0 if it is empty
abbrev pub greatest_of : (List ℕ → ℕ) → List (List ℕ) → ℕ
greatest_of f [] = 0
greatest_of f (x ∷ xs) = max (f x) (greatest_of f xs)

-- the greatest length of a path that begins with j: without a cycle no path has as many arcs as
-- there are activities
unfoldable pub tail_of : Net → ℕ → ℕ
tail_of net j = greatest_of (path_length net j) (walks_from net (count_of net) j)

-- the greatest length of a path
unfoldable pub longest_of : Net → ℕ
longest_of net = greatest_below (count_of net) (λ i. tail_of net (suc i))
