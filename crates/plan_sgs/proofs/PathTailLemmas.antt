-- The listed walks are all walks, so tails are the greatest lengths of paths; and the greatest
-- number of arcs after an activity ranks it.
use Rattle.std.proofs.Common.{ℕ, zero, suc, Bool, true, false, cond, nat_eq, ◌≡◌, ◌-◌, ◌≤◌, ◌<◌, ◌⊎◌, inl, inr, List, [], ◌∷◌, ◌++◌, length, map, flat_map, refl, sym, ◌∙◌, ap, subst, arith}
use Rattle.std.specs.List.{Contains, filter}
use Rattle.std.proofs.lemmas.Bool.{cases_lt, cond-true, eqb-true, eq-eqb}
use Rattle.plan_net.specs.Network.{Net, count_of, IsArc, IsActivity, IsGreatest}
use Rattle.plan_net.specs.Path.{IsWalk, path_length}
use Rattle.plan_net.specs.Limits.{IsSound}
use Rattle.plan_net.proofs.RowLemmas.{arc_ends}
use Rattle.plan_cpm.specs.Lengths.{IsLength, IsLengthFrom}
use Rattle.plan_cpm.proofs.BoundLemmas.{path_count}
use Rattle.plan_sgs.specs.Problem.{greatest_below, IsRanked}
use Rattle.plan_sgs.specs.Instances.{Planned, problem_of}
use Rattle.plan_sgs.specs.PathTails.{successors_of, walks_from, greatest_of, tail_of, longest_of}
use Rattle.plan_sgs.specs.ProjectLaws.{TailsAreGreatest, LongestIsGreatest}
use Rattle.plan_sgs.proofs.TotalLemmas.{greatest_above, greatest_reached}
use Rattle.plan_sgs.proofs.BoundedLemmas.{links_from}

-- x is in the list, by recursion on the list
abbrev pub Among : {X : Type 0} → List X → X → Type 0
Among [] x = ⊥
Among (y ∷ ys) x = (y ≡ x) ⊎ Among ys x

to_among : {X : Type 0} (xs : List X) (x : X) → Contains xs x → Among xs x
to_among [] x (k, l, e) = omega (arith, l)
to_among (y ∷ ys) x (zero, l, e) = inl e
to_among (y ∷ ys) x (suc k, l, e) = inr (to_among ys x (k, omega (arith, l), e))

from_among : {X : Type 0} (xs : List X) (x : X) → Among xs x → Contains xs x
from_among [] x m = absurd m
from_among (y ∷ ys) x (inl e) = (0, omega arith, e)
from_among (y ∷ ys) x (inr m) = let c = from_among ys x m in (suc c.0, omega (arith, c.1), c.2)

among_map : {X Y : Type 0} (f : X → Y) (xs : List X) (x : X) → Among xs x → Among (map f xs) (f x)
among_map f [] x m = absurd m
among_map f (y ∷ ys) x (inl e) = inl (ap f e)
among_map f (y ∷ ys) x (inr m) = inr (among_map f ys x m)

among_map_in : {X Y : Type 0} (f : X → Y) (xs : List X) (y : Y) → Among (map f xs) y → (x : X) × Among xs x × (f x ≡ y)
among_map_in f [] y m = absurd m
among_map_in f (x ∷ xs) y (inl e) = (x, inl refl, e)
among_map_in f (x ∷ xs) y (inr m) = let rest = among_map_in f xs y m in (rest.0, inr rest.1, rest.2)

among_left : {X : Type 0} (xs ys : List X) (x : X) → Among xs x → Among (xs ++ ys) x
among_left [] ys x m = absurd m
among_left (y ∷ xs) ys x (inl e) = inl e
among_left (y ∷ xs) ys x (inr m) = inr (among_left xs ys x m)

among_right : {X : Type 0} (xs ys : List X) (x : X) → Among ys x → Among (xs ++ ys) x
among_right [] ys x m = m
among_right (y ∷ xs) ys x m = inr (among_right xs ys x m)

among_cases : {X : Type 0} (xs ys : List X) (x : X) → Among (xs ++ ys) x → Among xs x ⊎ Among ys x
among_cases [] ys x m = inr m
among_cases (y ∷ xs) ys x (inl e) = inl (inl e)
among_cases (y ∷ xs) ys x (inr m) = elim (among_cases xs ys x m) [ inl here ↦ inl (inr here) | inr there ↦ inr there ]

among_flat_map : {X Y : Type 0} (f : X → List Y) (xs : List X) (x : X) (y : Y) → Among xs x → Among (f x) y → Among (flat_map f xs) y
among_flat_map f [] x y m n = absurd m
among_flat_map {Y = Y} f (z ∷ xs) x y (inl e) n = among_left (f z) (flat_map f xs) y (subst (λ v. Among (f v) y) (sym e) n)
among_flat_map f (z ∷ xs) x y (inr m) n = among_right (f z) (flat_map f xs) y (among_flat_map f xs x y m n)

among_flat_map_in : {X Y : Type 0} (f : X → List Y) (xs : List X) (y : Y) → Among (flat_map f xs) y → (x : X) × Among xs x × Among (f x) y
among_flat_map_in f [] y m = absurd m
among_flat_map_in f (x ∷ xs) y m = elim (among_cases (f x) (flat_map f xs) y m) [
  | inl here ↦ (x, inl refl, here)
  | inr there ↦ let rest = among_flat_map_in f xs y there in (rest.0, inr rest.1, rest.2)
]

-- the successors in a list of arcs
abbrev pub ends_from : List (ℕ × ℕ) → ℕ → List ℕ
ends_from arcs j = map (λ arc. arc.1) (filter (λ arc. nat_eq arc.0 j) arcs)

ends_there : (arcs : List (ℕ × ℕ)) (j k : ℕ) → Among arcs (j, k) → Among (ends_from arcs j) k
ends_there [] j k m = absurd m
ends_there (arc ∷ arcs) j k (inl e) =
    let first : nat_eq arc.0 j ≡ true = eq-eqb arc.0 j (ap (λ (a : ℕ × ℕ). a.0) e) in
    let kept : filter (λ arc. nat_eq arc.0 j) (arc ∷ arcs) ≡ arc ∷ filter (λ arc. nat_eq arc.0 j) arcs =
    cond-true (nat_eq arc.0 j) (arc ∷ filter (λ arc. nat_eq arc.0 j) arcs) (filter (λ arc. nat_eq arc.0 j) arcs) first in
    subst (λ (xs : List (ℕ × ℕ)). Among (map (λ (a : ℕ × ℕ). a.1) xs) k) (sym kept) (inl (ap (λ (a : ℕ × ℕ). a.1) e))
ends_there (arc ∷ arcs) j k (inr m) = by_test (nat_eq arc.0 j) (ends_there arcs j k m) where
  by_test : (b : Bool) → Among (ends_from arcs j) k → Among (map (λ (a : ℕ × ℕ). a.1) (cond b (arc ∷ filter (λ arc. nat_eq arc.0 j) arcs) (filter (λ arc. nat_eq arc.0 j) arcs))) k
  by_test true later = inr later
  by_test false later = later

ends_in : (arcs : List (ℕ × ℕ)) (j k : ℕ) → Among (ends_from arcs j) k → Among arcs (j, k)
ends_in [] j k m = absurd m
ends_in (arc ∷ arcs) j k m = by_test (nat_eq arc.0 j) refl (ends_in arcs j k) m where
  by_test : (b : Bool) → nat_eq arc.0 j ≡ b → (Among (ends_from arcs j) k → Among arcs (j, k))
      → Among (map (λ (a : ℕ × ℕ). a.1) (cond b (arc ∷ filter (λ arc. nat_eq arc.0 j) arcs) (filter (λ arc. nat_eq arc.0 j) arcs))) k → Among (arc ∷ arcs) (j, k)
  by_test true is later (inl e) =
      let from : arc.0 ≡ j = eqb-true arc.0 j is in
      inl (ap (λ (x : ℕ). let pair : ℕ × ℕ = (x, arc.1) in pair) from ∙ ap (λ (x : ℕ). let pair : ℕ × ℕ = (j, x) in pair) e)
  by_test true is later (inr n) = inr (later n)
  by_test false is later n = inr (later n)

-- each listed walk is one
walk_in : (net : Net) (n j : ℕ) (others : List ℕ) → Among (walks_from net n j) others → IsWalk net j others
walk_in net zero j others (inl none) = subst (IsWalk net j) none tt
walk_in net zero j others (inr m) = absurd m
walk_in net (suc n) j others (inl none) = subst (IsWalk net j) none tt
walk_in net (suc n) j others (inr m) =
    let step = among_flat_map_in (λ k. map (λ rest. k ∷ rest) (walks_from net n k)) (successors_of net j) others m in
    let tail = among_map_in (λ rest. step.0 ∷ rest) (walks_from net n step.0) others step.2 in
    subst (IsWalk net j) tail.2 (from_among net.arcs (j, step.0) (ends_in net.arcs j step.0 step.1), walk_in net n step.0 tail.0 tail.1)

-- each walk with at most n arcs is listed
walk_there : (net : Net) (n j : ℕ) (others : List ℕ) → IsWalk net j others → length others ≤ n → Among (walks_from net n j) others
walk_there net zero j [] walk short = inl refl
walk_there net zero j (k ∷ others) walk short = absurd (omega (arith, short))
walk_there net (suc n) j [] walk short = inl refl
walk_there net (suc n) j (k ∷ others) (arc, walk) short =
    inr (among_flat_map (λ k. map (λ rest. k ∷ rest) (walks_from net n k)) (successors_of net j) k (k ∷ others) (ends_there net.arcs j k (to_among net.arcs (j, k) arc))
    (among_map (λ rest. k ∷ rest) (walks_from net n k) others (walk_there net n k others walk (omega (arith, short)))))

-- the greatest of a list is above none, and reached
greatest_of_above : (f : List ℕ → ℕ) (xs : List (List ℕ)) (x : List ℕ) → Among xs x → f x ≤ greatest_of f xs
greatest_of_above f [] x m = absurd m
greatest_of_above f (y ∷ ys) x (inl e) = omega (arith, ap f e)
greatest_of_above f (y ∷ ys) x (inr m) = omega (arith, greatest_of_above f ys x m)

greatest_of_reached : (f : List ℕ → ℕ) (x : List ℕ) (xs : List (List ℕ)) → (y : List ℕ) × Among (x ∷ xs) y × (greatest_of f (x ∷ xs) ≡ f y)
greatest_of_reached f x [] = (x, inl refl, omega arith)
greatest_of_reached f x (z ∷ zs) = by_order (greatest_of_reached f z zs) where
  by_order : (y : List ℕ) × Among (z ∷ zs) y × (greatest_of f (z ∷ zs) ≡ f y) → (y : List ℕ) × Among (x ∷ z ∷ zs) y × (greatest_of f (x ∷ z ∷ zs) ≡ f y)
  by_order (y, m, is) = by_case (cases_lt (f x) (f y)) where
    by_case : (f x < f y) ⊎ (f y ≤ f x) → (y : List ℕ) × Among (x ∷ z ∷ zs) y × (greatest_of f (x ∷ z ∷ zs) ≡ f y)
    by_case (inr low) = (x, inl refl, omega (arith, is, low))
    by_case (inl high) = (y, inr m, omega (arith, is, high))

-- the greatest of f on the walks from an activity
walks_reached : (net : Net) (f : List ℕ → ℕ) (n j : ℕ) → (others : List ℕ) × IsWalk net j others × (greatest_of f (walks_from net n j) ≡ f others)
walks_reached net f zero j = let top = greatest_of_reached f [] [] in (top.0, walk_in net 0 j top.0 top.1, top.2)
walks_reached net f (suc n) j =
    let top = greatest_of_reached f [] (flat_map (λ k. map (λ rest. k ∷ rest) (walks_from net n k)) (successors_of net j)) in
    (top.0, walk_in net (suc n) j top.0 top.1, top.2)

walks_above : (net : Net) (f : List ℕ → ℕ) (j : ℕ) (others : List ℕ) → IsSound net → IsActivity net j → IsWalk net j others → f others ≤ greatest_of f (walks_from net (count_of net) j)
walks_above net f j others sound activity walk = greatest_of_above f (walks_from net (count_of net) j) others
    (walk_there net (count_of net) j others walk (omega
    (arith, path_count net j others sound (activity, walk))))

-- tails are the greatest lengths of the paths that begin with each activity
pub tails_are_greatest : TailsAreGreatest
unfolding TailsAreGreatest tail_of
tails_are_greatest net j sound activity =
    let top = walks_reached net (path_length net j) (count_of net) j in
    ((top.0, (activity, top.1), sym top.2), λ v (others, path, is). omega (arith, is, walks_above net (path_length net j) j others sound activity path.1))

pub longest_is_greatest : LongestIsGreatest
unfolding LongestIsGreatest longest_of
longest_is_greatest net sound = (
  reached,
  λ v (i, others, path, is).
      let below : path_length net i others ≤ tail_of net i = (tail i path.0).1 (path_length net i others) (others, path, refl) in
      let number : suc (i - 1) ≡ i = omega (arith, path.0) in
      let here : tail_of net (suc (i - 1)) ≤ greatest_below (count_of net) (λ h. tail_of net (suc h)) = greatest_above (count_of net) (λ h. tail_of net (suc h)) (i - 1) (omega (arith, path.0)) in
      omega (arith, is, below, here, ap (tail_of net) number),
) where
  tail : (j : ℕ) → IsActivity net j → IsGreatest (IsLengthFrom net j) (tail_of net j)
  tail j activity = unfold TailsAreGreatest in tails_are_greatest net j sound activity

  reached : IsLength net (greatest_below (count_of net) (λ i. tail_of net (suc i)))
  reached =
      let top = greatest_reached (count_of net) (λ i. tail_of net (suc i)) (omega (arith, sound.limits.size.0)) in
      let path = (tail (suc top.0) (omega arith, omega (arith, top.1))).0 in
      (suc top.0, path.0, path.1, path.2 ∙ sym top.2)

-- the greatest number of arcs after an activity, by its index
arcs_after : Net → ℕ → ℕ
arcs_after net j = greatest_of (λ others. length others) (walks_from net (count_of net) j)

-- the rank of an activity by its place
pub rank_by : Net → ℕ → ℕ
rank_by net h = count_of net - arcs_after net (suc h)

arcs_few : (net : Net) (j : ℕ) → IsSound net → IsActivity net j → arcs_after net j < count_of net
unfolding arcs_after
arcs_few net j sound activity =
    let top = walks_reached net (λ others. length others) (count_of net) j in
    omega (arith, top.2, path_count net j top.0 sound (activity, top.1))

arcs_fall : (net : Net) (a b : ℕ) → IsSound net → IsArc net a b → arcs_after net b < arcs_after net a
unfolding arcs_after
arcs_fall net a b sound arc =
    let ends = arc_ends net a b sound.limits arc in
    let top = walks_reached net (λ others. length others) (count_of net) b in
    let above : length (b ∷ top.0) ≤ greatest_of (λ others. length others) (walks_from net (count_of net) a) = walks_above net (λ others. length others) a (b ∷ top.0) sound ends.0 (arc, top.1) in
    omega (arith, top.2, above)

-- links lead from lesser ranks to greater ones
pub ranked : (i : Planned) → IsSound i.project.network → IsRanked (problem_of i) (rank_by i.project.network)
unfolding rank_by
ranked i sound = links_from i (λ a. rank_by i.project.network a.from < rank_by i.project.network a.to) (λ a b arc.
    let net = i.project.network in
    let ends = arc_ends net a b sound.limits arc in
    let from_number : suc (a - 1) ≡ a = omega (arith, ends.0) in
    let to_number : suc (b - 1) ≡ b = omega (arith, ends.1) in
    omega (arith, arcs_fall net a b sound arc, arcs_few net a sound ends.0, ap (arcs_after net) from_number, ap (arcs_after net) to_number))
