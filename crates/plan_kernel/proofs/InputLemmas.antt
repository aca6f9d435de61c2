-- The values of a problem that stand in its input.
use Rattle.std.proofs.Common.{◌≡◌, ◌∙◌, ℕ, ◌+◌, ◌≤◌, ◌<◌, List, Vec, Some, [], ◌∷◌, ◌++◌, take, map, length, get_or, refl, sym, ap, arith}
use Rattle.std.specs.List.{All, slice_get}
use Rattle.std.proofs.lemmas.Option.{get_or_from_slice_get, slice_get_within}
use Rattle.std.specs.declared.alloc.Global.{Global}
use Rattle.std.proofs.lemmas.List.{get_or-map, get_or_past, get_or_default, length-map, take_more, map-append}
use Rattle.std.proofs.lemmas.List.Elements.{All-map}
use Rattle.plan_sgs.specs.Problem.{Link, count, duration, need, capacity, KeepsArcs}
use Rattle.plan_sgs.specs.Instances as instances
use Rattle.plan_kernel.specs.declared.input.Arc.{Arc}
use Rattle.plan_kernel.specs.declared.input.Input.{Input}
use Rattle.plan_kernel.specs.Inputs.{problem_of, link_of, end_of, KeepsArc}
use Rattle.plan_kernel.specs.Literals.{at}

pub count_is : (input : Input) → count (problem_of input) ≡ length input.durations.items
unfolding problem_of
count_is input = refl

pub duration_is : (input : Input) (i : ℕ) → duration (problem_of input) i ≡ at input.durations.items i
unfolding problem_of
duration_is input i = refl

pub resources_are : (input : Input) → length (problem_of input).capacities ≡ length input.capacities.items
unfolding problem_of
resources_are input = refl

pub capacity_is : (input : Input) (k : ℕ) → capacity (problem_of input) k ≡ at input.capacities.items k
unfolding problem_of
capacity_is input k = refl

-- what an activity that has a row of needs needs
pub need_inside : (input : Input) (i k : ℕ) (row : Vec ℕ Global) → i < length input.needs.items → row ≡ get_or input.needs.items i row
    → need (problem_of input) i k ≡ at row.items k
unfolding problem_of
need_inside input i k row inside is =
    ap (λ (needs : List ℕ). get_or needs k 0)
    (get_or-map (λ (r : Vec ℕ Global). r.items) input.needs.items i row [] inside ∙ ap (λ (r : Vec ℕ Global). r.items) (sym is))

-- without a row an activity needs nothing
pub need_past : (input : Input) (i k : ℕ) → length input.needs.items ≤ i → need (problem_of input) i k ≡ 0
unfolding problem_of
need_past input i k past =
    let rows : List (List ℕ) = map (λ (r : Vec ℕ Global). r.items) input.needs.items in
    let none : get_or rows i [] ≡ [] = get_or_past rows i [] (omega (arith, past, length-map input.needs.items (λ (r : Vec ℕ Global). r.items))) in
    ap (λ (needs : List ℕ). get_or needs k 0) none

-- an end by the numbers
pub end_is : (input : Input) (starts : List ℕ) (i x y : ℕ) → x ≡ at starts i → y ≡ at input.durations.items i → x + y ≡ end_of (problem_of input) starts i
end_is input starts i x y start lasts = omega (arith, start, lasts, duration_is input i)

-- each arc is kept where all links are
pub arc_kept : (input : Input) (starts : List ℕ) (k : ℕ) (d : Arc) → KeepsArcs (problem_of input) starts → k < length input.arcs.items
    → KeepsArc (problem_of input) starts (get_or input.arcs.items k d)
unfolding problem_of
arc_kept input starts k d kept inside =
    let arc : Arc = get_or input.arcs.items k d in
    let same : get_or (map link_of input.arcs.items) k (link_of d) ≡ link_of arc = get_or-map link_of input.arcs.items k d (link_of d) inside in
    let there : k < length (map link_of input.arcs.items) = omega (arith, inside, length-map input.arcs.items link_of) in
    let P : Link → Type 0 = λ a. get_or starts a.from 0 + at input.durations.items a.from + a.lag ≤ get_or starts a.to 0 in
    rw same at (let h : P (get_or (map link_of input.arcs.items) k (link_of d)) = kept k (link_of d) there in h)

-- all links are kept where each arc is
pub arcs_kept : (input : Input) (starts : List ℕ) → All (KeepsArc (problem_of input) starts) input.arcs.items → KeepsArcs (problem_of input) starts
unfolding problem_of
arcs_kept input starts kept =
    All-map (λ (a : Link). get_or starts a.from 0 + get_or input.durations.items a.from 0 + a.lag ≤ get_or starts a.to 0) link_of input.arcs.items kept

-- numbers that are those of an instance describe its problem
pub same_problem : (input : Input) (i : instances.Planned) → input.durations.items ≡ i.project.network.durations
    → map link_of input.arcs.items ≡ map (instances.link_of i.project.network) i.project.network.arcs
    → map (λ (row : Vec ℕ Global). row.items) input.needs.items ≡ i.project.needs
    → input.capacities.items ≡ i.capacities → problem_of input ≡ instances.problem_of i
unfolding problem_of instances.problem_of
same_problem input i durations links needs capacities = cc

-- one row of needs more
pub rows_more : (needs : List (List ℕ)) (i : ℕ) (old new : List (Vec ℕ Global)) (made : Vec ℕ Global) (row : List ℕ)
    → map (λ (r : Vec ℕ Global). r.items) old ≡ take i needs → slice_get needs i ≡ Some row → made.items ≡ row → new ≡ old ++ made ∷ []
    → map (λ (r : Vec ℕ Global). r.items) new ≡ take (i + 1) needs
rows_more needs i old new made row before there same added =
    let f : Vec ℕ Global → List ℕ = λ r. r.items in
    let inside : i < length needs = slice_get_within needs i row there in
    ap (map f) added ∙ map-append f old (made ∷ []) ∙ ap (λ (xs : List (List ℕ)). xs ++ made.items ∷ []) before
    ∙ ap (λ (r : List ℕ). take i needs ++ r ∷ []) (same ∙ sym (get_or_from_slice_get needs i row [] there))
    ∙ sym (take_more needs i [] inside)

-- a capacity at a place, and past all of them
pub capacity_inside : (input : Input) (k x : ℕ) → k < length input.capacities.items → x ≡ get_or input.capacities.items k x → x ≡ capacity (problem_of input) k
unfolding problem_of
capacity_inside input k x inside is = is ∙ get_or_default input.capacities.items k x 0 inside

pub capacity_past : (input : Input) (k : ℕ) → length input.capacities.items ≤ k → capacity (problem_of input) k ≡ 0
unfolding problem_of
capacity_past input k past = get_or_past input.capacities.items k 0 past
