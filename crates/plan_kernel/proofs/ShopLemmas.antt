-- The values of a job shop's problem that stand in its input.
use Rattle.std.proofs.Common.{◌≡◌, ◌∙◌, ℕ, suc, ◌+◌, ◌<◌, List, Vec, Some, [], ◌∷◌, ◌++◌, true, false, cond, map, take, drop, set, replicate, sym, ap, arith}
use Rattle.std.specs.List.{slice_get}
use Rattle.std.specs.declared.alloc.Global.{Global}
use Rattle.std.proofs.lemmas.Bool.{cond-true, cond-false}
use Rattle.std.proofs.lemmas.Option.{get_or_from_slice_get, slice_get_within}
use Rattle.std.proofs.lemmas.List.{set_split, take-replicate, drop-replicate, length-replicate, take_more, map_push, append-nil}
use Rattle.plan_orlib.specs.declared.steps.Step.{Step}
use Rattle.plan_shop.specs.Shop as shops
use Rattle.plan_shop.specs.Shop.{JobShop, those_below, step_link, machine_needs}
use Rattle.plan_kernel.specs.declared.input.Arc.{Arc}
use Rattle.plan_kernel.specs.declared.input.Input.{Input}
use Rattle.plan_kernel.specs.Inputs.{problem_of, link_of}
use Rattle.plan_kernel.specs.Shops.{is_followed, next_steps, needs_of_step}

-- zeros with a 1 at a machine
pub row_is : (n m : ℕ) → m < n → set (replicate n 0) m 1 ≡ machine_needs n m
row_is n m inside =
    let zeros : List ℕ = replicate n 0 in
    set_split zeros m 1 (omega (arith, inside, length-replicate {A = ℕ} n 0))
    ∙ ap (λ (xs : List ℕ). xs ++ 1 ∷ drop (suc m) zeros) (take-replicate m n 0 (omega (arith, inside)))
    ∙ ap (λ (xs : List ℕ). replicate m 0 ++ 1 ∷ xs) (drop-replicate (suc m) n 0)

-- a table of the steps has one row more
pub steps_more : {Y : Type 0} (f : Step → Y) (steps : List Step) (i : ℕ) (step : Step) (old new : List Y) → old ≡ map f (take i steps) → slice_get steps i ≡ Some step
    → new ≡ old ++ f step ∷ [] → new ≡ map f (take (i + 1) steps)
steps_more {Y = Y} f steps i step old new before there is =
    let more : take (i + 1) steps ≡ take i steps ++ step ∷ [] =
    take_more steps i step (slice_get_within steps i step there) ∙ ap (λ (w : Step). take i steps ++ w ∷ []) (get_or_from_slice_get steps i step step there) in
    is ∙ ap (λ (xs : List Y). xs ++ f step ∷ []) before ∙ sym (map_push f (take i steps) step) ∙ ap (map f) (sym more)

-- rows of needs, one more
pub needs_more : (f : Step → List ℕ) (steps : List Step) (i : ℕ) (step : Step) (old new : List (Vec ℕ Global)) (made : Vec ℕ Global)
    → map (λ (r : Vec ℕ Global). r.items) old ≡ map f (take i steps) → slice_get steps i ≡ Some step → made.items ≡ f step → new ≡ old ++ made ∷ []
    → map (λ (r : Vec ℕ Global). r.items) new ≡ map f (take (i + 1) steps)
needs_more f steps i step old new made before there same added =
    let items : Vec ℕ Global → List ℕ = λ r. r.items in
    steps_more f steps i step (map items old) (map items new) before there
    (ap (map items) added ∙ map_push items old made ∙ ap (λ (row : List ℕ). map items old ++ row ∷ []) same)

-- a step that is followed, and one that isn't
next_is : (s : JobShop) (x : ℕ) → those_below (x + 1) (is_followed s) ≡ those_below x (is_followed s) ++ cond (is_followed s x) (x ∷ []) []
next_is s x = let same : x + 1 ≡ suc x = omega arith in ap (λ (n : ℕ). those_below n (is_followed s)) same

pub arcs_followed : (s : JobShop) (x : ℕ) (old new : List Arc) (arc : Arc) → map link_of old ≡ map step_link (those_below x (is_followed s)) → is_followed s x ≡ true
    → link_of arc ≡ step_link x → new ≡ old ++ arc ∷ [] → map link_of new ≡ map step_link (those_below (x + 1) (is_followed s))
arcs_followed s x old new arc before followed is added =
    let below : List ℕ = those_below x (is_followed s) in
    ap (map link_of) added ∙ map_push link_of old arc ∙ ap (λ xs. xs ++ link_of arc ∷ []) before ∙ ap (λ l. map step_link below ++ l ∷ []) is
    ∙ sym (map_push step_link below x)
    ∙ ap (map step_link) (sym (next_is s x ∙ ap (λ (xs : List ℕ). below ++ xs) (cond-true (is_followed s x) (x ∷ []) [] followed)))

pub arcs_alone : (s : JobShop) (x : ℕ) (old : List Arc) → map link_of old ≡ map step_link (those_below x (is_followed s)) → is_followed s x ≡ false
    → map link_of old ≡ map step_link (those_below (x + 1) (is_followed s))
arcs_alone s x old before alone =
    let below : List ℕ = those_below x (is_followed s) in
    before ∙ ap (map step_link) (sym (next_is s x ∙ ap (λ (xs : List ℕ). below ++ xs) (cond-false (is_followed s x) (x ∷ []) [] alone) ∙ append-nil below))

-- numbers that are those of a shop describe its problem
pub same_shop : (input : Input) (s : JobShop) → input.durations.items ≡ map (λ (w : Step). w.time) s.steps → map link_of input.arcs.items ≡ map step_link (next_steps s)
    → map (λ (row : Vec ℕ Global). row.items) input.needs.items ≡ map (needs_of_step s) s.steps → input.capacities.items ≡ replicate s.machines 1
    → problem_of input ≡ shops.problem_of s
unfolding problem_of shops.problem_of
same_shop input s durations links needs capacities = cc
