-- Responses, one after another.
use Rattle.std.proofs.Common.{◌≡◌, suc, List, [], ◌∷◌, ◌++◌, length, map, refl, sym, ap, ◌∙◌, inl, subst, arith, Result, Ok, Err, IfOk}
use Rattle.std.specs.Prelude.{OnErr}
use Rattle.std.proofs.lemmas.List.{take_all}
use Rattle.std.specs.List.{flat_map}
use Rattle.plan_rows.specs.World.{Text}
use Rattle.plan_rows.specs.Books.{Shelf}
use Rattle.plan_http.specs.Answers.{Decision}
use Rattle.plan_http.specs.Connections.{Serving, Stops, response_of}
use Rattle.plan_door.specs.ReplayRun.{responses}

flat : {A : Type 0} (f : A → Text) (xs : List A) → flat_map f xs ≡ flat_map (λ text. text) (map f xs)
flat f [] = refl
flat f (x ∷ xs) = ap (λ more. f x ++ more) (flat f xs)

-- texts that are the responses of decisions, one after another
pub joined_responses : {A : Type 0} (f : A → Text) (xs : List A) (decisions : List Decision) → map f xs ≡ map response_of decisions → flat_map f xs ≡ responses decisions
joined_responses f xs decisions same =
    flat f xs ∙ ap (flat_map (λ text. text)) same ∙ sym (flat response_of decisions)

-- all connections were served
pub all_served : {B : Type 0} (shelf : Shelf B) (old new : B) (conns : List Text) (decisions : List Decision) → Serving shelf old conns decisions new → Stops shelf old new conns decisions
all_served shelf old new conns decisions served = record {
  count = length conns;
  within = omega arith;
  middle = new;
  served = subst (λ cs. Serving shelf old cs decisions new) (sym (take_all (length conns) conns (omega arith))) served;
  last = inl refl;
}

-- the responses to all connections, one after another, if memory suffices
pub joined_all : {B X Y E : Type 0} (shelf : Shelf B) (old new : B) (conns : List Text) (f : X → Text) (g : Y → Text) (out : List X) (decisions : List Decision) (r : Result Y E)
    → Serving shelf old conns decisions new → map f out ≡ map response_of decisions → IfOk r (λ all. g all ≡ flat_map f out)
    → IfOk r (λ all. (decisions : List Decision) × Serving shelf old conns decisions new × (g all ≡ responses decisions))
joined_all shelf old new conns f g out decisions (Ok all) served same is = (decisions, served, is ∙ joined_responses f out decisions same)
joined_all shelf old new conns f g out decisions (Err e) served same is = tt

-- the same if memory runs out
pub joined_none : {B Y E : Type 0} (shelf : Shelf B) (old new : B) (conns : List Text) (decisions : List Decision) (r : Result Y E)
    → Serving shelf old conns decisions new → OnErr r ((decisions : List Decision) × Stops shelf old new conns decisions)
joined_none shelf old new conns decisions (Ok all) served = tt
joined_none shelf old new conns decisions (Err e) served = (decisions, all_served shelf old new conns decisions served)

-- each connection is served by one decision
pub served_each : {B : Type 0} (shelf : Shelf B) (old new : B) (conns : List Text) (decisions : List Decision) → Serving shelf old conns decisions new → length decisions ≡ length conns
served_each shelf old new [] [] served = refl
served_each shelf old new [] (d ∷ decisions) served = absurd served
served_each shelf old new (c ∷ conns) [] served = absurd served
served_each shelf old new (c ∷ conns) (d ∷ decisions) served = ap suc (served_each shelf served.0 new conns decisions served.3)
