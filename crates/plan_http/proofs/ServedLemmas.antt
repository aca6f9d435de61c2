-- Connections that were served are a run of the office.
use Rattle.std.proofs.Common.{◌≡◌, ◌⊎◌, List, [], ◌∷◌, subst, inl, inr}
use Rattle.plan_rows.specs.World.{Text, World}
use Rattle.plan_rows.specs.Views.{view}
use Rattle.plan_rows.specs.Books.{Shelf}
use Rattle.plan_desk.specs.Calls.{Request, Reply}
use Rattle.plan_desk.specs.BookSteps.{Handled}
use Rattle.plan_desk.specs.Stories.{IsWant}
use Rattle.plan_desk.specs.Decisions.{IsStep, IsRealStep, IsRun, AreTold}
use Rattle.plan_desk.specs.Laws.{DesksAreApart}
use Rattle.plan_desk.proofs.LawLemmas.{desks_are_apart}
use Rattle.plan_http.specs.Answers.{Decision, answered, failed, starved, requests_of, replies_of}
use Rattle.plan_http.specs.Connections.{Serving}
use Rattle.plan_http.specs.Laws.{ServingIsRun, ServedDesksAreApart}

-- a step, or a refusal for lack of memory or by the store with unchanged rows, is a real step
real_step : (w : World) (r : Request) (reply : Reply) (after : World) → IsStep w r reply after ⊎ (IsWant reply × (after ≡ w)) → IsRealStep w r reply after
unfolding IsStep IsRealStep
real_step w r reply after real = real

run_none : (w : World) → IsRun w [] [] []
unfolding IsRun
run_none w = tt

run_more : (w : World) (r : Request) (reply : Reply) (after : World) (requests : List Request) (replies : List Reply) (worlds : List World)
    → IsRealStep w r reply after → IsRun after requests replies worlds → IsRun w (r ∷ requests) (reply ∷ replies) (after ∷ worlds)
unfolding IsRun IsRealStep
run_more w r reply after requests replies worlds step rest = (step, rest)

told_of : DesksAreApart → (desk : Text) (w : World) (requests : List Request) (replies : List Reply)
    (worlds : List World) → IsRun w requests replies worlds → AreTold desk (view desk w) requests replies
unfolding DesksAreApart
told_of apart desk w requests replies worlds run = apart desk w requests replies worlds run

module _ {B : Type 0} (shelf : Shelf B) where
  -- the facts about an office before connections were served
  record IsRunFrom (old : B) (decisions : List Decision) : Type 0 where
    honest : shelf.honest old
    stands : shelf.stands old
    worlds : List World
    run : IsRun (shelf.world old) (requests_of decisions) (replies_of decisions) worlds

  handled_step : (old middle : B) (r : Request) (reply : Reply) → Handled shelf old middle r reply → shelf.honest middle → shelf.stands middle
      → IsStep (shelf.world old) r reply (shelf.world middle) ⊎ (IsWant reply × (shelf.world middle ≡ shelf.world old))
  handled_step old middle r reply h honest stands = elim (h.step honest) [
    | inl is ↦ inl is.1
    | inr want ↦ inr (want.0, want.1 stands)
  ]

  run_from : (old new : B) (conns : List Text) (decisions : List Decision) → Serving shelf old conns decisions new → shelf.honest new → shelf.stands new → IsRunFrom old decisions
  run_from old new [] [] served honest stands =
      subst (λ b. IsRunFrom b []) served (record { honest = honest; stands = stands; worlds = []; run = run_none (shelf.world new) })
  run_from old new [] (d ∷ ds) served honest stands = absurd served
  run_from old new (c ∷ cs) [] served honest stands = absurd served
  run_from old new (c ∷ cs) (answered r reply ∷ ds) served honest stands =
      let rest = run_from served.0 new cs ds served.3 honest stands in
      record {
        honest = served.2.honesty rest.honest;
        stands = served.2.stood rest.honest rest.stands;
        worlds = shelf.world served.0 ∷ rest.worlds;
        run = run_more (shelf.world old) r reply (shelf.world served.0) (requests_of ds) (replies_of ds) rest.worlds
            (real_step (shelf.world old) r reply (shelf.world served.0) (handled_step old served.0 r reply served.2 rest.honest rest.stands)) rest.run;
      }
  run_from old new (c ∷ cs) (failed check allow is_head ∷ ds) served honest stands =
      let rest = run_from served.0 new cs ds served.3 honest stands in
      let before : IsRunFrom old ds = subst (λ b. IsRunFrom b ds) served.2 rest in
      record { honest = before.honest; stands = before.stands; worlds = before.worlds; run = before.run }
  run_from old new (c ∷ cs) (starved ∷ ds) served honest stands =
      let rest = run_from served.0 new cs ds served.3 honest stands in
      let before : IsRunFrom old ds = subst (λ b. IsRunFrom b ds) served.2 rest in
      record { honest = before.honest; stands = before.stands; worlds = before.worlds; run = before.run }

  pub serving_is_run : ServingIsRun shelf
  unfolding ServingIsRun
  serving_is_run = λ old new conns decisions served honest stands.
      let whole = run_from old new conns decisions served honest stands in
      (whole.worlds, whole.run)

  pub served_apart : ServedDesksAreApart shelf
  unfolding ServedDesksAreApart
  served_apart = λ old new conns decisions served honest stands desk.
      let whole = run_from old new conns decisions served honest stands in
      told_of desks_are_apart desk (shelf.world old) (requests_of decisions) (replies_of decisions) whole.worlds whole.run
