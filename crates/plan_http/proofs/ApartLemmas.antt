-- One desk in a run of connections.
use Rattle.std.proofs.Common.{◌≡◌, ◌⊎◌, true, false, List, [], ◌∷◌, Option, None, Some, inl, inr, refl, sym, ap, ◌∙◌, subst}
use Rattle.std.proofs.lemmas.Bool.{both_ways, or_cases, and_parts}
use Rattle.std.specs.Prelude.{unwrap_or}
use Rattle.plan_rows.specs.World.{Text, World}
use Rattle.plan_rows.specs.Changes.{Change, apply}
use Rattle.plan_rows.specs.Views.{View, view, alone}
use Rattle.plan_desk.specs.Calls.{Call, publish, open_desk, set_key, capacities, plans, import_project, import_shop, remove, bind, set_calendar, set_lag, dates}
use Rattle.plan_desk.specs.Calls.{schedule, chart, days, best, Request, Reply, desk_of, subject, is_publish, admits}
use Rattle.plan_desk.specs.Stories.{names, concerns, belongs}
use Rattle.plan_desk.specs.Decisions.{IsStep, IsDecision}
use Rattle.plan_desk.specs.Promises.{IsPromised, PagesArePromised}
use Rattle.plan_rows.specs.Books.{Shelf}
use Rattle.plan_rows.proofs.OwnerLemmas.{text_from_same}
use Rattle.plan_desk.proofs.SeenLemmas.{view_alone, seen}
use Rattle.plan_desk.proofs.PromiseLemmas.{pages_are_promised}
use Rattle.plan_http.specs.Judges.{asks, Judges}
use Rattle.plan_http.specs.Laws.{OneVerdict}
use Rattle.plan_http.specs.Answers.{Decision, answered, failed, starved, IsOn}
use Rattle.plan_http.specs.Connections.{Moves, Serving}
use Rattle.plan_http.specs.Stories.{belongs_to, IsOutside, AreTold, IsStoryOf}
use Rattle.plan_http.specs.Isolated.{ArePromised, IsToldAlone, ServingUnseen}
use Rattle.plan_http.proofs.LawLemmas.{one_verdict}
use Rattle.plan_http.proofs.StoryLemmas.{story_or_want}
use Rattle.plan_http.proofs.HeadlineLemmas.{served_honest}

-- ---- a step of an office that has the rows of a desk's view alone

-- a step of another office in which the desk sees the same
record IsAlike (desk : Text) (w : World) (r : Request) (reply : Reply) (after : World) : Type 0 where
  other : World
  step : IsStep w r reply other
  alike : view desk other ≡ view desk after

-- a decision in one view is one in another
decided_in : (w : World) (desk : Text) (r : Request) (reply : Reply) (c : Change) (after : World)
    → IsDecision (view (subject r) w) r reply c → after ≡ apply (subject r) c (alone (view desk w)) → IsAlike desk w r reply after
unfolding IsStep IsDecision
decided_in w desk r reply c after h e = record {
  other = apply (subject r) c w;
  step = (c, h, refl);
  alike = seen desk (subject r) c w ∙ ap (view desk) (sym e);
}

-- a call that publishes, or any other
published_or : (desk : Text) (w : World) (key : Option Text) (call : Call) (reply : Reply) (c : Change)
    → is_publish call ≡ true → IsDecision (view (subject (record { key = key; call = call })) (alone (view desk w))) (record { key = key; call = call }) reply c
    → IsDecision (view (subject (record { key = key; call = call })) w) (record { key = key; call = call }) reply c
unfolding IsDecision
published_or desk w key (publish body) reply c e h = h
published_or desk w key (open_desk body) reply c e h = absurd (both_ways false refl e)
published_or desk w key (set_key s body) reply c e h = absurd (both_ways false refl e)
published_or desk w key (capacities s) reply c e h = absurd (both_ways false refl e)
published_or desk w key (plans s) reply c e h = absurd (both_ways false refl e)
published_or desk w key (import_project s body) reply c e h = absurd (both_ways false refl e)
published_or desk w key (import_shop s instance body) reply c e h = absurd (both_ways false refl e)
published_or desk w key (remove s n) reply c e h = absurd (both_ways false refl e)
published_or desk w key (bind s n body) reply c e h = absurd (both_ways false refl e)
published_or desk w key (set_calendar s n body) reply c e h = absurd (both_ways false refl e)
published_or desk w key (set_lag s n body) reply c e h = absurd (both_ways false refl e)
published_or desk w key (dates s n) reply c e h = absurd (both_ways false refl e)
published_or desk w key (schedule s n rule) reply c e h = absurd (both_ways false refl e)
published_or desk w key (chart s n rule) reply c e h = absurd (both_ways false refl e)
published_or desk w key (days s n rule) reply c e h = absurd (both_ways false refl e)
published_or desk w key (best s n budget) reply c e h = absurd (both_ways false refl e)

-- the desk that a call names
pub named_desk : (desk : Text) (o : Option Text) → names desk o ≡ true → unwrap_or o [] ≡ desk
named_desk desk None e = absurd (both_ways false refl e)
named_desk desk (Some t) e = text_from_same t desk e

step_in : (desk : Text) (w : World) (r : Request) (reply : Reply) (after : World) → concerns desk r.call ≡ true
    → IsStep (alone (view desk w)) r reply after → IsAlike desk w r reply after
unfolding IsStep IsDecision
step_in desk w r reply after concerned (c, h, e) = by_concern (or_cases (is_publish r.call) (names desk (desk_of r.call)) concerned)
  where
    by_concern : (is_publish r.call ≡ true) ⊎ (names desk (desk_of r.call) ≡ true) → IsAlike desk w r reply after
    by_concern (inl published) = decided_in w desk r reply c after (published_or desk w r.key r.call reply c published h) e
    by_concern (inr named) =
        let is : subject r ≡ desk = named_desk desk (desk_of r.call) named in
        decided_in w desk r reply c after
        (subst (λ (t : Text). IsDecision (view t w) r reply c) (sym is)
        (subst (λ (v : View). IsDecision v r reply c) (view_alone desk w)
        (subst (λ (t : Text). IsDecision (view t (alone (view desk w))) r reply c) is h))) e

-- ---- the story of a desk, in one office

-- the same in an office in which the desk sees the view
step_seen : (desk : Text) (v : View) (w : World) (r : Request) (reply : Reply) (after : World) → view desk w ≡ v → belongs desk v r ≡ true
    → IsStep (alone v) r reply after → IsAlike desk w r reply after
step_seen desk v w r reply after same inside step =
    step_in desk w r reply after (and_parts (concerns desk r.call) (admits v r) inside).0
    (subst (λ (u : View). IsStep (alone u) r reply after) (sym same) step)

-- the page of a step shows what it promises
promised_step : (w : World) (r : Request) (reply : Reply) (after : World) → IsStep w r reply after → reply.status ≡ 200 → IsPromised (view (subject r) w) r.call reply.body
unfolding IsStep IsDecision PagesArePromised
promised_step w r reply after (change, decided, is) good = pages_are_promised (view (subject r) w) r reply change decided good

replies_in : (desk : Text) (v : View) (w : World) (conns responses story told : List Text) → view desk w ≡ v
    → IsStoryOf desk v conns responses story told → ArePromised w story told
replies_in desk v w [] [] story told same (none, nothing) =
    subst (λ (list : List Text). ArePromised w list told) (sym none) (subst (λ (list : List Text). ArePromised w [] list) (sym nothing) tt)
replies_in desk v w [] (response ∷ responses) story told same h = absurd h
replies_in desk v w (bytes ∷ conns) [] story told same h = absurd h
replies_in desk v w (bytes ∷ conns) (response ∷ responses) story told same (inl (outside, rest)) = replies_in desk v w conns responses story told same rest
replies_in desk v w (bytes ∷ conns) (response ∷ responses) story told same (inr (r, is, (more, others, is_story, is_told, (after, answer, rest)))) =
    let next = step_seen desk v w r answer.reply after same is.inside answer.step in
    subst (λ (list : List Text). ArePromised w list told) (sym is_story) (subst (λ (list : List Text). ArePromised w (bytes ∷ more) list) (sym is_told)
    (r, answer.reply, next.other, is.spelled, next.step, answer.told, (λ good. promised_step w r answer.reply next.other next.step good), replies_in desk (view desk after) next.other conns responses more others next.alike rest))

-- a desk receives the same responses in a run and alone
pub told_alone : (desk : Text) (w : World) (conns responses : List Text) → AreTold desk (view desk w) conns responses
    → IsToldAlone desk (view desk w) conns responses
told_alone desk w conns responses told = elim (story_or_want desk (view desk w) conns responses told) [
  | inl found ↦ inl (found.0, found.1, found.2, replies_in desk (view desk w) (alone (view desk w)) conns responses found.0 found.1 (view_alone desk w) found.2)
  | inr want ↦ inr want
]

-- ---- connections that don't belong to the desk

-- a request whose bytes are outside the desk's story doesn't belong to the desk
pub outside_request : (desk : Text) (v : View) (bytes : Text) (r : Request) → IsOutside desk v bytes → Judges bytes (asks r) → belongs desk v r ≡ false
unfolding OneVerdict
outside_request desk v bytes r outside spelled =
    ap (belongs_to desk v) (one_verdict bytes (asks r) outside.verdict spelled outside.spelled) ∙ outside.outside

module _ {B : Type 0} (shelf : Shelf B) where
  moved_unseen : (desk : Text) (old new : B) (bytes : Text) (d : Decision) → IsOn bytes d → Moves shelf old new d → shelf.honest new
      → shelf.stands new → IsOutside desk (view desk (shelf.world old)) bytes → view desk (shelf.world new) ≡ view desk (shelf.world old)
  moved_unseen desk old new bytes (answered r reply) is_on h honest stands outside =
      h.outside honest stands desk (outside_request desk (view desk (shelf.world old)) bytes r outside is_on)
  moved_unseen desk old new bytes (failed check allow is_head) is_on h honest stands outside = ap (λ (b : B). view desk (shelf.world b)) h
  moved_unseen desk old new bytes starved is_on h honest stands outside = ap (λ (b : B). view desk (shelf.world b)) h

  pub serving_unseen : (desk : Text) (old new : B) (conns : List Text) (decisions : List Decision) → Serving shelf old conns decisions new → shelf.honest new
      → ServingUnseen shelf desk old conns decisions new
  serving_unseen desk old new [] [] h honest = h
  serving_unseen desk old new [] (d ∷ decisions) h honest = absurd h
  serving_unseen desk old new (bytes ∷ conns) [] h honest = absurd h
  serving_unseen desk old new (bytes ∷ conns) (d ∷ decisions) (middle, is_on, moves, rest) honest = (
    middle,
    is_on,
    moves,
    (λ stands outside. moved_unseen desk old middle bytes d is_on moves (served_honest shelf middle new conns decisions rest honest) stands outside),
    serving_unseen desk middle new conns decisions rest honest,
  )
