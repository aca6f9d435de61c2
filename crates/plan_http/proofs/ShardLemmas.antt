-- One office on many servers: a desk's story on its server is its story in the one office.
use Rattle.std.proofs.Common.{◌≡◌, ◌⊎◌, ℕ, Bool, true, false, List, [], ◌∷◌, inl, inr, refl, sym, ap, ◌∙◌, subst}
use Rattle.std.specs.Prelude.{◌&&◌}
use Rattle.std.proofs.lemmas.Bool.{both_ways, or_cases, and_parts}
use Rattle.plan_rows.specs.World.{Text, World}
use Rattle.plan_rows.specs.Rules.{IsWorld}
use Rattle.plan_rows.specs.Views.{View, view, alone}
use Rattle.plan_rows.specs.Books.{Shelf}
use Rattle.plan_desk.specs.Calls.{Call, publish, open_desk, set_key, capacities, plans, import_project, import_shop, remove, bind, set_calendar, set_lag, dates}
use Rattle.plan_desk.specs.Calls.{schedule, chart, days, best, Request, Reply, desk_of, subject, is_publish, is_of_office, admits}
use Rattle.plan_desk.specs.Stories.{names, concerns, belongs}
use Rattle.plan_desk.specs.Decisions.{IsStep}
use Rattle.plan_desk.proofs.LooksLemmas.{SameView, same_from_agree}
use Rattle.plan_desk.proofs.OrderLemmas.{admits_alike, keeps_after, AreAlike, steps_alike}
use Rattle.plan_http.specs.Answers.{answered}
use Rattle.plan_http.specs.Connections.{response_of}
use Rattle.plan_http.specs.Stories.{IsOutside, IsInside, IsAnswered, IsStoryOf}
use Rattle.plan_http.specs.Headline.{ApartRunsAreAlike}
use Rattle.plan_http.specs.Shards.{IsFor, IsShare, ShardsAreOneOffice}
use Rattle.plan_http.proofs.ApartLemmas.{named_desk, outside_request}
use Rattle.plan_http.proofs.StoryLemmas.{one_request}
use Rattle.plan_http.proofs.HeadlineLemmas.{alone_good, apart_runs_are_alike}

-- ---- which connections come to the desk's server

published_for_all : (call : Call) → is_publish call ≡ true → is_of_office call ≡ true
published_for_all (publish body) e = refl
published_for_all (open_desk body) e = absurd (both_ways false refl e)
published_for_all (set_key s body) e = absurd (both_ways false refl e)
published_for_all (capacities s) e = absurd (both_ways false refl e)
published_for_all (plans s) e = absurd (both_ways false refl e)
published_for_all (import_project s body) e = absurd (both_ways false refl e)
published_for_all (import_shop s instance body) e = absurd (both_ways false refl e)
published_for_all (remove s n) e = absurd (both_ways false refl e)
published_for_all (bind s n body) e = absurd (both_ways false refl e)
published_for_all (set_calendar s n body) e = absurd (both_ways false refl e)
published_for_all (set_lag s n body) e = absurd (both_ways false refl e)
published_for_all (dates s n) e = absurd (both_ways false refl e)
published_for_all (schedule s n rule) e = absurd (both_ways false refl e)
published_for_all (chart s n rule) e = absurd (both_ways false refl e)
published_for_all (days s n rule) e = absurd (both_ways false refl e)
published_for_all (best s n budget) e = absurd (both_ways false refl e)

-- a connection that belongs to a desk is for its server
is_for : (server_of : Text → ℕ) (desk : Text) (v : View) (bytes : Text) (r : Request) → IsInside desk v bytes r → IsFor server_of (server_of desk) bytes
is_for server_of desk v bytes r is = record {
  request = r;
  spelled = is.spelled;
  sent = sent (or_cases (is_publish r.call) (names desk (desk_of r.call)) (and_parts (concerns desk r.call) (admits v r) is.inside).0);
}
  where
    sent : (is_publish r.call ≡ true) ⊎ (names desk (desk_of r.call) ≡ true) → (is_of_office r.call ≡ true) ⊎ (server_of (subject r) ≡ server_of desk)
    sent (inl published) = inl (published_for_all r.call published)
    sent (inr named) = inr (ap server_of (named_desk desk (desk_of r.call) named))

-- ---- one connection in two stories

belongs_alike : (desk : Text) (v u : View) (r : Request) → SameView v u → belongs desk v r ≡ belongs desk u r
belongs_alike desk v u r same = ap (λ (b : Bool). concerns desk r.call && b) (admits_alike v u r same)

-- bytes can't be within a story in one view and outside of it in another of the same rows
not_both : (desk : Text) (v u : View) (bytes : Text) (r : Request) → belongs desk u r ≡ belongs desk v r → IsInside desk v bytes r → IsOutside desk u bytes → ⊥
not_both desk v u bytes r same is outside = both_ways (belongs desk u r) (outside_request desk u bytes r outside is.spelled) (same ∙ is.inside)

-- the views behind a connection that is answered in both
both_answered : (desk : Text) (v u : View) (bytes response answer : Text) (r q : Request) (after behind : World)
    → IsWorld (alone v) → IsWorld (alone u) → SameView v u → IsInside desk v bytes r → IsInside desk u bytes q
    → IsAnswered v r response after → IsAnswered u q answer behind
    → IsWorld (alone (view desk after)) × IsWorld (alone (view desk behind)) × SameView (view desk after) (view desk behind) × (answer ≡ response)
unfolding IsStep
both_answered desk v u bytes response answer r q after behind good fine same is also one other =
    let once : r ≡ q = one_request bytes r q is.spelled also.spelled in
    let step : IsStep (alone u) r other.reply behind = subst (λ (x : Request). IsStep (alone u) x other.reply behind) (sym once) other.step in
    let alike : AreAlike desk one.reply other.reply after behind = steps_alike desk v u r one.reply other.reply after behind good fine same one.step step in (
      keeps_after desk v r one.reply after good one.step,
      keeps_after desk u r other.reply behind fine step,
      alike.seen_is,
      other.told ∙ ap (λ (x : Request). response_of (answered x other.reply)) (sym once) ∙ ap (λ (x : Reply). response_of (answered r x)) (sym alike.reply_is) ∙ sym one.told,
    )

-- ---- the two stories

-- a story with its responses, and another one
Same : List Text → List Text → List Text → List Text → Type 0
Same story told mine given = (mine ≡ story) × (given ≡ told)

cons_same : (bytes response answer : Text) (story told mine given more others less fewer : List Text)
    → story ≡ bytes ∷ more → told ≡ response ∷ others → mine ≡ bytes ∷ less → given ≡ answer ∷ fewer → answer ≡ response
    → Same more others less fewer → Same story told mine given
unfolding Same
cons_same bytes response answer story told mine given more others less fewer a b c d e (f, g) = (
  c ∙ ap (λ (list : List Text). bytes ∷ list) f ∙ sym a,
  d ∙ ap (λ (x : Text). x ∷ fewer) e ∙ ap (λ (list : List Text). response ∷ list) g ∙ sym b,
)

-- the facts about the stories after connections that both get
Behind : Text → List Text → List Text → List Text → List Text → Type 0
Behind desk conns responses share answers =
    (v u : View) (story told mine given : List Text) → IsWorld (alone v) → IsWorld (alone u) → SameView v u
    → IsStoryOf desk v conns responses story told → IsStoryOf desk u share answers mine given → Same story told mine given

both_get : (desk : Text) (v u : View) (bytes response answer : Text) (conns responses share answers story told mine given : List Text)
    → IsWorld (alone v) → IsWorld (alone u) → SameView v u → Behind desk conns responses share answers
    → IsStoryOf desk v (bytes ∷ conns) (response ∷ responses) story told → IsStoryOf desk u (bytes ∷ share) (answer ∷ answers) mine given
    → Same story told mine given
unfolding Behind
both_get desk v u bytes response answer conns responses share answers story told mine given good fine same behind (inl (outside, rest)) (inl (also, others)) =
    behind v u story told mine given good fine same rest others
both_get desk v u bytes response answer conns responses share answers story told mine given good fine same behind (inl (outside, rest)) (inr (q, is, others)) =
    absurd (not_both desk u v bytes q (belongs_alike desk v u q same) is outside)
both_get desk v u bytes response answer conns responses share answers story told mine given good fine same behind (inr (r, is, rest)) (inl (outside, others)) =
    absurd (not_both desk v u bytes r (sym (belongs_alike desk v u r same)) is outside)
both_get desk v u bytes response answer conns responses share answers story told mine given good fine same behind
    (inr (r, is, (more, others, a, b, (after, one, rest)))) (inr (q, also, (less, fewer, c, d, (next, other, last)))) =
    let here = both_answered desk v u bytes response answer r q after next good fine same is also one other in
    cons_same bytes response answer story told mine given more others less fewer a b c d here.3
    (behind (view desk after) (view desk next) more others less fewer here.0 here.1 here.2 rest last)

-- the same for any responses to the share
got_by_both : (desk : Text) (v u : View) (bytes response : Text) (conns responses share answers story told mine given : List Text)
    → IsWorld (alone v) → IsWorld (alone u) → SameView v u → ((rest : List Text) → Behind desk conns responses share rest)
    → IsStoryOf desk v (bytes ∷ conns) (response ∷ responses) story told → IsStoryOf desk u (bytes ∷ share) answers mine given
    → Same story told mine given
got_by_both desk v u bytes response conns responses share [] story told mine given good fine same behind h k = absurd k
got_by_both desk v u bytes response conns responses share (answer ∷ answers) story told mine given good fine same behind h k =
    both_get desk v u bytes response answer conns responses share answers story told mine given good fine same (behind answers) h k

one_story : (server_of : Text → ℕ) (desk : Text) (v u : View) (conns responses share answers story told mine given : List Text)
    → IsWorld (alone v) → IsWorld (alone u) → SameView v u → IsShare server_of (server_of desk) conns share
    → IsStoryOf desk v conns responses story told → IsStoryOf desk u share answers mine given → Same story told mine given
unfolding Same Behind
one_story server_of desk v u [] [] share answers story told mine given good fine same none (a, b) h =
    no_more answers (subst (λ (list : List Text). IsStoryOf desk u list answers mine given) none h)
  where
    no_more : (list : List Text) → IsStoryOf desk u [] list mine given → Same story told mine given
    no_more [] (c, d) = (c ∙ sym a, d ∙ sym b)
    no_more (x ∷ rest) h = absurd h
one_story server_of desk v u [] (response ∷ responses) share answers story told mine given good fine same none h k = absurd h
one_story server_of desk v u (bytes ∷ conns) [] share answers story told mine given good fine same shared h k = absurd h
one_story server_of desk v u (bytes ∷ conns) (response ∷ responses) share answers story told mine given good fine same (inl (unsent, shared)) (inl (outside, rest)) k =
    one_story server_of desk v u conns responses share answers story told mine given good fine same shared rest k
one_story server_of desk v u (bytes ∷ conns) (response ∷ responses) share answers story told mine given good fine same (inl (unsent, shared)) (inr (r, is, rest)) k =
    absurd (unsent (is_for server_of desk v bytes r is))
one_story server_of desk v u (bytes ∷ conns) (response ∷ responses) share answers story told mine given good fine same (inr (sent, (more, e, shared))) h k =
    got_by_both desk v u bytes response conns responses more answers story told mine given good fine same
    (λ rest x y a b c d l m alike p q. one_story server_of desk x y conns responses more rest a b c d l m alike shared p q) h
    (subst (λ (list : List Text). IsStoryOf desk u list answers mine given) e k)

pub shards_are_one_office : {A B : Type 0} (one : Shelf A) (other : Shelf B) → ShardsAreOneOffice one other
unfolding ShardsAreOneOffice Same ApartRunsAreAlike
shards_are_one_office one other = λ server_of a left b right conns responses share answers desk shared apart also good fine agree. record {
  alike = apart_runs_are_alike one other a left b right conns responses share answers desk apart also good fine agree;
  same = λ story told mine given h k.
      one_story server_of desk (view desk (one.world a)) (view desk (other.world b)) conns responses share answers story told mine given
      (alone_good desk (one.world a) good) (alone_good desk (other.world b) fine) (same_from_agree (view desk (one.world a)) (view desk (other.world b)) agree) shared h k;
}
