-- From connections to requests, and back.
use Rattle.std.proofs.Common.{◌≡◌, ◌⊎◌, Bool, true, List, [], ◌∷◌, map, Option, inl, inr, refl, sym, ap, ◌∙◌, subst}
use Rattle.plan_rows.specs.World.{Text, World}
use Rattle.plan_rows.specs.Views.{View, view, alone, Agree}
use Rattle.plan_desk.specs.Calls.{Request, Reply}
use Rattle.plan_desk.specs.Stories.{belongs, IsWant}
use Rattle.plan_desk.specs.Decisions.{IsStep, IsRealStep, IsRun}
use Rattle.plan_desk.specs.Decisions as desks
use Rattle.plan_rows.specs.Rules.{IsWorld}
use Rattle.plan_desk.specs.Laws.{DesksAreApart, AgreeingViewsAreToldAlike}
use Rattle.plan_desk.proofs.LawLemmas.{desks_are_apart}
use Rattle.plan_desk.proofs.OrderLemmas.{agreeing_views_are_told_alike}
use Rattle.plan_http.specs.declared.checks.Check.{Check}
use Rattle.plan_http.specs.Head.{after_head}
use Rattle.plan_http.specs.Judges.{Verdict, asks, fails, verdict_of, Judges, MayWant}
use Rattle.plan_http.specs.Laws.{OneVerdict}
use Rattle.plan_http.specs.Answers.{Decision, answered, failed, starved, IsOn, no_memory}
use Rattle.plan_http.specs.Connections.{response_of}
use Rattle.plan_http.specs.Served.{IsMove, AreServed}
use Rattle.plan_http.specs.Stories.{IsWantText, IsInside, IsAnswered, AreTold, IsStoryOf, IsWanting, SpellTheSame}
use Rattle.plan_http.proofs.LawLemmas.{one_verdict}

-- a response is that of a reply to a request, or both are refusals for lack of memory or by the
-- store
abbrev IsToldAs : Text → Request → Reply → Type 0
IsToldAs response r reply = (response ≡ response_of (answered r reply)) ⊎ (IsWant reply × IsWantText response)

-- connections spell these requests, in order, and the responses are those of the replies
Spelled : List Text → List Text → List Request → List Reply → Type 0
Spelled [] [] requests replies = Unit {0}
Spelled (bytes ∷ conns) (response ∷ responses) requests replies =
    ((check : Check) × (allow : Option Text) × (is_head : Bool) × Judges bytes (fails check allow is_head) × Spelled conns responses requests replies)
    ⊎ ((r : Request) × (reply : Reply) × (more : List Request) × (others : List Reply) × (requests ≡ r ∷ more) × (replies ≡ reply ∷ others)
    × Judges bytes (asks r) × IsToldAs response r reply × Spelled conns responses more others)
Spelled conns responses requests replies = ⊥

-- the run of requests in a run of connections
record HasRun (w : World) (conns responses : List Text) : Type 0 where
  requests : List Request
  replies : List Reply
  worlds : List World
  run : IsRun w requests replies worlds
  spelled : Spelled conns responses requests replies

-- one request more at the front
with_request : (w mid : World) (bytes response : Text) (conns responses : List Text) (r : Request) (reply : Reply)
    → Judges bytes (asks r) → IsRealStep w r reply mid → IsToldAs response r reply → HasRun mid conns responses
    → HasRun w (bytes ∷ conns) (response ∷ responses)
unfolding IsRun IsRealStep Spelled
with_request w mid bytes response conns responses r reply spells step told rest = record {
  requests = r ∷ rest.requests;
  replies = reply ∷ rest.replies;
  worlds = mid ∷ rest.worlds;
  run = (step, rest.run);
  spelled = inr (r, reply, rest.requests, rest.replies, refl, refl, spells, told, rest.spelled);
}

-- a connection on which a check fails
with_failure : (w mid : World) (bytes response : Text) (conns responses : List Text) (check : Check) (allow : Option Text) (is_head : Bool)
    → Judges bytes (fails check allow is_head) → mid ≡ w → HasRun mid conns responses → HasRun w (bytes ∷ conns) (response ∷ responses)
unfolding Spelled
with_failure w mid bytes response conns responses check allow is_head spells same rest =
    subst (λ (u : World). HasRun u (bytes ∷ conns) (response ∷ responses)) same (record {
      requests = rest.requests;
      replies = rest.replies;
      worlds = rest.worlds;
      run = rest.run;
      spelled = inl (check, allow, is_head, spells, rest.spelled);
    })

-- a connection on which memory ran out, whatever it spells
with_starved : (w mid : World) (bytes : Text) (conns responses : List Text) (verdict : Verdict)
    → Judges bytes verdict → mid ≡ w → HasRun mid conns responses → HasRun w (bytes ∷ conns) (response_of starved ∷ responses)
unfolding IsRealStep
with_starved w mid bytes conns responses (asks r) spells same rest =
    with_request w mid bytes (response_of starved) conns responses r no_memory spells (inr (inl refl, same)) (inr (inl refl, inl refl)) rest
with_starved w mid bytes conns responses (fails check allow head) spells same rest =
    with_failure w mid bytes (response_of starved) conns responses check allow head spells same rest

-- a connection that may need memory has a verdict
spells_some : (bytes : Text) → MayWant bytes → (verdict : Verdict) × Judges bytes verdict
spells_some bytes want = (verdict_of want.head (after_head bytes want.head), inl (want.head, want.begins, refl))

one_more : (w mid : World) (bytes : Text) (conns responses : List Text) (d : Decision)
    → IsOn bytes d → IsMove w d mid → HasRun mid conns responses → HasRun w (bytes ∷ conns) (response_of d ∷ responses)
one_more w mid bytes conns responses (answered r reply) spells step rest =
    with_request w mid bytes (response_of (answered r reply)) conns responses r reply spells step (inl refl) rest
one_more w mid bytes conns responses (failed check allow is_head) spells same rest =
    with_failure w mid bytes (response_of (failed check allow is_head)) conns responses check allow is_head spells same rest
one_more w mid bytes conns responses starved want same rest =
    let said = spells_some bytes want in with_starved w mid bytes conns responses said.0 said.1 same rest

-- a run of connections is one of requests
has_run : (w : World) (conns : List Text) (decisions : List Decision) (after : World) → AreServed w conns decisions after → HasRun w conns (map response_of decisions)
unfolding IsRun Spelled
has_run w [] [] after h = record { requests = []; replies = []; worlds = []; run = tt; spelled = tt }
has_run w [] (d ∷ decisions) after h = absurd h
has_run w (bytes ∷ conns) [] after h = absurd h
has_run w (bytes ∷ conns) (d ∷ decisions) after (mid, is_on, move, rest) =
    one_more w mid bytes conns (map response_of decisions) d is_on move (has_run mid conns decisions after rest)

-- a reply that refuses for lack of memory or by the store has such a response
want_text : (r : Request) (reply : Reply) (response : Text) → IsWant reply → IsToldAs response r reply → IsWantText response
want_text r reply response want (inl told) = inr (r, reply, want, told)
want_text r reply response want (inr (same, text)) = text

-- the responses from a request that belongs to the desk on, from those after it
told_inside : (desk : Text) (v : View) (bytes response : Text) (conns responses : List Text) (r : Request) (reply : Reply) (after : World)
    → Judges bytes (asks r) → belongs desk v r ≡ true → IsStep (alone v) r reply after → AreTold desk (view desk after) conns responses
    → IsToldAs response r reply → AreTold desk v (bytes ∷ conns) (response ∷ responses)
told_inside desk v bytes response conns responses r reply after spells inside step next (inl same) =
    inr (r, record { spelled = spells; inside = inside }, inr (after, record { reply = reply; step = step; told = same }, next))
told_inside desk v bytes response conns responses r reply after spells inside step next (inr (want, text)) =
    inr (r, record { spelled = spells; inside = inside }, inl text)

-- the responses from a connection with a request on, from those after it
told_first : (desk : Text) (v : View) (bytes response : Text) (conns responses : List Text) (r : Request) (reply : Reply) (more : List Request) (others : List Reply)
    → Judges bytes (asks r) → IsToldAs response r reply
    → ((u : View) → desks.AreTold desk u more others → AreTold desk u conns responses)
    → desks.AreTold desk v (r ∷ more) (reply ∷ others) → AreTold desk v (bytes ∷ conns) (response ∷ responses)
unfolding desks.AreTold IsStep
told_first desk v bytes response conns responses r reply more others spells alike behind (inl (outside, next)) =
    inl (record { verdict = asks r; spelled = spells; outside = outside }, behind v next)
told_first desk v bytes response conns responses r reply more others spells alike behind (inr (inside, inl want)) =
    inr (r, record { spelled = spells; inside = inside }, inl (want_text r reply response want alike))
told_first desk v bytes response conns responses r reply more others spells alike behind (inr (inside, inr (after, step, next))) =
    told_inside desk v bytes response conns responses r reply after spells inside step (behind (view desk after) next) alike

-- connections receive the responses of the replies to the requests that they spell
lifted : (desk : Text) (conns responses : List Text) (requests : List Request) (replies : List Reply) → Spelled conns responses requests replies
    → (v : View) → desks.AreTold desk v requests replies → AreTold desk v conns responses
unfolding Spelled
lifted desk [] [] requests replies spelled v told = tt
lifted desk [] (response ∷ responses) requests replies spelled v told = absurd spelled
lifted desk (bytes ∷ conns) [] requests replies spelled v told = absurd spelled
lifted desk (bytes ∷ conns) (response ∷ responses) requests replies (inl (check, allow, is_head, spells, rest)) v told =
    inl (record { verdict = fails check allow is_head; spelled = spells; outside = refl }, lifted desk conns responses requests replies rest v told)
lifted desk (bytes ∷ conns) (response ∷ responses) requests replies (inr (r, reply, more, others, is_r, is_reply, spells, alike, rest)) v told =
    told_first desk v bytes response conns responses r reply more others spells alike (λ u next. lifted desk conns responses more others rest u next)
    (subst (λ (list : List Reply). desks.AreTold desk v (r ∷ more) list) is_reply (subst (λ (list : List Request). desks.AreTold desk v list replies) is_r told))

-- in each run of connections a desk receives the responses that its story receives in an office
-- with its rows alone
pub connections_are_apart : (desk : Text) (w : World) (conns : List Text) (decisions : List Decision) (after : World)
    → AreServed w conns decisions after → AreTold desk (view desk w) conns (map response_of decisions)
unfolding DesksAreApart
connections_are_apart desk w conns decisions after served =
    let run = has_run w conns decisions after served in
    lifted desk conns (map response_of decisions) run.requests run.replies run.spelled (view desk w)
    (desks_are_apart desk w run.requests run.replies run.worlds run.run)

-- ---- two runs

-- connections of a story spell these requests
Spells : List Text → List Request → Type 0
Spells [] [] = Unit {0}
Spells (bytes ∷ story) (r ∷ requests) = Judges bytes (asks r) × Spells story requests
Spells story requests = ⊥

-- the responses of replies to requests
texts_of : List Request → List Reply → List Text
texts_of (r ∷ requests) (reply ∷ replies) = response_of (answered r reply) ∷ texts_of requests replies
texts_of requests replies = []

-- the requests of a story, and the replies to them
record HasRequests (desk : Text) (v : View) (story told : List Text) : Type 0 where
  requests : List Request
  replies : List Reply
  told_so : desks.IsStoryOf desk v requests replies requests replies
  spelled : Spells story requests
  texts : told ≡ texts_of requests replies

-- one connection more at the front of a story
inside_first : (desk : Text) (v : View) (bytes response : Text) (more others : List Text) (r : Request) (after : World)
    → IsInside desk v bytes r → IsAnswered v r response after → HasRequests desk (view desk after) more others
    → HasRequests desk v (bytes ∷ more) (response ∷ others)
unfolding desks.IsStoryOf IsStep Spells texts_of
inside_first desk v bytes response more others r after is answer rest = record {
  requests = r ∷ rest.requests;
  replies = answer.reply ∷ rest.replies;
  told_so = inr (is.inside, (rest.requests, rest.replies, refl, refl, (after, answer.step, rest.told_so)));
  spelled = (is.spelled, rest.spelled);
  texts = ap (λ (t : Text). t ∷ others) answer.told ∙ ap (λ (list : List Text). response_of (answered r answer.reply) ∷ list) rest.texts;
}

has_requests : (desk : Text) (v : View) (conns responses story told : List Text) → IsStoryOf desk v conns responses story told → HasRequests desk v story told
unfolding desks.IsStoryOf Spells texts_of
has_requests desk v [] [] story told (none, nothing) =
    subst (λ (list : List Text). HasRequests desk v list told) (sym none)
    (subst (λ (list : List Text). HasRequests desk v [] list) (sym nothing)
    (record { requests = []; replies = []; told_so = (refl, refl); spelled = tt; texts = refl }))
has_requests desk v [] (response ∷ responses) story told h = absurd h
has_requests desk v (bytes ∷ conns) [] story told h = absurd h
has_requests desk v (bytes ∷ conns) (response ∷ responses) story told (inl (outside, rest)) = has_requests desk v conns responses story told rest
has_requests desk v (bytes ∷ conns) (response ∷ responses) story told (inr (r, is, (more, others, is_story, is_told, (after, answer, rest)))) =
    subst (λ (list : List Text). HasRequests desk v list told) (sym is_story) (subst (λ (list : List Text). HasRequests desk v (bytes ∷ more) list) (sym is_told)
    (inside_first desk v bytes response more others r after is answer (has_requests desk (view desk after) conns responses more others rest)))

-- the request of a verdict
asked_or : Request → Verdict → Request
asked_or other (asks r) = r
asked_or other (fails check allow is_head) = other

-- bytes spell one request
pub one_request : (bytes : Text) (r q : Request) → Judges bytes (asks r) → Judges bytes (asks q) → r ≡ q
unfolding OneVerdict asked_or
one_request bytes r q h k = ap (asked_or r) (one_verdict bytes (asks r) (asks q) h k)

-- the connections of a story spell one list of requests
spelled_once : (story : List Text) (requests others : List Request) → Spells story requests → Spells story others → requests ≡ others
unfolding Spells
spelled_once [] [] [] h k = refl
spelled_once [] [] (q ∷ others) h k = absurd k
spelled_once [] (r ∷ requests) others h k = absurd h
spelled_once (bytes ∷ story) [] others h k = absurd h
spelled_once (bytes ∷ story) (r ∷ requests) [] h k = absurd k
spelled_once (bytes ∷ story) (r ∷ requests) (q ∷ others) h k =
    ap (λ (x : Request). x ∷ requests) (one_request bytes r q h.0 k.0) ∙ ap (λ (list : List Request). q ∷ list) (spelled_once story requests others h.1 k.1)

-- two stories that spell the same requests spell one list of requests
spelled_the_same : (story tale : List Text) (requests others : List Request) → SpellTheSame story tale → Spells story requests → Spells tale others → requests ≡ others
unfolding Spells
spelled_the_same [] [] [] [] same h k = refl
spelled_the_same [] [] [] (q ∷ others) same h k = absurd k
spelled_the_same [] [] (r ∷ requests) others same h k = absurd h
spelled_the_same [] (other ∷ tale) requests others same h k = absurd same
spelled_the_same (bytes ∷ story) [] requests others same h k = absurd same
spelled_the_same (bytes ∷ story) (other ∷ tale) [] others same h k = absurd h
spelled_the_same (bytes ∷ story) (other ∷ tale) (r ∷ requests) [] same h k = absurd k
spelled_the_same (bytes ∷ story) (other ∷ tale) (r ∷ requests) (q ∷ others) ((x, is, also), same) h k =
    let here : r ≡ q = one_request bytes r x h.0 is ∙ one_request other x q also k.0 in
    ap (λ (y : Request). y ∷ requests) here ∙ ap (λ (list : List Request). q ∷ list) (spelled_the_same story tale requests others same h.1 k.1)

-- the same requests receive the same responses in views that agree, whatever other connections come
-- before or between
told_alike_by : (desk : Text) (v u : View) (conns responses others answers story tale told given : List Text)
    → IsWorld (alone v) → IsWorld (alone u) → Agree v u
    → ((requests rest : List Request) → Spells story requests → Spells tale rest → requests ≡ rest)
    → IsStoryOf desk v conns responses story told → IsStoryOf desk u others answers tale given → told ≡ given
unfolding AgreeingViewsAreToldAlike
told_alike_by desk v u conns responses others answers story tale told given good fine agree once h k =
    let a = has_requests desk v conns responses story told h in
    let b = has_requests desk u others answers tale given k in
    let same : a.requests ≡ b.requests = once a.requests b.requests a.spelled b.spelled in
    let first : desks.IsStoryOf desk v a.requests a.replies b.requests a.replies =
    subst (λ (list : List Request). desks.IsStoryOf desk v a.requests a.replies list a.replies) same a.told_so in
    let alike : a.replies ≡ b.replies =
    agreeing_views_are_told_alike desk v u a.requests a.replies b.requests b.replies b.requests a.replies b.replies good fine agree first b.told_so in
    a.texts ∙ ap (λ (list : List Request). texts_of list a.replies) same ∙ ap (λ (list : List Reply). texts_of b.requests list) alike ∙ sym b.texts

-- a story receives the same responses in views that agree, whatever other connections come before
-- or between
pub connections_are_told_alike : (desk : Text) (v u : View) (conns responses others answers story told given : List Text)
    → IsWorld (alone v) → IsWorld (alone u) → Agree v u
    → IsStoryOf desk v conns responses story told → IsStoryOf desk u others answers story given → told ≡ given
connections_are_told_alike desk v u conns responses others answers story told given good fine agree h k =
    told_alike_by desk v u conns responses others answers story story told given good fine agree
    (λ requests rest p q. spelled_once story requests rest p q) h k

-- so do stories that spell the same requests
pub requests_are_told_alike : (desk : Text) (v u : View) (conns responses others answers story tale told given : List Text)
    → IsWorld (alone v) → IsWorld (alone u) → Agree v u → SpellTheSame story tale
    → IsStoryOf desk v conns responses story told → IsStoryOf desk u others answers tale given → told ≡ given
requests_are_told_alike desk v u conns responses others answers story tale told given good fine agree same h k =
    told_alike_by desk v u conns responses others answers story tale told given good fine agree
    (λ requests rest p q. spelled_the_same story tale requests rest same p q) h k

-- the responses to a desk belong to a story, unless one of its connections was refused for lack of
-- memory or by the store
pub story_or_want : (desk : Text) (v : View) (conns responses : List Text) → AreTold desk v conns responses
    → ((story : List Text) × (told : List Text) × IsStoryOf desk v conns responses story told) ⊎ IsWanting desk v conns responses
story_or_want desk v [] [] h = inl ([], [], (refl, refl))
story_or_want desk v [] (response ∷ responses) h = absurd h
story_or_want desk v (bytes ∷ conns) [] h = absurd h
story_or_want desk v (bytes ∷ conns) (response ∷ responses) (inl (outside, rest)) =
    elim (story_or_want desk v conns responses rest) [
      | inl found ↦ inl (found.0, found.1, inl (outside, found.2))
      | inr want ↦ inr (inl (outside, want))
    ]
story_or_want desk v (bytes ∷ conns) (response ∷ responses) (inr (r, is, inl want)) = inr (inr (r, is, inl want))
story_or_want desk v (bytes ∷ conns) (response ∷ responses) (inr (r, is, inr (after, answer, rest))) =
    elim (story_or_want desk (view desk after) conns responses rest) [
      | inl found ↦ inl (bytes ∷ found.0, response ∷ found.1, inr (r, is, (found.0, found.1, refl, refl, (after, answer, found.2))))
      | inr want ↦ inr (inr (r, is, inr (after, answer, want)))
    ]
