-- From the parts that were read to the verdict on the bytes of a connection.
use Rattle.std.proofs.Common.{◌≡◌, ℕ, ◌-◌, ◌<◌, ◌≤◌, Bool, true, false, not, List, ◌++◌, length, take, drop, map, Option, None, Some, option_map, bytes_eq}
use Rattle.std.proofs.Common.{refl, ap, sym, ◌∙◌, subst, inl, inr, arith, nat_lt}
use Rattle.std.proofs.lemmas.List.{drop-append-le, take_rest}
use Rattle.std.proofs.lemmas.Bool.Decides.{nat_tests}
use Rattle.httparse.specs.Grammar.{RequestHead, print_request}
use Rattle.httparse.specs.Spans.{header_bytes, IsRequestAt}
use Rattle.httparse.specs.declared.spans.HeaderSpan.{HeaderSpan}
use Rattle.httparse.specs.declared.spans.RequestSpans.{RequestSpans}
use Rattle.plan_http.specs.declared.checks.Check.{Check}
use Rattle.plan_http.specs.declared.checks.Check.TheVariants.{Message}
use Rattle.plan_http.specs.declared.checks.Check.TheVariants as checks
use Rattle.plan_http.specs.declared.request.Asked.{Asked}
use Rattle.plan_http.specs.declared.request.Asked.TheVariants as made
use Rattle.plan_http.specs.Head.{BeginsWithHead, HasNoHead, after_head}
use Rattle.plan_http.specs.Fields.{body_length}
use Rattle.plan_http.specs.Checks.{first_failing, head_checks, lengths_in}
use Rattle.plan_http.specs.Pieces.{IsSplit}
use Rattle.plan_http.specs.declared.routes.Route.{Route}
use Rattle.plan_http.specs.Routes.{route_of, method_of}
use Rattle.plan_http.specs.Targets.{call_at}
use Rattle.plan_http.specs.Judges.{Judges, MayWant, verdict_of, verdict_behind, verdict_at, asks, fails, fields_of, key_of, length_of, is_head_method}
use Rattle.plan_http.specs.Asked.{IsAsked, IsRequestOr, IsRefused, IsPassed, IsOnRoute}

-- the bytes behind the head, some of which were read with it
pub after_split : (bytes front : List ℕ) (left : Option (List ℕ)) (h : RequestHead) (len : ℕ) → IsSplit bytes front left
    → len ≤ length front → len ≡ length (print_request h) → IsSplit (after_head bytes h) (take (length front - len) (drop len front)) left
after_split bytes front left h len s fits is = record {
  more = s.more;
  left_is = s.left_is;
  whole =
      ap (λ n. drop n bytes) (sym is) ∙ ap (drop len) s.whole ∙ drop-append-le len front s.more fits
      ∙ ap (λ xs. xs ++ s.more) (sym (take_rest front len));
}

-- the head's checks and its length, as the spans give them
module _ (front : List ℕ) (headers : List HeaderSpan) (spans : RequestSpans) (h : RequestHead) (at : IsRequestAt front headers spans h) where
  pub checks_at : head_checks spans.version (map (header_bytes front) (take spans.headers headers)) ≡ head_checks h.minor (fields_of h)
  checks_at = ap (λ n. head_checks n (map (header_bytes front) (take spans.headers headers))) at.version ∙ ap (head_checks h.minor) at.fields

  pub length_at : body_length (lengths_in (map (header_bytes front) (take spans.headers headers))) ≡ length_of h
  length_at = ap (λ fields. body_length (lengths_in fields)) at.fields

-- no head
pub head_missing : (bytes : List ℕ) → HasNoHead bytes → Judges bytes (fails Message None false)
head_missing bytes none = inr (none, refl)

-- the three ways on from a head
module _ (bytes : List ℕ) (h : RequestHead) (begins : BeginsWithHead bytes h) where
  pub fails_head : (check : Check) → first_failing (head_checks h.minor (fields_of h)) ≡ Some check → Judges bytes (fails check None (is_head_method h))
  unfolding verdict_of
  fails_head check is = inl (h, begins, rw is refl)

  pub fails_short : first_failing (head_checks h.minor (fields_of h)) ≡ None → length (after_head bytes h) < length_of h → Judges bytes (fails Message None (is_head_method h))
  unfolding verdict_of verdict_behind
  fails_short none short =
      let test : nat_lt (length (after_head bytes h)) (length_of h) ≡ true = grind (arith, nat_tests) in
      inl (h, begins, rw (none, test) refl)

  -- the same for the result of reading
  pub head_told : (is_head : Bool) (result : Asked) (check : Check) → is_head ≡ is_head_method h → first_failing (head_checks h.minor (fields_of h)) ≡ Some check
      → result ≡ made.Fails check None is_head → IsAsked bytes result
  head_told is_head result check head failing is = rw (is, head) (fails_head check failing)

  pub short_told : (is_head : Bool) (result : Asked) → is_head ≡ is_head_method h → first_failing (head_checks h.minor (fields_of h)) ≡ None
      → length (after_head bytes h) < length_of h → result ≡ made.Fails Message None is_head → IsAsked bytes result
  short_told is_head result head none short is = rw (is, head) (fails_short none short)

  whole_is : first_failing (head_checks h.minor (fields_of h)) ≡ None → length_of h ≤ length (after_head bytes h)
      → verdict_of h (after_head bytes h) ≡ verdict_at h (take (length_of h) (after_head bytes h)) (route_of h.target)
  unfolding verdict_of verdict_behind
  whole_is none long =
      let test : nat_lt (length (after_head bytes h)) (length_of h) ≡ false = grind (arith, nat_tests) in
      rw (none, test) refl

  -- a check of the route that fails, behind a whole body
  pub refused_told : (check : Check) (route : Option Route) (is_head : Bool) (count : ℕ) (result : Asked) → is_head ≡ is_head_method h → IsPassed h count
      → ((body : List ℕ) → verdict_at h body (route_of h.target) ≡ fails check (option_map method_of route) (is_head_method h))
      → IsRefused (after_head bytes h) count check route is_head result → IsAsked bytes result
  refused_told check route is_head count (made.Request request) head passed all refused = absurd refused
  refused_told check route is_head count (made.Fails first at on) head passed all (inl (is_check, is_route, is_on, long)) =
      let whole = whole_is passed.passes (subst (λ n. n ≤ length (after_head bytes h)) passed.count_is long) in
      rw (is_check, is_route, is_on, head) (inl (h, begins, sym (whole ∙ all (take (length_of h) (after_head bytes h)))))
  refused_told check route is_head count (made.Fails first at on) head passed all (inr (is_check, is_route, is_on, short)) =
      rw (is_check, is_route, is_on, head) (fails_short passed.passes (subst (λ n. length (after_head bytes h) < n) passed.count_is short))
  refused_told check route is_head count made.NoMemory head passed all refused = absurd refused
  refused_told check route is_head count made.ReadFailed head passed all refused = tt

  -- the checks of the route
  pub no_route : route_of h.target ≡ None → (body : List ℕ) → verdict_at h body (route_of h.target) ≡ fails checks.Route (option_map method_of None) (is_head_method h)
  no_route none body = rw none refl

  pub other_method : (route : Route) → route_of h.target ≡ Some route → bytes_eq h.method (method_of route) ≡ false → (body : List ℕ)
      → verdict_at h body (route_of h.target) ≡ fails checks.Method (option_map method_of (Some route)) (is_head_method h)
  other_method route found other body = rw (found, other) refl

  -- a request on a route may need memory
  pub may_want : (count : ℕ) (route : Route) (target : List ℕ) → IsOnRoute h count route target → MayWant bytes
  may_want count route target on = record {
    head = h;
    begins = begins;
    passes = on.passed.passes;
    route = route;
    found = on.found;
    method = on.method;
  }

  asks_there : (route : Route) (body : List ℕ) → route_of h.target ≡ Some route → bytes_eq h.method (method_of route) ≡ true
      → verdict_at h body (route_of h.target) ≡ asks (record { key = key_of h; call = call_at route h.target body })
  asks_there route body found method = rw (found, method) refl

  -- the request of a route, behind a whole body
  pub request_told : (count : ℕ) (route : Route) (target body : List ℕ) (result : Asked) → IsOnRoute h count route target → count ≤ length (after_head bytes h)
      → body ≡ take count (after_head bytes h) → IsRequestOr (record { key = key_of h; call = call_at route target body }) result → IsAsked bytes result
  request_told count route target body (made.Request request) on long is request_is =
      let whole = whole_is on.passed.passes (subst (λ n. n ≤ length (after_head bytes h)) on.passed.count_is long) in
      let same : body ≡ take (length_of h) (after_head bytes h) = is ∙ ap (λ n. take n (after_head bytes h)) on.passed.count_is in
      let wanted = ap (λ text. asks (record { key = key_of h; call = call_at route text body })) on.target_is in
      let there = asks_there route (take (length_of h) (after_head bytes h)) on.found on.method in
      inl (h, begins, ap asks request_is ∙ wanted ∙ ap (λ b. asks (record { key = key_of h; call = call_at route h.target b })) same ∙ sym (whole ∙ there))
  request_told count route target body (made.Fails check at is_head) on long is request_is = absurd request_is
  request_told count route target body made.NoMemory on long is request_is = may_want count route target on
  request_told count route target body made.ReadFailed on long is request_is = absurd request_is

-- the meaning of a test of inequality
pub not_same : (b : Bool) → not b ≡ true → b ≡ false
not_same true is = sym is
not_same false is = refl

pub same_then : (b : Bool) → not b ≡ false → b ≡ true
same_then true is = refl
same_then false is = sym is
