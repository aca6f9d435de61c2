-- The meaning of the bytes of a connection: a request, or the first check that they fail
-- (docs/definitions.md, "Connections").
use Rattle.std.specs.Prelude.{◌≡◌, ℕ, ◌⊎◌, Bool, true, false, if◌then◌else◌, nat_lt, bytes_eq, List, length, take, map, Option, Some, None, codes}
use Rattle.httparse.specs.Grammar.{RequestHead}
use Rattle.httparse.specs.Spans.{name_and_value}
use Rattle.plan_rows.specs.World.{Text}
use Rattle.plan_desk.specs.Calls.{Request}
use Rattle.plan_http.specs.declared.checks.Check.{Check}
use Rattle.plan_http.specs.declared.checks.Check.TheVariants.{Message, Route, Method}
use Rattle.plan_http.specs.declared.routes.Route as declared
use Rattle.plan_http.specs.Head.{BeginsWithHead, HasNoHead, after_head}
use Rattle.plan_http.specs.Fields.{NamedValue, values_of, body_length, only_of}
use Rattle.plan_http.specs.Checks.{first_failing, lengths_in, head_checks}
use Rattle.plan_http.specs.Routes.{route_of, method_of}
use Rattle.plan_http.specs.Targets.{call_at}

-- A verdict: a request, or the first check that fails. A failure has the route's method if it is
-- the check of the method, and whether the response ends after its head.
pub data Verdict : Type 0 where
  asks : Request → Verdict
  fails : Check → Option Text → Bool → Verdict

-- the fields of a head, with their values
abbrev pub fields_of : RequestHead → List NamedValue
fields_of h = map name_and_value h.fields

-- the length of the body
abbrev pub length_of : RequestHead → ℕ
length_of h = body_length (lengths_in (fields_of h))

-- the key that was sent: the value of the only field `Desk-Key`
abbrev pub key_of : RequestHead → Option Text
key_of h = only_of (values_of (codes "desk-key") (fields_of h))

-- the method is HEAD
abbrev pub is_head_method : RequestHead → Bool
is_head_method h = bytes_eq h.method (codes "HEAD")

-- the verdict for a route: the checks of the route and its method, then the request
abbrev pub verdict_at : RequestHead → Text → Option declared.Route → Verdict
verdict_at h body None = fails Route None (is_head_method h)
verdict_at h body (Some route) =
    if bytes_eq h.method (method_of route)
    then asks (record { key = key_of h; call = call_at route h.target body })
    else fails Method (Some (method_of route)) (is_head_method h)

-- The verdict for the bytes behind a head that passes: the check of the body, then the checks of
-- the route. The bytes behind the body are ignored.
unfoldable pub verdict_behind : RequestHead → Text → Verdict
verdict_behind h after =
    if nat_lt (length after) (length_of h) then fails Message None (is_head_method h)
    else verdict_at h (take (length_of h) after) (route_of h.target)

abbrev pub unless_failing : RequestHead → Text → Option Check → Verdict
unless_failing h after (Some check) = fails check None (is_head_method h)
unless_failing h after None = verdict_behind h after

-- the verdict for a head and the bytes behind it
unfoldable pub verdict_of : RequestHead → Text → Verdict
verdict_of h after = unless_failing h after (first_failing (head_checks h.minor (fields_of h)))

-- the bytes of a connection have this verdict
abbrev pub Judges : Text → Verdict → Type 0
Judges bytes verdict =
    ((h : RequestHead) × BeginsWithHead bytes h × (verdict ≡ verdict_of h (after_head bytes h)))
    ⊎ (HasNoHead bytes × (verdict ≡ fails Message None false))

-- Memory may run out: the bytes begin with a head that passes its checks, on a route and with its
-- method. Any other failing check is reported without memory.
pub record MayWant (bytes : Text) : Type 0 where
  pub head : RequestHead
  pub begins : BeginsWithHead bytes head
  pub passes : first_failing (head_checks head.minor (fields_of head)) ≡ None
  pub route : declared.Route
  pub found : route_of head.target ≡ Some route
  pub method : bytes_eq head.method (method_of route) ≡ true
