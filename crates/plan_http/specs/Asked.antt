-- The results of reading a request, as facts about all bytes of the connection
-- (docs/definitions.md, "Connections").
use Rattle.std.specs.Prelude.{◌≡◌, ℕ, ◌+◌, ◌<◌, ◌≤◌, ◌⊎◌, Bool, true, List, length, bytes_eq, Option, None, Some, option_map, ⊤}
use Rattle.httparse.specs.Grammar.{RequestHead}
use Rattle.plan_rows.specs.World.{Text}
use Rattle.plan_desk.specs.Calls as calls
use Rattle.plan_desk.specs.Requests.{request_in}
use Rattle.plan_http.specs.declared.request.Asked.{Asked}
use Rattle.plan_http.specs.declared.request.Asked.TheVariants.{Request, Fails, NoMemory, ReadFailed}
use Rattle.plan_http.specs.declared.checks.Check.{Check}
use Rattle.plan_http.specs.declared.checks.Check.TheVariants.{Message}
use Rattle.plan_http.specs.declared.routes.Route.{Route}
use Rattle.plan_http.specs.Checks.{first_failing, head_checks}
use Rattle.plan_http.specs.Routes.{route_of, method_of}
use Rattle.plan_http.specs.Judges.{asks, fails, Judges, MayWant, fields_of, length_of}

-- the bytes spell the result; memory runs out only for bytes that may need it, and a failed reader
-- claims nothing
abbrev pub IsAsked : Text → Asked → Type 0
IsAsked bytes (Request request) = Judges bytes (asks (request_in request))
IsAsked bytes (Fails check route is_head) =
    Judges bytes (fails check (option_map method_of route) is_head)
IsAsked bytes NoMemory = MayWant bytes
IsAsked bytes ReadFailed = ⊤

-- one fault was counted if the reader failed, else none
abbrev pub AskedFaults : ℕ → ℕ → Asked → Type 0
AskedFaults faults after (Request request) = after ≡ faults
AskedFaults faults after (Fails check route is_head) = after ≡ faults
AskedFaults faults after NoMemory = after ≡ faults
AskedFaults faults after ReadFailed = after ≡ faults + 1

-- the result for a request with a complete body: this request, or memory ran out
abbrev pub IsRequestOr : calls.Request → Asked → Type 0
IsRequestOr wanted (Request request) = request_in request ≡ wanted
IsRequestOr wanted (Fails check route is_head) = ⊥
IsRequestOr wanted NoMemory = ⊤
IsRequestOr wanted ReadFailed = ⊥

-- the result for a request that fails a check of its route: that check, if its body is complete
abbrev pub IsRefused : List ℕ → ℕ → Check → Option Route → Bool → Asked → Type 0
IsRefused after count check route is_head (Request request) = ⊥
IsRefused after count check route is_head (Fails first at on) =
    ((first ≡ check) × (at ≡ route) × (on ≡ is_head) × (count ≤ length after))
    ⊎ ((first ≡ Message) × (at ≡ None) × (on ≡ is_head) × (length after < count))
IsRefused after count check route is_head NoMemory = ⊥
IsRefused after count check route is_head ReadFailed = ⊤

-- the head passes its checks, and gives this length of the body
pub record IsPassed (h : RequestHead) (count : ℕ) : Type 0 where
  pub passes : first_failing (head_checks h.minor (fields_of h)) ≡ None
  pub count_is : count ≡ length_of h

-- the head passes, and is on this route with its method
pub record IsOnRoute (h : RequestHead) (count : ℕ) (route : Route) (target : List ℕ) : Type 0 where
  pub passed : IsPassed h count
  pub target_is : target ≡ h.target
  pub found : route_of h.target ≡ Some route
  pub method : bytes_eq h.method (method_of route) ≡ true
