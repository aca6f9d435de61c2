-- The answers to connections (docs/definitions.md, "Connections").
use Rattle.std.specs.Prelude.{Bool, false, List, [], ◌∷◌, Option, None, codes}
use Rattle.plan_rows.specs.World.{Text}
use Rattle.plan_desk.specs.Calls.{Request, Reply, refusal}
use Rattle.plan_http.specs.declared.checks.Check.{Check}
use Rattle.plan_http.specs.declared.checks.Check.TheVariants.{Message, TooLarge, Coding, Route, Method}
use Rattle.plan_http.specs.Judges.{asks, fails, Judges, MayWant}
use Rattle.plan_http.specs.Responses.{response_text}

-- the reply to a connection that fails a check
abbrev pub check_reply : Check → Reply
check_reply Message = refusal 400 (codes "H1 message")
check_reply TooLarge = refusal 413 (codes "H2 too large")
check_reply Coding = refusal 501 (codes "H3 coding")
check_reply Route = refusal 404 (codes "H4 route")
check_reply Method = refusal 405 (codes "H5 method")

-- the reply if memory runs out
abbrev pub no_memory : Reply
no_memory = refusal 503 (codes "E90 memory")

-- a reply as it is written: with the route's method if the check of the method fails, and whether
-- the response ends after its head
pub record Answer : Type 0 where
  pub reply : Reply
  pub allow : Option Text
  pub is_head : Bool

-- its bytes
unfoldable pub text_of : Answer → Text
text_of a = response_text a.reply a.allow a.is_head

-- The decision on a connection. A request was handled and answered, or a check failed. Or memory
-- ran out before the decision on a request that passes the checks of its head and its route.
pub data Decision : Type 0 where
  answered : Request → Reply → Decision
  failed : Check → Option Text → Bool → Decision
  starved : Decision

abbrev pub answer_of : Decision → Answer
answer_of (answered request reply) = record { reply = reply; allow = None; is_head = false }
answer_of (failed check allow is_head) =
    record { reply = check_reply check; allow = allow; is_head = is_head }
answer_of starved = record { reply = no_memory; allow = None; is_head = false }

-- the decision is for these bytes
abbrev pub IsOn : Text → Decision → Type 0
IsOn bytes (answered request reply) = Judges bytes (asks request)
IsOn bytes (failed check allow is_head) = Judges bytes (fails check allow is_head)
IsOn bytes starved = MayWant bytes

-- the requests that were handled, and their replies
abbrev pub requests_of : List Decision → List Request
requests_of [] = []
requests_of (answered request reply ∷ decisions) = request ∷ requests_of decisions
requests_of (failed check allow is_head ∷ decisions) = requests_of decisions
requests_of (starved ∷ decisions) = requests_of decisions

abbrev pub replies_of : List Decision → List Reply
replies_of [] = []
replies_of (answered request reply ∷ decisions) = reply ∷ replies_of decisions
replies_of (failed check allow is_head ∷ decisions) = replies_of decisions
replies_of (starved ∷ decisions) = replies_of decisions
