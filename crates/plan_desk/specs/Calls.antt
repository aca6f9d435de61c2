-- Requests and replies (docs/definitions.md, "Desks").
use Rattle.std.specs.Prelude.{ℕ, Bool, true, false, ◌&&◌, if◌then◌else◌, [], ◌∷◌, ◌++◌, nat_lt, Option, Some, None, unwrap_or, codes}
use Rattle.plan_desk.specs.declared.reply.ReplyKind.{ReplyKind}
use Rattle.plan_desk.specs.declared.reply.ReplyKind.TheVariants.{Plain, Json}
use Rattle.plan_rows.specs.World.{Text}
use Rattle.plan_rows.specs.Names.{has_key, unlocks}
use Rattle.plan_desk.specs.Bodies.{desk_named}
use Rattle.plan_rows.specs.Views.{View}

-- One call for each route. The parts of a path and the bodies are the texts that were sent.
pub data Call : Type 0 where
  publish : (body : Text) → Call
  open_desk : (body : Text) → Call
  set_key : (desk body : Text) → Call
  capacities : (desk : Text) → Call
  plans : (desk : Text) → Call
  import_project : (desk body : Text) → Call
  import_shop : (desk instance body : Text) → Call
  remove : (desk n : Text) → Call
  bind : (desk n body : Text) → Call
  set_calendar : (desk n body : Text) → Call
  set_lag : (desk n body : Text) → Call
  dates : (desk n : Text) → Call
  schedule : (desk n rule : Text) → Call
  chart : (desk n rule : Text) → Call
  days : (desk n rule : Text) → Call
  best : (desk n budget : Text) → Call

-- the key that was sent with the call, if there was one, and the call
pub record Request : Type 0 where
  pub key : Option Text
  pub call : Call

-- a status of RFC 9110, the media type, and the body
pub record Reply : Type 0 where
  pub status : ℕ
  pub kind : ReplyKind
  pub body : Text

-- a line ends with a line feed
abbrev pub line : Text → Text
line text = text ++ 10 ∷ []

-- a refusal is one line
abbrev pub refusal : ℕ → Text → Reply
refusal status text = record { status = status; kind = Plain; body = line text }

-- an answer in JSON is one line
abbrev pub answer : ℕ → Text → Reply
answer status text = record { status = status; kind = Json; body = line text }

-- a page is a complete text with its line feeds
abbrev pub page : Text → Reply
page text = record { status = 200; kind = Plain; body = text }

-- the refusal of every request without the key that its call needs
abbrev pub no_key : Reply
no_key = refusal 403 (codes "E01 key")

-- the desk that a call names: on its path, or in the body that opens a desk
abbrev pub desk_of : Call → Option Text
desk_of (publish body) = None
desk_of (open_desk body) = desk_named body
desk_of (set_key desk body) = Some desk
desk_of (capacities desk) = Some desk
desk_of (plans desk) = Some desk
desk_of (import_project desk body) = Some desk
desk_of (import_shop desk instance body) = Some desk
desk_of (remove desk n) = Some desk
desk_of (bind desk n body) = Some desk
desk_of (set_calendar desk n body) = Some desk
desk_of (set_lag desk n body) = Some desk
desk_of (dates desk n) = Some desk
desk_of (schedule desk n rule) = Some desk
desk_of (chart desk n rule) = Some desk
desk_of (days desk n rule) = Some desk
desk_of (best desk n budget) = Some desk

-- the desk whose view decides, or the empty name if there is none: no desk has that name
abbrev pub subject : Request → Text
subject r = unwrap_or (desk_of r.call) []

-- the call publishes a code
abbrev pub is_publish : Call → Bool
is_publish (publish body) = true
is_publish _ = false

-- a call of the office, which needs the office's key
abbrev pub is_of_office : Call → Bool
is_of_office (publish body) = true
is_of_office (open_desk body) = true
is_of_office (set_key desk body) = true
is_of_office _ = false

-- a command: it changes rows if it is accepted
abbrev pub writes : Call → Bool
writes (capacities desk) = false
writes (plans desk) = false
writes (dates desk n) = false
writes (schedule desk n rule) = false
writes (chart desk n rule) = false
writes (days desk n rule) = false
writes (best desk n budget) = false
writes _ = true

-- a command that was answered with 200 or 201
abbrev pub is_accepted : Request → Reply → Bool
is_accepted r reply = writes r.call && nat_lt reply.status 300

-- the request has the key that its call needs: the office's, or that of the desk on the path
abbrev pub admits : View → Request → Bool
admits v r = if is_of_office r.call then has_key r.key v.office else unlocks r.key v.desk
