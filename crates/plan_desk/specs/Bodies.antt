-- The content of a JSON body, or None if the body is refused (docs/definitions.md, "Desks"; RFC
-- 8259). serde_json reads the body. If two members have equal names, the last one counts. A whole
-- number is one that `as_u64` returns. At most 127 arrays and objects nest.
use Rattle.std.specs.Prelude.{ℕ, Bool, true, nat_le, if◌then◌else◌, Option, Some, None, option_map, option_and_then, codes}
use Rattle.std.specs.Str.{is_utf8}
use Rattle.serde_json.specs.Data.{Data}
use Rattle.serde_json.specs.Read.{read}
use Rattle.serde_json.specs.Find.{get, as_str, as_number, as_u64}
use Rattle.plan_net.specs.Limits.{longest_lag, most_activities}
use Rattle.plan_psplib.specs.Tokens.{greatest}
use Rattle.plan_rows.specs.declared.kinds.Kind.{Kind}
use Rattle.plan_rows.specs.declared.kinds.Kind.TheVariants.{Crew, Machine}
use Rattle.plan_rows.specs.World.{Text, same_text}
use Rattle.plan_rows.specs.Names.{kind_text, is_name, is_key, is_from_to}

-- the value that the bytes spell
abbrev pub json : Text → Option Data
json body = if is_utf8 body then read body else None

-- a value, if it passes the test
abbrev pub passing : {A : Type 0} → (A → Bool) → A → Option A
passing passes x = if passes x then Some x else None

-- the member of an object, if it is a text that passes the test
abbrev pub text_in : (Text → Bool) → Text → Data → Option Text
text_in passes name value =
    option_and_then (passing passes) (option_and_then as_str (get name value))

-- the member of an object, if it is a whole number that passes the test
abbrev pub number_in : (ℕ → Bool) → Text → Data → Option ℕ
number_in passes name value =
    option_and_then (passing passes)
    (option_and_then as_u64 (option_and_then as_number (get name value)))

abbrev pub any_text : Text → Bool
any_text text = true

-- the kind of a word
abbrev pub kind_named : Text → Option Kind
kind_named text =
    if same_text text (kind_text Crew) then Some Crew
    else (if same_text text (kind_text Machine) then Some Machine else None)

-- a code, its kind, and its capacity
pub record PublishBody : Type 0 where
  pub code : Text
  pub kind : Kind
  pub capacity : ℕ

abbrev pub publish_members : Data → Option PublishBody
publish_members value =
    option_and_then (λ code. option_and_then (λ kind. option_map
    (λ capacity. record { code = code; kind = kind; capacity = capacity })
    (number_in (λ n. nat_le n greatest) (codes "capacity") value))
    (option_and_then kind_named (text_in any_text (codes "kind") value)))
    (text_in is_name (codes "code") value)

unfoldable pub publish_body : Text → Option PublishBody
publish_body body = option_and_then publish_members (json body)

-- the name of a desk, and its key
pub record DeskBody : Type 0 where
  pub desk : Text
  pub key : Text

abbrev pub desk_members : Data → Option DeskBody
desk_members value =
    option_and_then
    (λ desk. option_map (λ key. record { desk = desk; key = key })
    (text_in is_key (codes "key") value))
    (text_in is_name (codes "desk") value)

unfoldable pub desk_body : Text → Option DeskBody
desk_body body = option_and_then desk_members (json body)

-- the desk that such a body names, whether its other members are valid or not
unfoldable pub desk_named : Text → Option Text
desk_named body = option_and_then (text_in any_text (codes "desk")) (json body)

-- a key
unfoldable pub key_body : Text → Option Text
key_body body = option_and_then (text_in is_key (codes "key")) (json body)

-- a published code, and the place that the code is bound to: a resource from 1 on, or a machine
-- from 0 on
pub record BindBody : Type 0 where
  pub code : Text
  pub place : ℕ

abbrev pub bind_members : (ℕ → Bool) → Data → Option BindBody
bind_members is_place value =
    option_and_then
    (λ code. option_map (λ place. record { code = code; place = place })
    (number_in is_place (codes "place") value))
    (text_in is_name (codes "code") value)

-- the place must be a place of the plan
unfoldable pub bind_body : (ℕ → Bool) → Text → Option BindBody
bind_body is_place body = option_and_then (bind_members is_place) (json body)

-- a start date and seven marks, Monday first, as texts: they are checked later
pub record CalendarBody : Type 0 where
  pub start : Text
  pub days : Text

abbrev pub calendar_members : Data → Option CalendarBody
calendar_members value =
    option_and_then
    (λ start. option_map (λ days. record { start = start; days = days })
    (text_in any_text (codes "days") value))
    (text_in any_text (codes "start") value)

unfoldable pub calendar_body : Text → Option CalendarBody
calendar_body body = option_and_then calendar_members (json body)

-- the two activities of an arc, numbered from 1, and its lag in time units
pub record LagBody : Type 0 where
  pub from : ℕ
  pub to : ℕ
  pub lag : ℕ

abbrev pub lag_members : Data → Option LagBody
lag_members value =
    option_and_then (λ from. option_and_then (λ to. option_map
    (λ lag. record { from = from; to = to; lag = lag })
    (number_in (λ n. nat_le n longest_lag) (codes "lag") value))
    (number_in (is_from_to 1 most_activities) (codes "to") value))
    (number_in (is_from_to 1 most_activities) (codes "from") value)

unfoldable pub lag_body : Text → Option LagBody
lag_body body = option_and_then lag_members (json body)
