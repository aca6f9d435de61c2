-- The requests that values of the code stand for (docs/definitions.md, "Desks").
use Rattle.std.specs.Prelude.{[], string_bytes, option_map, unwrap_or}
use Rattle.plan_desk.specs.declared.request.Call as rows
use Rattle.plan_desk.specs.declared.request.Call.TheVariants as made
use Rattle.plan_desk.specs.declared.request.Request as sent
use Rattle.plan_rows.specs.World.{Text}
use Rattle.plan_desk.specs.Calls.{Call, publish, open_desk, set_key, capacities, plans, import_project, import_shop, remove, bind, set_calendar, set_lag, dates}
use Rattle.plan_desk.specs.Calls.{schedule, chart, days, best, desk_of, Request}

abbrev pub call_in : rows.Call → Call
call_in (made.Publish body) = publish body.items
call_in (made.OpenDesk body) = open_desk body.items
call_in (made.SetKey desk body) = set_key (string_bytes desk) body.items
call_in (made.Capacities desk) = capacities (string_bytes desk)
call_in (made.Plans desk) = plans (string_bytes desk)
call_in (made.ImportProject desk body) = import_project (string_bytes desk) body.items
call_in (made.ImportShop desk instance body) =
    import_shop (string_bytes desk) (string_bytes instance) body.items
call_in (made.Remove desk n) = remove (string_bytes desk) (string_bytes n)
call_in (made.Bind desk n body) = bind (string_bytes desk) (string_bytes n) body.items
call_in (made.SetCalendar desk n body) =
    set_calendar (string_bytes desk) (string_bytes n) body.items
call_in (made.SetLag desk n body) = set_lag (string_bytes desk) (string_bytes n) body.items
call_in (made.Dates desk n) = dates (string_bytes desk) (string_bytes n)
call_in (made.Schedule desk n rule) =
    schedule (string_bytes desk) (string_bytes n) (string_bytes rule)
call_in (made.Chart desk n rule) = chart (string_bytes desk) (string_bytes n) (string_bytes rule)
call_in (made.Days desk n rule) = days (string_bytes desk) (string_bytes n) (string_bytes rule)
call_in (made.Best desk n budget) = best (string_bytes desk) (string_bytes n) (string_bytes budget)

abbrev pub request_in : sent.Request → Request
request_in r = record { key = option_map (λ key. key.items) r.key; call = call_in r.call }

-- the desk on the path of a call: empty for a call that publishes a code or opens a desk
abbrev pub path_of : Call → Text
path_of (publish body) = []
path_of (open_desk body) = []
path_of (set_key desk body) = desk
path_of (capacities desk) = desk
path_of (plans desk) = desk
path_of (import_project desk body) = desk
path_of (import_shop desk instance body) = desk
path_of (remove desk n) = desk
path_of (bind desk n body) = desk
path_of (set_calendar desk n body) = desk
path_of (set_lag desk n body) = desk
path_of (dates desk n) = desk
path_of (schedule desk n rule) = desk
path_of (chart desk n rule) = desk
path_of (days desk n rule) = desk
path_of (best desk n budget) = desk

-- the desk whose view decides, or the empty name if there is none: no desk has that name
abbrev pub subject_of : Call → Text
subject_of call = unwrap_or (desk_of call) []
