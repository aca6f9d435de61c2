-- Targets and the calls that they name (docs/definitions.md, "Connections").
use Rattle.std.specs.Prelude.{ℕ, Bool, ◌==◌, [], unwrap_or}
use Rattle.std.specs.List.{slice_get, slice_split}
use Rattle.plan_rows.specs.World.{Text}
use Rattle.plan_desk.specs.Calls.{Call, publish, open_desk, set_key, capacities, plans, import_project, import_shop, remove, bind, set_calendar, set_lag, dates, schedule, chart, days, best}
use Rattle.plan_http.specs.declared.routes.Route.{Route}
use Rattle.plan_http.specs.declared.routes.Route.TheVariants as route

abbrev pub is_slash : ℕ → Bool
is_slash byte = byte == 47

-- a segment of a target, which is cut at its slashes: in `/desks/a/plans/7`, segment 2 is `a` and
-- segment 4 is `7`
unfoldable pub segment : ℕ → Text → Text
segment k target = unwrap_or (slice_get (slice_split is_slash target) k) []

-- the call of a route, by the target and the body
abbrev pub call_at : Route → Text → Text → Call
call_at route.Publish target body = publish body
call_at route.OpenDesk target body = open_desk body
call_at route.SetKey target body = set_key (segment 3 target) body
call_at route.Capacities target body = capacities (segment 2 target)
call_at route.Plans target body = plans (segment 2 target)
call_at route.ImportProject target body = import_project (segment 2 target) body
call_at route.ImportShop target body = import_shop (segment 2 target) (segment 4 target) body
call_at route.Remove target body = remove (segment 2 target) (segment 4 target)
call_at route.Bind target body = bind (segment 2 target) (segment 4 target) body
call_at route.SetCalendar target body = set_calendar (segment 2 target) (segment 4 target) body
call_at route.SetLag target body = set_lag (segment 2 target) (segment 4 target) body
call_at route.Dates target body = dates (segment 2 target) (segment 4 target)
call_at route.Schedule target body =
    schedule (segment 2 target) (segment 4 target) (segment 6 target)
call_at route.Chart target body = chart (segment 2 target) (segment 4 target) (segment 6 target)
call_at route.Days target body = days (segment 2 target) (segment 4 target) (segment 6 target)
call_at route.Best target body = best (segment 2 target) (segment 4 target) (segment 6 target)
