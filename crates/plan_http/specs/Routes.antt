-- The routes of the service (docs/definitions.md, "Connections"). The route of a target is the one
-- that `matchit` finds in the table of their texts.
use Rattle.std.specs.Prelude.{ℕ, Bool, not, ◌&&◌, ◌||◌, ◌==◌, false, if◌then◌else◌, List, [], ◌∷◌, Option, None, option_map, Result, Ok, Err, codes}
use Rattle.std.specs.List.{list_any}
use Rattle.matchit.specs.Rows.{RowsOf}
use Rattle.matchit.specs.Order.{placed}
use Rattle.matchit.specs.Seek.{first}
use Rattle.matchit.specs.Route.{Scan, parse_route}
use Rattle.matchit.specs.Router.{RouteOf, route_from}
use Rattle.matchit.specs.declared.error.InsertError.{InsertError}
use Rattle.plan_http.specs.declared.routes.Route.{Route}
use Rattle.plan_http.specs.declared.routes.Route.TheVariants.{Publish, OpenDesk, SetKey, Capacities, Plans, ImportProject, ImportShop, Remove, Bind}
use Rattle.plan_http.specs.declared.routes.Route.TheVariants.{SetCalendar, SetLag, Dates, Schedule, Chart, Days, Best}

-- all routes
abbrev pub all_routes : List Route
all_routes =
    Publish ∷ OpenDesk ∷ SetKey ∷ Capacities ∷ Plans ∷ ImportProject ∷ ImportShop ∷ Remove ∷
    Bind ∷ SetCalendar ∷ SetLag ∷ Dates ∷ Schedule ∷ Chart ∷ Days ∷ Best ∷ []

-- the text of a route: a name in braces matches one segment of a target
abbrev pub text_of : Route → List ℕ
text_of Publish = codes "/office/capacities"
text_of OpenDesk = codes "/office/desks"
text_of SetKey = codes "/office/desks/{desk}/key"
text_of Capacities = codes "/desks/{desk}/capacities"
text_of Plans = codes "/desks/{desk}/plans"
text_of ImportProject = codes "/desks/{desk}/projects"
text_of ImportShop = codes "/desks/{desk}/shops/{instance}"
text_of Remove = codes "/desks/{desk}/plans/{n}"
text_of Bind = codes "/desks/{desk}/plans/{n}/bind"
text_of SetCalendar = codes "/desks/{desk}/plans/{n}/calendar"
text_of SetLag = codes "/desks/{desk}/plans/{n}/lag"
text_of Dates = codes "/desks/{desk}/plans/{n}/dates"
text_of Schedule = codes "/desks/{desk}/plans/{n}/schedule/{rule}"
text_of Chart = codes "/desks/{desk}/plans/{n}/chart/{rule}"
text_of Days = codes "/desks/{desk}/plans/{n}/days/{rule}"
text_of Best = codes "/desks/{desk}/plans/{n}/best/{budget}"

-- a table of routes in the form of `matchit`
abbrev pub Table : Type 0
Table = RowsOf (RouteOf Route)

-- a table with one route more, by its parsed text
abbrev pub with_read : Result Scan InsertError → Route → Table → Table
with_read (Ok scan) route table = placed (scan.pattern, route_from scan route) table
with_read (Err e) route table = table

unfoldable pub with_route : Route → Table → Table
with_route route table = with_read (parse_route (text_of route)) route table

-- a table with these routes more, the first of them first
abbrev pub with_routes : List Route → Table → Table
with_routes [] table = table
with_routes (route ∷ more) table = with_routes more (with_route route table)

-- the table of all routes
unfoldable pub route_table : Table
route_table = with_routes all_routes []

-- the mark of a query, of an escape or of a fragment
abbrev pub is_mark : ℕ → Bool
is_mark byte = (byte == 63) || (byte == 37) || (byte == 35)

-- a target that can have a route: it begins with a slash, and has no such mark
abbrev pub is_plain_target : List ℕ → Bool
is_plain_target [] = false
is_plain_target (byte ∷ bytes) = (byte == 47) && not (list_any is_mark (byte ∷ bytes))

-- the route of a target, if it has one
unfoldable pub route_of : List ℕ → Option Route
route_of target =
    if is_plain_target target then option_map (λ row. row.value) (first route_table target)
    else None

-- the one method of a route
abbrev pub method_of : Route → List ℕ
method_of Publish = codes "POST"
method_of OpenDesk = codes "POST"
method_of SetKey = codes "POST"
method_of Capacities = codes "GET"
method_of Plans = codes "GET"
method_of ImportProject = codes "POST"
method_of ImportShop = codes "POST"
method_of Remove = codes "DELETE"
method_of Bind = codes "POST"
method_of SetCalendar = codes "POST"
method_of SetLag = codes "POST"
method_of Dates = codes "GET"
method_of Schedule = codes "GET"
method_of Chart = codes "GET"
method_of Days = codes "GET"
method_of Best = codes "GET"
