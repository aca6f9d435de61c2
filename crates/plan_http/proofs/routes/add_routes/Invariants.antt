use Rattle.std.proofs.Common.{◌≡◌, drop}
use Rattle.plan_http.specs.Routes.{with_routes}
use Rattle.plan_http.proofs.routes.add_routes.Given as goal

-- adding the routes that are left gives the table of all routes
abbrev pub invariant-loop-route : goal.invariant-loop-route
invariant-loop-route l = with_routes (drop l.route-index l.routes) l.router ≡ with_routes l.routes l.fn.router
