use Rattle.std.proofs.Common.{◌∙◌, ap}
use Rattle.plan_http.specs.Routes.{route_table, with_routes, all_routes}
use Rattle.plan_http.proofs.routes.Routes.new.Goals as goal

pub invariant_of-result : goal.invariant_of-result
unfolding route_table
invariant_of-result c = c.in_ok-add_routes.ensures ∙ ap (with_routes all_routes) c.new-router.ensures
