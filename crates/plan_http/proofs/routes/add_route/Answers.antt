use Rattle.plan_http.proofs.RouteLemmas.{inserted}
use Rattle.plan_http.proofs.routes.add_route.Goals as goal

pub returns : goal.returns
returns c = inserted c.text.result.now c.args.route c.args.router.now c.insert.new.self _ c.text.ensures c.in-Ok.ensures
