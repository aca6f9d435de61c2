use Rattle.plan_http.proofs.RouteLawLemmas.{routes_are_these}
use Rattle.plan_http.proofs.laws.routes_are_these.Goals as goal

pub returns : goal.returns
returns c = routes_are_these
