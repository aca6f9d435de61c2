use Rattle.plan_http.proofs.HeadlineLemmas.{apart_runs_are_alike}
use Rattle.plan_http.proofs.headline.apart_runs_are_alike.Goals as goal

pub returns : goal.returns
returns g c = apart_runs_are_alike g.A.Book.shelf g.B.Book.shelf
