use Rattle.plan_http.proofs.ServedLemmas.{serving_is_run, served_apart}
use Rattle.plan_http.proofs.laws.served_desks_are_apart.Goals as goal

pub returns-clause-run : goal.returns-clause-run
returns-clause-run g c = serving_is_run g.B.Book.shelf

pub returns-clause-apart : goal.returns-clause-apart
returns-clause-apart g c = served_apart g.B.Book.shelf
