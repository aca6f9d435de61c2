use Rattle.plan_http.proofs.LawLemmas.{one_verdict}
use Rattle.plan_http.proofs.laws.one_verdict.Goals as goal

pub returns : goal.returns
returns c = record { verdict = one_verdict }
