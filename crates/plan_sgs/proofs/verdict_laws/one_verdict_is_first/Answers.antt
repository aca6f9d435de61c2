use Rattle.plan_sgs.specs.Verdicts.{OneVerdictIsFirst}
use Rattle.plan_sgs.proofs.Findings.{verdict_once}
use Rattle.plan_sgs.proofs.VerdictLemmas.{verdict_there}
use Rattle.plan_sgs.proofs.verdict_laws.one_verdict_is_first.Goals as goal

pub returns : goal.returns
unfolding OneVerdictIsFirst
returns c = λ p s whole. let there = verdict_there p s whole in (there.0, there.1, λ w first. verdict_once p s w there.0 first there.1)
