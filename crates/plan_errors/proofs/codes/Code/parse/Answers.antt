use Rattle.plan_errors.proofs.CodeLemmas.{not_parsed}
use Rattle.plan_errors.proofs.codes.Code.parse.Goals as goal

-- src/codes.rt:197:5
pub returns-clause-none : goal.returns-clause-none
returns-clause-none c = not_parsed c.args.name.now c.named.result c.named.ensures.none
