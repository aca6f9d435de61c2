use Rattle.plan_weekback.proofs.SamenessLemmas.{other}
use Rattle.plan_weekback.proofs.sameness.same_list.Goals as goal

pub returns-clause-no : goal.returns-clause-no
returns-clause-no c fails = other c.args.a.now c.args.b.now c.compared.result c.compared.ensures fails
