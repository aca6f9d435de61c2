use Rattle.plan_psplib.proofs.SaysLemmas.{read_is_said, said_is_read}
use Rattle.plan_psplib.proofs.sm.document.read_document.Goals as goal

pub returns-clause-found : goal.returns-clause-found
returns-clause-found c = read_is_said c.args.text.now c.sections_of.result c.sections_of.ensures.exact

pub returns-clause-only : goal.returns-clause-only
returns-clause-only c = λ d says. said_is_read c.args.text.now c.sections_of.result d says c.sections_of.ensures.exact
