use Rattle.std.proofs.Common.{rules}
use Rattle.plan_psplib.proofs.sm.project.read_sm.Goals as goal

pub returns-in_err-document-clause-early : goal.returns-in_err-document-clause-early
returns-in_err-document-clause-early c = λ f is. let early = c.read_document.ensures.early f is in search rules

pub returns-clause-early : goal.returns-clause-early
returns-clause-early c = λ f is. let early = c.read_document.ensures.early f is in search rules
