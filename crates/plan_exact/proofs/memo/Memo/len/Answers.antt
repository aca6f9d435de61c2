use Rattle.plan_exact.proofs.MemoLemmas.{questions_differ}
use Rattle.plan_exact.proofs.memo.Memo.len.Goals as goal

pub returns-clause-once : goal.returns-clause-once
returns-clause-once c = rw (← c.self.view_is) (questions_differ c.self.inside.kept.entries c.len.ensures.valid.0)
