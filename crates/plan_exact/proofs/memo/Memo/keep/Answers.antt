use Rattle.plan_exact.specs.Memos.{asked_by}
use Rattle.plan_exact.proofs.MemoLemmas.{copy_answers, put_is_memo, put_remembers}
use Rattle.plan_exact.proofs.memo.Memo.keep.Goals as goal

pub invariant_of-self-2 : goal.invariant_of-self-2
invariant_of-self-2 c =
    let copied = c.in_ok-copy.ensures in
    let answered = copy_answers (asked_by c.args.question) c.args.solved.now c.in_ok-copy.copy copied.kind copied.starts copied.makespan c.requires.answered in
    rw c.in_ok-put.ensures.entries (put_is_memo c.self.inside.kept c.args.question c.in_ok-copy.copy c.self.invariant (rw (← c.self.view_is) at c.requires.new) answered)

pub returns-clause-ok : goal.returns-clause-ok
returns-clause-ok c =
    rw (← c.self.view_is) (rw c.in_ok-put.ensures.entries (put_remembers c.self.inside.kept c.args.question c.in_ok-copy.copy c.self.invariant (rw (← c.self.view_is) at c.requires.new)))
