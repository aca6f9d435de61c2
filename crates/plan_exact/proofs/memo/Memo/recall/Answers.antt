use Rattle.std.proofs.Common.{sym, refl}
use Rattle.plan_exact.specs.Memos.{asked_by}
use Rattle.plan_exact.proofs.MemoLemmas.{same_question, not_found, found_answers, copy_answers, promoted_answered, promoted_remembers}
use Rattle.plan_exact.proofs.memo.Memo.recall.Goals as goal

pub returns-in_default-clause-missing : goal.returns-in_default-clause-missing
returns-in_default-clause-missing c =
    (rw (← c.self.view_is) (not_found c.args.question.now c.self.inside.kept.entries (sym c.in_default.ensures)), refl)

pub invariant_of-self : goal.invariant_of-self
invariant_of-self c = rw c.promote.ensures.entries (record {
  room = c.self.invariant.room;
  answered = promoted_answered (same_question c.args.question.now) c.self.inside.kept.entries c.self.invariant.answered;
})

pub returns-clause-found : goal.returns-clause-found
returns-clause-found c =
    let copied = c.in_ok-copy.ensures in
    copy_answers (asked_by c.args.question.now) c.in-Some.solved.now c.in_ok-copy.copy copied.kind copied.starts copied.makespan
    (found_answers c.args.question.now c.self.inside.kept.entries c.in-Some.solved.now c.self.invariant.answered (sym c.in-Some.ensures))

pub returns-clause-moved : goal.returns-clause-moved
returns-clause-moved c =
    rw (← c.self.view_is) (rw c.promote.ensures.entries (promoted_remembers c.args.question.now c.self.inside.kept.entries c.in-Some.solved.now (sym c.in-Some.ensures)))
