use Rattle.plan_exact.specs.Memos.{asked_by}
use Rattle.plan_exact.proofs.MemoLemmas.{found_solves_project, solution_answers_project}
use Rattle.plan_exact.proofs.memo.Memo.project_answer.Goals as goal

pub returns-in-Some-clause-solution : goal.returns-in-Some-clause-solution
returns-in-Some-clause-solution c =
    found_solves_project (asked_by c.args.question) c.args.instance.now c.args.budget c.in_ok-solved.field-0 c.in-Some.solved c.requires c.in-Some.is c.in_ok-solved.ensures.found

pub keep-requires-clause-answered : goal.keep-requires-clause-answered
keep-requires-clause-answered c =
    solution_answers_project (asked_by c.args.question) c.args.instance.now c.args.budget c.in_ok-solved-2.solved c.requires c.in_ok-solved-2.ensures.solution
