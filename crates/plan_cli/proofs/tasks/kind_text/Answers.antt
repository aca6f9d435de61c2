use Rattle.std.proofs.Common.{sym}
use Rattle.plan_cli.proofs.ListTaskLemmas.{check_refused}
use Rattle.plan_cli.proofs.tasks.kind_text.Goals as goal

pub returns-in-Some-clause-refused : goal.returns-in-Some-clause-refused
returns-in-Some-clause-refused g c =
    check_refused c.args.kind c.args.task c.in-Some.subject c.in-Some.starts c.args.file.now
    c.list_check_text.result (sym c.in-Some.ensures) c.list_check_text.ensures.refused
