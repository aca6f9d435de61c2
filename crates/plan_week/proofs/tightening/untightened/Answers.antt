use Rattle.plan_week.proofs.TighteningLemmas.{as_it_was}
use Rattle.plan_week.proofs.tightening.untightened.Goals as goal

pub returns-clause-answer : goal.returns-clause-answer
returns-clause-answer c =
    as_it_was c.args.week.now c.args.late c.args.starts.now _ c.makespan_of-makespan.result c.in_ok-copy.ensures.items c.requires.plan c.requires.in_time
    c.makespan_of-makespan.ensures
