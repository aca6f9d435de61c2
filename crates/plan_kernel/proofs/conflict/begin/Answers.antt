use Rattle.plan_kernel.proofs.ConflictLemmas.{begun}
use Rattle.plan_kernel.proofs.conflict.begin.Goals as goal

pub returns-clause-holds : goal.returns-clause-holds
returns-clause-holds c =
    let known = c.args.known.now in
    record {
      holds = c.requires.holds;
      apart = λ added. begun known.input known.upper known.facts.items c.add_reason-conflict.new.conflict.values.items c.requires.holds.limit c.requires.holds.facts
          (c.add_reason-conflict.ensures.added added);
      listed = c.add_reason-conflict.ensures.listed;
    }
