use Rattle.plan_kernel.proofs.KeptLemmas.{reordered_kept}
use Rattle.plan_kernel.proofs.kernel.Kernel.swap.Goals as goal

pub invariant_of-self : goal.invariant_of-self
invariant_of-self c =
    let known = c.self.inside.known in
    let holds = c.self.invariant.holds in
    record {
      holds = record {
        limit = holds.limit;
        best = holds.best;
        facts = holds.facts;
        clauses = reordered_kept known.input known.upper known.clauses.items c.swap.new.clauses.items c.swap.ensures holds.clauses;
        refuted = holds.refuted;
      };
      apart = c.self.invariant.apart;
      listed = c.self.invariant.listed;
    }
