use Rattle.std.proofs.Common.{inr, sym}
use Rattle.plan_kernel.proofs.KeptLemmas.{kept_at}
use Rattle.plan_kernel.proofs.known.clause_of.Goals as goal

pub returns-in-Some : goal.returns-in-Some
returns-in-Some c =
    inr (
      c.in-Some.literals,
      kept_at c.args.clauses.now c.args.clause c.index-clauses-clause.result
          c.in-Some.literals c.if-clause-clauses.false c.index-clauses-clause.is c.in-Some.is,
      sym
          c.as_slice.ensures.value,
    )
