use Rattle.std.proofs.Common.{ℕ, List, ap, subst}
use Rattle.plan_kernel.specs.Clauses.{IsNegated}
use Rattle.plan_kernel.specs.Kernels.{State}
use Rattle.plan_kernel.proofs.ConflictLemmas.{taught}
use Rattle.plan_kernel.proofs.kernel.Kernel.keep.Goals as goal

pub learn-requires-clause-clause : goal.learn-requires-clause-clause
learn-requires-clause-clause c =
    let inside = c.self.inside in
    taught inside.known.input inside.known.upper inside.conflict.values.items c.in_ok-clause.clause.items c.self.invariant.holds.limit
    (c.self.invariant.apart c.if-not-self.false) c.in_ok-clause.ensures

pub invariant_of-self : goal.invariant_of-self
invariant_of-self c = record {
  holds = c.learn.ensures.holds;
  apart = rw (c.learn.ensures.input, c.learn.ensures.upper) c.self.invariant.apart;
  listed = c.self.invariant.listed;
}

pub returns-clause-learned : goal.returns-clause-learned
returns-clause-learned c =
    let clause = c.in_ok-clause.clause in
    let old = ap (λ (s : State). s.conflict.values.items) c.self.view_is in
    (clause, subst (λ (values : List ℕ). IsNegated values clause.items) old c.in_ok-clause.ensures, c.in_ok-lesson.ensures.lesson)
