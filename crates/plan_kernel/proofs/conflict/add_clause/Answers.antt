use Rattle.std.proofs.Common.{inl, inr, arith}
use Rattle.std.proofs.lemmas.List.{take_all}
use Rattle.plan_kernel.specs.declared.literal.Literal.{Literal}
use Rattle.plan_kernel.proofs.TouchedLemmas.{covered_more}
use Rattle.plan_kernel.proofs.conflict.add_clause.Goals as goal
use Rattle.plan_kernel.proofs.conflict.add_clause.Goals.{else-not-implies-via-then-not-implies+else-not-add, else-not-implies-via-else-not-implies}

pub loop-literal-preserved : goal.loop-literal-preserved
loop-literal-preserved c =
    let no_literal : Literal = record { half = 0; value = 0 } in
    let before = c.loop-literal.invariant in
    elim c.else-not-implies.branch [
      | else-not-implies-via-then-not-implies+else-not-add w ↦ rw (w.values-is, w.touched-is) (record {
        listed = w.add.ensures.listed;
        raised = λ half. omega (arith, before.raised half, w.add.ensures.raised half);
        covered = covered_more c.args.facts.now c.loop-literal.values.items w.add.new.values.items c.args.pivot c.args.clause.now c.loop-literal.literal-index no_literal
            c.loop-literal-test.true before.covered w.add.ensures.raised (inr (rw w.negated.ensures at (w.add.ensures.covered w.if-not-add.false)));
      })
      | else-not-implies-via-else-not-implies w ↦ rw (w.values-is, w.touched-is) (record {
        listed = before.listed;
        raised = before.raised;
        covered = covered_more c.args.facts.now c.loop-literal.values.items c.loop-literal.values.items c.args.pivot c.args.clause.now c.loop-literal.literal-index no_literal
            c.loop-literal-test.true before.covered (λ half. omega arith) (inl (c.implies.ensures w.if-not-implies.false));
      })
    ]

pub returns-clause-covered : goal.returns-clause-covered
returns-clause-covered c _ =
    let whole = take_all c.loop-literal.literal-index c.args.clause.now c.loop-literal-test.false in
    rw whole at c.loop-literal.invariant.covered
