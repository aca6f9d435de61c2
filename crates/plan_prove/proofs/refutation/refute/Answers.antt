use Rattle.std.proofs.Common.{arith, sym}
use Rattle.std.proofs.lemmas.Bool.{eqb-true}
use Rattle.plan_prove.specs.States.{Covers}
use Rattle.plan_prove.proofs.StateLemmas.{none_wait, at_none, cover_rest}
use Rattle.plan_prove.proofs.refutation.refute.Goals as goal

pub loop-node-preserved : goal.loop-node-preserved
loop-node-preserved c = record {
  left = omega (arith, c.loop-node.invariant.left, c.loop-node-test.true);
  rest = λ all. c.loop-node.invariant.rest (cover_rest c.args.graph.now c.args.limit c.loop-node.waiting.items c.pop.new.self.items c.visit.new.waiting.items c.in-Some.state c.in-Some.ensures.items
      (at_none c.in_ok-heads.field-0 (Covers c.args.graph.now c.args.limit c.visit.new.waiting.items c.pop.new.self.items c.in-Some.state) c.in_default-2.is c.in_ok-heads.ensures) all);
}

pub returns-in_default-clause-refuted : goal.returns-in_default-clause-refuted
returns-in_default-clause-refuted c = λ is.
    c.loop-node.invariant.rest (none_wait c.args.graph.now c.args.limit c.loop-node.waiting.items (omega (arith, c.loop-node.waiting.ok.0, c.in_default.ensures.cases.0)))

pub returns-then-is_empty-clause-refuted : goal.returns-then-is_empty-clause-refuted
returns-then-is_empty-clause-refuted c = λ is.
    c.loop-node.invariant.rest (none_wait c.args.graph.now c.args.limit c.loop-node.waiting.items (omega (arith, c.loop-node.waiting.ok.0, eqb-true _ 0 (sym c.if-is_empty.ensures))))
