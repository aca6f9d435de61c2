use Rattle.std.proofs.Common.{◌≡◌, ◌+◌}
use Rattle.plan_prove.specs.States.{AreRefuted}
use Rattle.plan_prove.proofs.refutation.refute.Given as goal

-- nodes are counted, and if all waiting states are refuted, so are those that waited at first
abbrev pub invariant-loop-node : goal.invariant-loop-node
invariant-loop-node l = record {
  left : l.nodes + l._node ≡ l.fn.nodes;
  rest : AreRefuted l.graph l.limit l.waiting.items → AreRefuted l.graph l.limit l.fn.waiting.items;
}
