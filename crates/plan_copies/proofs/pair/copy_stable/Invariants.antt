use Rattle.std.proofs.Common.{◌≡◌, ◌+◌, ◌*◌, ◌≤◌}
use Rattle.plan_copies.proofs.pair.copy_stable.Given as goal

-- the files stay, and each try so far has opened them three or four times
abbrev pub invariant-loop : goal.invariant-loop
invariant-loop g l = record {
  same : g.O.Origin.contents l.origin ≡ g.O.Origin.contents l.fn.origin;
  least : g.O.Origin.opened l.fn.origin + l.counter * 3 ≤ g.O.Origin.opened l.origin;
  most : g.O.Origin.opened l.origin ≤ g.O.Origin.opened l.fn.origin + l.counter * 4;
}
