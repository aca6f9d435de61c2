use Rattle.std.proofs.Common.{◌≤◌}
use Rattle.plan_door.proofs.socket.Acceptor.next.Given as goal

-- no accept has failed
abbrev pub invariant-loop : goal.invariant-loop
invariant-loop l = l.self.failures ≤ l.fn.self.failures
