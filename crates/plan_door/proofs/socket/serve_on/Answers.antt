use Rattle.std.proofs.Common.{arith}
use Rattle.plan_door.specs.declared.socket.SocketVisitors.{SocketVisitors}
use Rattle.plan_door.proofs.SocketLemmas.{failed_in_turns}
use Rattle.plan_door.proofs.socket.serve_on.Goals as goal

pub returns-clause-closed : goal.returns-clause-closed
returns-clause-closed g c e =
    let v = c.serve_visitors-served.ensures.closed e in
    let failed = failed_in_turns v.4 (λ (visitors : SocketVisitors). visitors.acceptor.failures) (λ old new r admits. (admits.3, admits.4)) (λ old new reader writer e dismisses. dismisses.3) in
    (v.4.turns, omega (arith, v.4.many, v.2), omega (arith, failed, v.0, c.socket_visitors-visitors.ensures.open), v.4.served)
