use Rattle.std.proofs.Common.{◌≡◌}
use Rattle.plan_door.proofs.TurnLemmas.{counted_ok, fresh_sides}
use Rattle.plan_door.proofs.socket.SocketVisitorsVisitors.admit.Goals as goal

pub returns-clause-untouched : goal.returns-clause-untouched
returns-clause-untouched c =
    counted_ok (λ sides. (sides.0.tally.calls ≡ 0) × (sides.1.tally.calls ≡ 0)) c.next_sides-sides.result c.count.result c.next_sides-sides.ensures.untouched c.count.ensures.answer

pub returns-clause-fresh : goal.returns-clause-fresh
returns-clause-fresh c =
    fresh_sides (λ sides. sides.0.received.bytes) (λ sides. sides.0.is_ended) (λ sides. sides.1.sent.bytes) c.count.result
    (counted_ok _ c.next_sides-sides.result c.count.result c.next_sides-sides.ensures.fresh c.count.ensures.answer)
