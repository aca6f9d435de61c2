use Rattle.std.proofs.Common.{ℕ, ◌+◌, arith, rules, subst}
use Rattle.plan_door.specs.Turns.{Visiting}
use Rattle.plan_door.proofs.TurnLemmas.{unvisited, visiting_more, visiting_moves}
use Rattle.plan_door.proofs.visitors.serve_visitors.Goals as goal

pub loop-init : goal.loop-init
loop-init g c = record {
  awaited = omega arith;
  visits = unvisited g.V.Reader.Client.known g.V.Writer.Sink.taken g.V.Visitors.admits g.V.Visitors.dismisses
      g.B.Book.shelf c.args.office.now c.args.visitors.now;
}

pub loop-preserved : goal.loop-preserved
loop-preserved g c = record {
  awaited = omega (arith, c.serve_turn.ensures.awaited, c.loop.invariant.awaited);
  visits = visiting_more g.V.Reader.Client.known g.V.Writer.Sink.taken g.V.Visitors.admits g.V.Visitors.dismisses
      g.B.Book.shelf c.args.office.now c.loop.office c.serve_turn.new.office c.args.visitors.now c.loop.visitors c.serve_turn.new.visitors
      c.loop.counter c.loop.invariant.visits c.serve_turn.ensures.turn;
}

pub returns-clause-visits : goal.returns-clause-visits
returns-clause-visits g c =
    subst (λ (n : ℕ). Visiting g.V.Reader.Client.known g.V.Writer.Sink.taken g.V.Visitors.admits g.V.Visitors.dismisses
    g.B.Book.shelf c.args.office.now c.loop.office c.args.visitors.now c.loop.visitors n)
    (omega (arith, c.loop-test.false, c.loop.auto.counter-end)) c.loop.invariant.visits

pub returns-clause-turns : goal.returns-clause-turns
returns-clause-turns g c =
    let v = c.loop.invariant.visits in
    (v.turns, omega (arith, v.many, c.loop-test.false, c.loop.auto.counter-end), v.served)

pub returns-clause-moves : goal.returns-clause-moves
returns-clause-moves g c =
    let m = visiting_moves g.V.Reader.Client.known g.V.Writer.Sink.taken g.V.Visitors.admits g.V.Visitors.dismisses
    g.B.Book.shelf c.args.office.now c.loop.office c.args.visitors.now c.loop.visitors c.loop.counter c.loop.invariant.visits in
    (m.0, omega (arith, m.1, c.loop.auto.counter-end), m.2)

pub returns-then-is_closed-clause-closed : goal.returns-then-is_closed-clause-closed
returns-then-is_closed-clause-closed g c e = (
  search rules,
  c.loop.counter + 1,
  omega (arith, c.loop-test.true),
  omega (arith, c.serve_turn.ensures.awaited, c.loop.invariant.awaited),
  visiting_more g.V.Reader.Client.known g.V.Writer.Sink.taken g.V.Visitors.admits g.V.Visitors.dismisses
      g.B.Book.shelf c.args.office.now c.loop.office c.serve_turn.new.office c.args.visitors.now c.loop.visitors c.serve_turn.new.visitors
      c.loop.counter c.loop.invariant.visits c.serve_turn.ensures.turn,
)
