use Rattle.std.proofs.Common.{◌≡◌, ◌+◌}
use Rattle.plan_door.specs.Turns.{Visiting}
use Rattle.plan_door.proofs.visitors.serve_visitors.Given as goal

-- each turn so far awaited one connection
abbrev pub invariant-loop : goal.invariant-loop
invariant-loop g l = record {
  awaited : g.V.Visitors.awaited l.visitors ≡ g.V.Visitors.awaited l.fn.visitors + l.counter;
  visits : Visiting g.V.Reader.Client.known g.V.Writer.Sink.taken g.V.Visitors.admits g.V.Visitors.dismisses
      g.B.Book.shelf l.fn.office l.office l.fn.visitors l.visitors l.counter;
}
