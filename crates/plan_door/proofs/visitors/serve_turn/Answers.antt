use Rattle.std.proofs.Common.{refl}
use Rattle.plan_door.specs.Turns.{visited}
use Rattle.plan_door.proofs.TurnLemmas.{visit_of, served_by}
use Rattle.plan_door.proofs.visitors.serve_turn.Goals as goal

pub returns-clause-turn : goal.returns-clause-turn
returns-clause-turn g c =
    let known = g.V.Reader.Client.known c.serve_conn-end.new.reader in
    let served = served_by g.B.Book.shelf c.args.office.now c.serve_conn-end.new.office (g.V.Reader.Client.known c.in-Ok.reader) known
    (g.V.Writer.Sink.taken c.in-Ok.writer) (g.V.Writer.Sink.taken c.serve_conn-end.new.writer) c.serve_conn-end.result
    c.in-Ok.ensures.fresh.0 c.in-Ok.ensures.fresh.1 c.serve_conn-end.ensures.ends in (
      visited (visit_of known served.0 c.serve_conn-end.result served.2.0),
      served.2.1,
      record {
        reader = c.in-Ok.reader;
        writer = c.in-Ok.writer;
        between = c.admit.new.self;
        admitted = c.in-Ok.ensures.admitted;
        fresh = c.in-Ok.ensures.fresh.0;
        unsent = c.in-Ok.ensures.fresh.1;
        heard = c.serve_conn-end.new.reader;
        told = c.serve_conn-end.new.writer;
        read = refl;
        ended = refl;
        sent = served.1;
        dismissed = c.dismiss.ensures.dismissed;
      },
    )
