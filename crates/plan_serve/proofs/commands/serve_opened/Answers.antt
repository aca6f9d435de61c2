use Rattle.plan_store.specs.SqlBooks.{sql_shelf}
use Rattle.plan_door.specs.Ports.{TakesTurns}
use Rattle.plan_serve.proofs.ReturnedLemmas.{opened_conn}
use Rattle.plan_serve.proofs.commands.serve_opened.Goals as goal

pub returns-clause-tied : goal.returns-clause-tied
returns-clause-tied g c =
    opened_conn c.args.opened c.in-Ok.book
    (λ book after. TakesTurns (sql_shelf g.S.Store) book after c.args.service.now.count c.serve_book-done.result.0)
    _ c.serve_book-done.result.1 c.connection_of.result c.in-Ok.ensures.book c.serve_book-done.ensures.tied c.connection_of.ensures.same
