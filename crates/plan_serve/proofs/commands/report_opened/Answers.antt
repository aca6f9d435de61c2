use Rattle.plan_store.specs.SqlBooks.{sql_shelf}
use Rattle.plan_serve.specs.Reports.{ReportsTo}
use Rattle.plan_serve.proofs.ReturnedLemmas.{opened_conn}
use Rattle.plan_serve.proofs.commands.report_opened.Goals as goal

pub returns-clause-tied : goal.returns-clause-tied
returns-clause-tied g c =
    opened_conn c.args.opened c.in-Ok.book
    (λ book after. ReportsTo (sql_shelf g.S.Store) book after c.args.report (g.W.Sink.taken c.args.writer.now) (g.W.Sink.taken c.report_over-done.new.writer) c.report_over-done.result.0)
    _ c.report_over-done.result.1 c.connection_of.result c.in-Ok.ensures.book c.report_over-done.ensures.tied c.connection_of.ensures.same
