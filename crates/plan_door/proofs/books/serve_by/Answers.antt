use Rattle.plan_door.proofs.BookLemmas.{port_turns}
use Rattle.plan_door.proofs.books.serve_by.Goals as goal

pub returns-in-Err-clause-turns : goal.returns-in-Err-clause-turns
returns-in-Err-clause-turns g c =
    port_turns g.B.Book.shelf c.args.office.now c.args.service.now.count c.kind.result c.port_fault.result c.port_fault.ensures
