use Rattle.std.proofs.Common.{sym, subst}
use Rattle.sqlite.specs.Files.{file_state, over_files}
use Rattle.plan_store.specs.BookCalls.{IsDurable}
use Rattle.plan_store.specs.OnDisk.{IsTakenFrom}
use Rattle.plan_store.proofs.TransactionLemmas.{mapped_ok}
use Rattle.plan_store.proofs.QueryEffectLemmas.{was_if_ok}
use Rattle.plan_store.proofs.FoundLemmas.{refused_with, serves_taken, taken_from, taken_durably}
use Rattle.plan_store.proofs.on_disk.SqlBook+FileStore+FileFrom+F.open_from.Goals as goal

pub take_tables-requires-clause-in_order : goal.take_tables-requires-clause-in_order
take_tables-requires-clause-in_order g c =
    let conn = c.in_ok-conn.conn in
    let was = mapped_ok c.open_at.result c.map_err.result conn _ c.map_err.ensures.cases c.in_ok-conn.was in
    was_if_ok _ c.open_at.result conn was c.open_at.ensures.in_order

pub on_tables-requires : goal.on_tables-requires
on_tables-requires g c =
    serves_taken (file_state c.in_ok-conn.conn) (file_state c.take_tables.new.conn) c.in-Ok.kept c.take_tables.result c.in-Ok.kept c.in-Ok.is c.take_tables.ensures.takes
    c.in-Ok.ensures.plans

pub returns-in-Ok-clause-found : goal.returns-in-Ok-clause-found
returns-in-Ok-clause-found g c =
    let conn = c.in_ok-conn.conn in
    let was = mapped_ok c.open_at.result c.map_err.result conn _ c.map_err.ensures.cases c.in_ok-conn.was in
    subst (λ b. IsTakenFrom g.F.Start b over_files) (sym c.on_tables.ensures)
    (taken_from over_files g.F.Start conn c.take_tables.new.conn c.take_tables.result c.in-Ok.kept c.in-Ok.is c.take_tables.ensures.takes
    (was_if_ok _ c.open_at.result conn was c.open_at.ensures.found))

pub returns-in-Ok-clause-durable : goal.returns-in-Ok-clause-durable
returns-in-Ok-clause-durable g c =
    subst (λ b. IsDurable (file_state b)) (sym c.on_tables.ensures)
    (taken_durably over_files g.F.Start c.in_ok-conn.conn c.take_tables.new.conn c.take_tables.result c.in-Ok.kept c.in-Ok.is c.take_tables.ensures.takes)

pub returns-in-Err-clause-refused : goal.returns-in-Err-clause-refused
returns-in-Err-clause-refused g c =
    let conn = c.in_ok-conn.conn in
    let was = mapped_ok c.open_at.result c.map_err.result conn _ c.map_err.ensures.cases c.in_ok-conn.was in (
      conn,
      was_if_ok _ c.open_at.result conn was c.open_at.ensures.found,
      refused_with over_files (file_state conn) c.take_tables.new.conn c.in-Err.fault c.take_tables.result c.in-Err.is c.take_tables.ensures.takes,
    )
