use Rattle.sqlite.specs.Held.{state}
use Rattle.plan_store.proofs.TableTestLemmas.{looks_map}
use Rattle.plan_store.proofs.TableMeanings.{binds_asks}
use Rattle.plan_store.proofs.LaidLemmas.{binds_read}
use Rattle.plan_store.proofs.untrusted_tables.try_binds.Goals as goal

pub try_rows-requires-clause-query : goal.try_rows-requires-clause-query
try_rows-requires-clause-query g c = binds_asks c.args.layout

pub returns : goal.returns
returns g c =
    let old = state g.S.Store c.args.conn.now in
    let new = state g.S.Store c.try_rows.new.conn in
    looks_map c.args.layout old new c.requires.ready c.try_rows.result _ _ (λ found laid h. binds_read c.args.layout old laid found h) c.try_rows.ensures
