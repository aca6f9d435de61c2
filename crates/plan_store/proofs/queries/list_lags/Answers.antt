use Rattle.sqlite.specs.Held.{state}
use Rattle.plan_store.proofs.QueryEffectLemmas.{asks_map}
use Rattle.plan_store.proofs.ReadMeanings.{lags_plain, lags_listed}
use Rattle.plan_store.proofs.ReadLemmas.{lags_read}
use Rattle.plan_store.proofs.queries.list_lags.Goals as goal

pub list_rows-requires-clause-plain : goal.list_rows-requires-clause-plain
list_rows-requires-clause-plain g c = lags_plain

pub list_rows-requires-clause-ours : goal.list_rows-requires-clause-ours
list_rows-requires-clause-ours g c = lags_listed

pub returns : goal.returns
returns g c =
    let old = state g.S.Store c.args.conn.now in
    let new = state g.S.Store c.list_rows.new.conn in
    asks_map old new c.requires.ready c.list_rows.result _ _
    (λ x stands h. lags_read old stands c.args.desk.now c.args.n x.items
    (rw (c.params-to_sql.ensures, c.params-to_sql-2.ensures) at h)) c.list_rows.ensures
