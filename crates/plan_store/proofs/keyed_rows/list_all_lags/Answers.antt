use Rattle.sqlite.specs.Held.{state}
use Rattle.plan_store.proofs.QueryEffectLemmas.{asks_map}
use Rattle.plan_store.proofs.KeyedRowsMeanings.{all_lags_plain, all_lags_listed}
use Rattle.plan_store.proofs.KeyedRowsLemmas.{all_lags_read}
use Rattle.plan_store.proofs.keyed_rows.list_all_lags.Goals as goal

pub list_rows-requires-clause-plain : goal.list_rows-requires-clause-plain
list_rows-requires-clause-plain g c = all_lags_plain

pub list_rows-requires-clause-ours : goal.list_rows-requires-clause-ours
list_rows-requires-clause-ours g c = all_lags_listed

pub returns : goal.returns
returns g c =
    let old = state g.S.Store c.args.conn.now in
    let new = state g.S.Store c.list_rows.new.conn in
    asks_map old new c.requires.ready c.list_rows.result _ _ (λ x stands h. all_lags_read old stands x.items h) c.list_rows.ensures
