use Rattle.sqlite.specs.Held.{state}
use Rattle.plan_store.proofs.QueryEffectLemmas.{asks_map}
use Rattle.plan_store.proofs.KeyedRowsMeanings.{plan_keys_plain, plan_keys_listed}
use Rattle.plan_store.proofs.KeyedRowsLemmas.{plan_keys_read}
use Rattle.plan_store.proofs.keyed_rows.list_plan_keys.Goals as goal

pub list_rows-requires-clause-plain : goal.list_rows-requires-clause-plain
list_rows-requires-clause-plain g c = plan_keys_plain

pub list_rows-requires-clause-ours : goal.list_rows-requires-clause-ours
list_rows-requires-clause-ours g c = plan_keys_listed

pub returns : goal.returns
returns g c =
    let old = state g.S.Store c.args.conn.now in
    let new = state g.S.Store c.list_rows.new.conn in
    asks_map old new c.requires.ready c.list_rows.result _ _ (λ x stands h. plan_keys_read old stands x.items h) c.list_rows.ensures
