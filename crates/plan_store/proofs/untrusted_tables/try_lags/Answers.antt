use Rattle.std.proofs.Common.{sym, subst}
use Rattle.sqlite.specs.Held.{state}
use Rattle.plan_store.specs.QueryEffect.{IsQueryUnder}
use Rattle.plan_store.specs.Layouts.{schema_of}
use Rattle.plan_store.proofs.TableTestLemmas.{looks_map}
use Rattle.plan_store.proofs.TableMeanings.{lags_text, lags_asks}
use Rattle.plan_store.proofs.LaidLemmas.{lags_read_in}
use Rattle.plan_store.proofs.untrusted_tables.try_lags.Goals as goal

pub try_rows-requires-clause-query : goal.try_rows-requires-clause-query
try_rows-requires-clause-query g c = subst (λ l. IsQueryUnder (schema_of l) lags_text) (sym c.in-Second.is) lags_asks

pub returns-in-Second : goal.returns-in-Second
returns-in-Second g c =
    let old = state g.S.Store c.args.conn.now in
    let new = state g.S.Store c.try_rows.new.conn in
    looks_map c.args.layout old new c.requires.ready c.try_rows.result _ _ (λ found laid h. lags_read_in c.args.layout c.in-Second.is old laid found h) c.try_rows.ensures
