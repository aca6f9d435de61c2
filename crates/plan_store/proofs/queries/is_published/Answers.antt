use Rattle.sqlite.specs.Held.{state}
use Rattle.plan_store.proofs.QueryEffectLemmas.{asks_map}
use Rattle.plan_store.proofs.ReadMeanings.{known_plain, known_listed}
use Rattle.plan_store.proofs.ReadLemmas.{known_read}
use Rattle.plan_store.proofs.queries.is_published.Goals as goal

pub has_row-requires-clause-plain : goal.has_row-requires-clause-plain
has_row-requires-clause-plain g c = known_plain

pub has_row-requires-clause-ours : goal.has_row-requires-clause-ours
has_row-requires-clause-ours g c = known_listed

pub returns : goal.returns
returns g c =
    let old = state g.S.Store c.args.conn.now in
    let new = state g.S.Store c.has_row.new.conn in
    asks_map old new c.requires.ready c.has_row.result _ _ (λ x stands h. known_read old stands c.args.code.now x (rw (c.params-to_sql.ensures) at h)) c.has_row.ensures
