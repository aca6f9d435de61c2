use Rattle.sqlite.specs.Held.{state}
use Rattle.plan_store.proofs.QueryEffectLemmas.{asks_map}
use Rattle.plan_store.proofs.ReadMeanings.{bound_plain, bound_listed}
use Rattle.plan_store.proofs.ReadLemmas.{bound_read}
use Rattle.plan_store.proofs.queries.is_bound.Goals as goal

pub has_row-requires-clause-plain : goal.has_row-requires-clause-plain
has_row-requires-clause-plain g c = bound_plain

pub has_row-requires-clause-ours : goal.has_row-requires-clause-ours
has_row-requires-clause-ours g c = bound_listed

pub returns : goal.returns
returns g c =
    let old = state g.S.Store c.args.conn.now in
    let new = state g.S.Store c.has_row.new.conn in
    asks_map old new c.requires.ready c.has_row.result _ _
    (λ x stands h. bound_read old stands c.args.desk.now c.args.n c.args.place x
    (rw (c.params-to_sql.ensures, c.params-to_sql-2.ensures, c.params-to_sql-3.ensures) at h))
    c.has_row.ensures
