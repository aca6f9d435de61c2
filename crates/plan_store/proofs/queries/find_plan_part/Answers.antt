use Rattle.sqlite.specs.Held.{state}
use Rattle.plan_store.proofs.QueryEffectLemmas.{asks_map}
use Rattle.plan_store.proofs.ReadMeanings.{plan_plain, plan_listed}
use Rattle.plan_store.proofs.ReadLemmas.{plan_read}
use Rattle.plan_store.proofs.queries.find_plan_part.Goals as goal

pub first_row-requires-clause-plain : goal.first_row-requires-clause-plain
first_row-requires-clause-plain g c = plan_plain

pub first_row-requires-clause-ours : goal.first_row-requires-clause-ours
first_row-requires-clause-ours g c = plan_listed

pub returns : goal.returns
returns g c =
    let old = state g.S.Store c.args.conn.now in
    let new = state g.S.Store c.first_row.new.conn in
    asks_map old new c.requires.ready c.first_row.result _ _
    (λ x stands h. plan_read old stands c.args.desk.now c.args.n x
    (rw (c.params-to_sql.ensures, c.params-to_sql-2.ensures) at h)) c.first_row.ensures
