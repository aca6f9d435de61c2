use Rattle.sqlite.specs.Held.{state}
use Rattle.plan_store.proofs.QueryEffectLemmas.{asks_map}
use Rattle.plan_store.proofs.ReadMeanings.{office_plain, office_listed}
use Rattle.plan_store.proofs.ReadLemmas.{office_read}
use Rattle.plan_store.proofs.queries.office_in.Goals as goal

pub first_digest-requires-clause-plain : goal.first_digest-requires-clause-plain
first_digest-requires-clause-plain g c = office_plain

pub first_digest-requires-clause-ours : goal.first_digest-requires-clause-ours
first_digest-requires-clause-ours g c = office_listed

pub returns : goal.returns
returns g c =
    let old = state g.S.Store c.args.conn.now in
    let new = state g.S.Store c.first_digest.new.conn in
    asks_map old new c.requires.ready c.first_digest.result _ _ (λ x stands h. office_read old stands x h) c.first_digest.ensures
