use Rattle.std.proofs.Common.{Ok}
use Rattle.sqlite.specs.Held.{state}
use Rattle.plan_store.proofs.QueryEffectLemmas.{asks_from, asks_again, rest_of}
use Rattle.plan_store.proofs.queries.check_open.Goals as goal

pub prepare-requires : goal.prepare-requires
prepare-requires g c = record { rest = rest_of _ c.requires.ready }

pub returns : goal.returns
returns g c =
    let old = state g.S.Store c.args.conn.now in
    let new = state g.S.Store c.prepare.new.conn in
    let it = asks_from old new c.requires.ready (Ok c.in_ok-prepare.field-0) _ (λ _. Unit {0}) (λ x stands h. tt) c.in_ok-prepare.ensures in
    asks_again old new (Ok c.in_ok-prepare.field-0) _ (Ok tt) _ it (λ clean. ((it.answer clean).0, tt))
