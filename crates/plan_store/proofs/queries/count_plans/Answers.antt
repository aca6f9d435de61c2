use Rattle.std.proofs.Common.{◌∙◌, Ok}
use Rattle.sqlite.specs.Held.{state}
use Rattle.plan_store.specs.Stores.{world_of}
use Rattle.plan_store.proofs.QueryEffectLemmas.{asks_again}
use Rattle.plan_store.proofs.KeptLemmas.{kept_counted}
use Rattle.plan_store.proofs.queries.count_plans.Goals as goal

pub returns : goal.returns
returns g c =
    let old = state g.S.Store c.args.conn.now in
    let new = state g.S.Store c.check_open.new.conn in
    let it = c.in_ok-check_open.ensures in
    asks_again old new (Ok tt) _ (Ok c.count.result) _ it (λ clean.
    let live = (it.answer clean).0 in
    let was = it.same clean live in
    (live, c.count.ensures ∙ kept_counted (world_of old.now.trees) c.args.desk.now c.args.plans.now (c.requires.plans (it.honesty clean) was.0)))
