use Rattle.std.proofs.Common.{refl, ◌∙◌, Err, Ok, sym, subst}
use Rattle.sqlite.specs.Effect.{Database}
use Rattle.sqlite.specs.Held.{state}
use Rattle.plan_store.specs.declared.fault.StoreFault.TheVariants.{NotOurs}
use Rattle.plan_store.specs.Stores.{world_of}
use Rattle.plan_store.specs.Adoption.{Takes}
use Rattle.plan_store.specs.KeptPlans.{HoldsPlans}
use Rattle.plan_store.proofs.AdoptLemmas.{refuses, no_layout, takes_made, takes_refused, kept_taken}
use Rattle.plan_store.proofs.adoption.take_tables.Goals as goal

pub returns-in_default-clause-takes : goal.returns-in_default-clause-takes
returns-in_default-clause-takes g c =
    let s = state g.S.Store c.args.conn.now in
    refuses s (Err NotOurs) NotOurs refl c.requires.outside (λ clean. (c.requires.in_order clean).is_open)
    (λ clean. no_layout s.now (λ layout e. c.in_default.ensures layout (c.schema.ensures.value ∙ e)))

pub returns-in-Ok-take_version-clause-takes : goal.returns-in-Ok-take_version-clause-takes
returns-in-Ok-take_version-clause-takes g c =
    let old = state g.S.Store c.args.conn.now in
    let mid = state g.S.Store c.read_version.new.conn in
    let new = state g.S.Store c.take_version.new.conn in
    let looks = c.in-Ok.ensures in
    takes_made old mid new looks.honesty (λ clean. (looks.same clean (looks.answer clean).0).1) looks.crash c.in-Ok-take_version.ensures.takes c.in-Ok.kept

pub returns-in-Err-clause-takes : goal.returns-in-Err-clause-takes
returns-in-Err-clause-takes g c =
    let old = state g.S.Store c.args.conn.now in
    let mid = state g.S.Store c.read_version.new.conn in
    let new = state g.S.Store c.take_version.new.conn in
    let looks = c.in-Ok.ensures in
    takes_refused old mid new looks.honesty (λ clean. (looks.same clean (looks.answer clean).0).1) looks.crash c.in-Err.fault c.in-Err.ensures.takes

pub returns-in-Ok-take_version-clause-plans : goal.returns-in-Ok-take_version-clause-plans
returns-in-Ok-take_version-clause-plans g c =
    let mid = state g.S.Store c.read_version.new.conn in
    let new = state g.S.Store c.take_version.new.conn in
    let looks = c.in-Ok.ensures in
    kept_taken mid new c.in-Ok.kept c.in-Ok-take_version.ensures.takes (λ clean.
    let it = looks.answer clean in
    subst (λ (db : Database). HoldsPlans (world_of db.trees).plans c.in-Ok.kept) (sym (looks.same clean it.0).1) (it.1.plans c.in-Ok-take_version.ensures.said))
