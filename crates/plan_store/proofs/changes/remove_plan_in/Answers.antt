use Rattle.std.proofs.Common.{Ok, Err, sym, subst, filter, not, ◌==◌}
use Rattle.sqlite.specs.Held.{state}
use Rattle.plan_rows.specs.declared.rows.PlanEntry.{PlanEntry}
use Rattle.plan_rows.specs.Changes.{apply, RemovePlan}
use Rattle.plan_store.specs.Stores.{world_of}
use Rattle.plan_store.specs.BookCalls.{IsKept, Changes}
use Rattle.plan_store.proofs.KeptLemmas.{sets_by, holds_same, holds_removed, kept_made, kept_refused}
use Rattle.plan_store.proofs.changes.remove_plan_in.Goals as goal

pub remove_numbered-requires-clause-kept : goal.remove_numbered-requires-clause-kept
remove_numbered-requires-clause-kept g c =
    subst (λ n. IsKept (state g.S.Store c.args.conn.now) (apply c.args.desk.now (RemovePlan n))) (sym c.in_ok-number.ensures.same) c.requires.kept

pub returns-in-Ok-clause-changes : goal.returns-in-Ok-clause-changes
returns-in-Ok-clause-changes g c =
    let old = state g.S.Store c.args.conn.now in
    let new = state g.S.Store c.remove_numbered.new.conn in
    subst (λ n. Changes old new (Ok tt) (apply c.args.desk.now (RemovePlan n))) c.in_ok-number.ensures.same c.in-Ok.ensures

pub returns-in-Err-clause-changes : goal.returns-in-Err-clause-changes
returns-in-Err-clause-changes g c =
    let old = state g.S.Store c.args.conn.now in
    let new = state g.S.Store c.remove_numbered.new.conn in
    subst (λ n. Changes old new {X = Unit {0}} (Err c.in-Err.fault) (apply c.args.desk.now (RemovePlan n))) c.in_ok-number.ensures.same c.in-Err.ensures

pub returns-in-Ok-clause-plans : goal.returns-in-Ok-clause-plans
returns-in-Ok-clause-plans g c =
    let old = state g.S.Store c.args.conn.now in
    let new = state g.S.Store c.remove_numbered.new.conn in
    let desk = c.args.desk.now in
    let n = c.args.n in
    let made = subst (λ k. Changes old new (Ok tt) (apply desk (RemovePlan k))) c.in_ok-number.ensures.same c.in-Ok.ensures in
    let before = c.args.plans.now in
    let mid = c.make_list.new.self in
    let after = c.set_list.new.self in
    let sets = sets_by (filter (λ (e : PlanEntry). not (e.n == n))) mid after desk c.in_ok-list.list.items c.in_ok-list.ensures c.set_list.ensures in
    kept_made old new (apply desk (RemovePlan n)) before after made
    (λ clean live holds. holds_removed (world_of old.now.trees) desk n mid after sets
    (holds_same (world_of old.now.trees).plans before mid holds c.in_ok-make_list.ensures.same)) c.requires.plans

pub returns-in-Err-clause-plans : goal.returns-in-Err-clause-plans
returns-in-Err-clause-plans g c =
    let old = state g.S.Store c.args.conn.now in
    let new = state g.S.Store c.remove_numbered.new.conn in
    kept_refused old new _ c.args.plans.now c.make_list.new.self c.in-Err.fault c.in-Err.ensures c.in_ok-make_list.ensures.same c.requires.plans
