use Rattle.std.proofs.Common.{◌∷◌, ◌++◌, [], Ok, Err, refl, sym, subst}
use Rattle.sqlite.specs.Held.{state}
use Rattle.plan_rows.specs.declared.rows.PlanEntry.{PlanEntry}
use Rattle.plan_rows.specs.Changes.{apply, AddPlan}
use Rattle.plan_rows.specs.Rules.{IsWorld}
use Rattle.plan_store.specs.Stores.{world_of}
use Rattle.plan_store.specs.BookCalls.{IsNextNumber, numbered_plan}
use Rattle.plan_store.proofs.NumberedLemmas.{numbered_now}
use Rattle.plan_store.proofs.BookCallLemmas.{changes_as}
use Rattle.plan_store.proofs.KeptLemmas.{sets_by, holds_same, holds_added, kept_made, kept_refused}
use Rattle.plan_store.proofs.changes.add_next.Goals as goal

pub add_numbered-requires-clause-kept : goal.add_numbered-requires-clause-kept
add_numbered-requires-clause-kept g c clean live =
    let old = state g.S.Store c.args.conn.now in
    let desk = c.args.desk.now in
    let next = subst (IsNextNumber old desk) (sym c.in_ok-n.ensures.same) c.requires.next in
    subst IsWorld (sym (numbered_now old c.requires.ready desk c.in_ok-n.n next c.args.kind c.args.name.now c.args.body.now clean live)) (c.requires.kept clean live)

pub returns-in-Ok-clause-changes : goal.returns-in-Ok-clause-changes
returns-in-Ok-clause-changes g c =
    let old = state g.S.Store c.args.conn.now in
    let new = state g.S.Store c.add_numbered.new.conn in
    let desk = c.args.desk.now in
    let n = c.in_ok-n.n in
    let kind = c.args.kind in
    let name = c.args.name.now in
    let body = c.args.body.now in
    let next = subst (IsNextNumber old desk) (sym c.in_ok-n.ensures.same) c.requires.next in
    changes_as old new (numbered_plan desk n kind name body) (apply desk (AddPlan kind name body))
    (numbered_now old c.requires.ready desk n next kind name body) (Ok tt) c.in-Ok.ensures

pub returns-in-Err-clause-changes : goal.returns-in-Err-clause-changes
returns-in-Err-clause-changes g c =
    let old = state g.S.Store c.args.conn.now in
    let new = state g.S.Store c.add_numbered.new.conn in
    let desk = c.args.desk.now in
    let n = c.in_ok-n.n in
    let kind = c.args.kind in
    let name = c.args.name.now in
    let body = c.args.body.now in
    let next = subst (IsNextNumber old desk) (sym c.in_ok-n.ensures.same) c.requires.next in
    changes_as old new (numbered_plan desk n kind name body) (apply desk (AddPlan kind name body))
    (numbered_now old c.requires.ready desk n next kind name body) (Err c.in-Err.fault) c.in-Err.ensures

pub returns-in-Ok-clause-plans : goal.returns-in-Ok-clause-plans
returns-in-Ok-clause-plans g c =
    let old = state g.S.Store c.args.conn.now in
    let new = state g.S.Store c.add_numbered.new.conn in
    let desk = c.args.desk.now in
    let n = c.in_ok-n.n in
    let kind = c.args.kind in
    let name = c.args.name.now in
    let body = c.args.body.now in
    let number = subst (IsNextNumber old desk) (sym c.in_ok-n.ensures.same) c.requires.next in
    let made = changes_as old new (numbered_plan desk n kind name body) (apply desk (AddPlan kind name body))
    (numbered_now old c.requires.ready desk n number kind name body) (Ok tt) c.in-Ok.ensures in
    let before = c.args.plans.now in
    let mid = c.make_list.new.self in
    let after = c.set_list.new.self in
    let entry : PlanEntry = record { n = c.args.next; kind = kind } in
    let adds = sets_by (λ l. l ++ entry ∷ []) mid after desk c.in_ok-list.list.items c.in_ok-list.ensures c.set_list.ensures in
    kept_made old new (apply desk (AddPlan kind name body)) before after made
    (λ clean live holds. holds_added old desk c.args.next kind name body mid after entry c.requires.next refl adds clean live
    (holds_same (world_of old.now.trees).plans before mid holds c.in_ok-make_list.ensures.same)) c.requires.plans

pub returns-in-Err-clause-plans : goal.returns-in-Err-clause-plans
returns-in-Err-clause-plans g c =
    let old = state g.S.Store c.args.conn.now in
    let new = state g.S.Store c.add_numbered.new.conn in
    kept_refused old new _ c.args.plans.now c.make_list.new.self c.in-Err.fault c.in-Err.ensures c.in_ok-make_list.ensures.same c.requires.plans
