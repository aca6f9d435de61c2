use Rattle.std.proofs.Common.{◌≡◌, ◌∙◌, ◌<◌, sym, ap, subst, arith, get_or, IfSome}
use Rattle.plan_rows.specs.World.{is_desk}
use Rattle.plan_rows.specs.Changes.{risen}
use Rattle.plan_rows.specs.Tables.{desk_kept}
use Rattle.plan_rows.proofs.TableLemmas.{changed_at, changed_none_at, find_at_place}
use Rattle.plan_rows.proofs.KeyLemmas.{one_desk}
use Rattle.plan_rows.proofs.tables.desks.raise_next.Goals as goal

pub overflow_add-index_mut : goal.overflow_add-index_mut
overflow_add-index_mut c =
    let found = find_at_place desk_kept (is_desk c.args.desk.now) c.args.rows.now.items c.in-Some.at c.index_mut.result.now
    (rw c.deref.ensures.value at (sym c.desk_at.ensures ∙ c.in-Some.is)) in
    let low : (get_or c.args.rows.now.items c.in-Some.at c.index_mut.result.now).next < 1000002 =
    subst (λ o. IfSome o (λ row. row.next < 1000002)) found c.requires.low in
    let same : c.index_mut.result.now.next ≡ (get_or c.args.rows.now.items c.in-Some.at c.index_mut.result.now).next = ap (λ row. row.next) c.index_mut.ensures.value in
    omega (arith, low, same)

pub returns-in-Some : goal.returns-in-Some
returns-in-Some c =
    changed_at desk_kept (is_desk c.args.desk.now) _ (one_desk c.args.desk.now) risen
    c.args.rows.now.items c.in-Some.at c.index_mut.result.now _ c.requires.differ
    (rw c.deref.ensures.value at (sym c.desk_at.ensures ∙ c.in-Some.is))
    (ap (λ row. risen (desk_kept row)) c.index_mut.ensures.value)

pub returns-in_default : goal.returns-in_default
returns-in_default c =
    sym (changed_none_at desk_kept (is_desk c.args.desk.now) risen c.args.rows.now.items
    (rw c.deref.ensures.value at (sym c.desk_at.ensures ∙ c.in_default.is)))
