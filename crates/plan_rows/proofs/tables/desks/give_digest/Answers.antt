use Rattle.std.proofs.Common.{◌∙◌, sym, ap}
use Rattle.plan_rows.specs.World.{is_desk}
use Rattle.plan_rows.specs.Changes.{with_digest}
use Rattle.plan_rows.specs.Tables.{desk_kept}
use Rattle.plan_rows.proofs.TableLemmas.{changed_at, changed_none_at}
use Rattle.plan_rows.proofs.KeyLemmas.{one_desk}
use Rattle.plan_rows.proofs.tables.desks.give_digest.Goals as goal

pub returns-in-Some : goal.returns-in-Some
returns-in-Some c =
    changed_at desk_kept (is_desk c.args.desk.now) _ (one_desk c.args.desk.now) (with_digest c.args.digest.now)
    c.args.rows.now.items c.in-Some.at c.index_mut.result.now _ c.requires
    (rw c.deref.ensures.value at (sym c.desk_at.ensures ∙ c.in-Some.is))
    (ap (λ row. with_digest c.args.digest.now (desk_kept row)) c.index_mut.ensures.value)

pub returns-in_default : goal.returns-in_default
returns-in_default c =
    sym (changed_none_at desk_kept (is_desk c.args.desk.now) (with_digest c.args.digest.now) c.args.rows.now.items
    (rw c.deref.ensures.value at (sym c.desk_at.ensures ∙ c.in_default.is)))
