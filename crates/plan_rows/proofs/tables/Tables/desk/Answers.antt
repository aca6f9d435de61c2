use Rattle.std.proofs.Common.{◌∙◌, sym, ap}
use Rattle.plan_rows.specs.World.{is_desk}
use Rattle.plan_rows.specs.Tables.{desk_kept}
use Rattle.plan_rows.proofs.TableLemmas.{find_at_place, find_none_at}
use Rattle.plan_rows.proofs.tables.Tables.desk.Goals as goal

pub returns-in_default : goal.returns-in_default
returns-in_default c =
    rw (find_none_at desk_kept (is_desk c.args.name.now) c.args.self.now.desks.items (rw c.deref.ensures.value at (sym c.desk_at.ensures ∙ c.in_default.is))) tt

pub returns : goal.returns
returns c =
    rw (find_at_place desk_kept (is_desk c.args.name.now) c.args.self.now.desks.items c.in-Some.at c.index-row.result.now (rw c.deref.ensures.value at (sym c.desk_at.ensures ∙ c.in-Some.is)))
    (record { digest = ap (λ row. row.digest) c.index-row.ensures; next = ap (λ row. row.next) c.index-row.ensures })
