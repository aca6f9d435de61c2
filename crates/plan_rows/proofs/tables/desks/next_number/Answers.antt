use Rattle.std.proofs.Common.{◌∙◌, sym, ap}
use Rattle.plan_rows.specs.World.{is_desk}
use Rattle.plan_rows.specs.Changes.{next_of}
use Rattle.plan_rows.specs.Tables.{desk_kept}
use Rattle.plan_rows.proofs.TableLemmas.{find_at_place, find_none_at}
use Rattle.plan_rows.proofs.tables.desks.next_number.Goals as goal

pub returns-in-Some : goal.returns-in-Some
returns-in-Some c =
    sym (ap next_of (find_at_place desk_kept (is_desk c.args.desk.now) c.args.rows.now c.in-Some.at c.index-rows-at.result (sym c.desk_at.ensures ∙ c.in-Some.is)))

pub returns-in-None : goal.returns-in-None
returns-in-None c =
    sym (ap next_of (find_none_at desk_kept (is_desk c.args.desk.now) c.args.rows.now (sym c.desk_at.ensures ∙ c.in-None.is)))
