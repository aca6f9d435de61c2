use Rattle.std.proofs.Common.{◌∙◌}
use Rattle.plan_rows.specs.World.{is_desk}
use Rattle.plan_rows.specs.Tables.{desk_kept}
use Rattle.plan_rows.specs.RowTests.{same_key}
use Rattle.plan_rows.proofs.LookupLemmas.{position_as, key_text}
use Rattle.plan_rows.proofs.row_tests.places.Places.desk_at.Goals as goal

pub returns : goal.returns
returns c = λ o seen are. c.copied.ensures ∙ c.get.ensures.value ∙ are.desks (c.args.desk, 0, 0, 0)
    ∙ position_as (λ row. same_key (c.args.desk.now, 0, 0, 0) ((desk_kept row).desk, 0, 0, 0))
    (λ row. is_desk c.args.desk.now (desk_kept row))
    (λ row. key_text c.args.desk.now (desk_kept row).desk) o.desks.now
