use Rattle.std.proofs.Common.{◌∙◌}
use Rattle.plan_rows.specs.World.{is_plan}
use Rattle.plan_rows.specs.Tables.{head_seen}
use Rattle.plan_rows.specs.RowTests.{same_key}
use Rattle.plan_rows.proofs.LookupLemmas.{position_as}
use Rattle.plan_rows.proofs.KeyedLemmas.{plan_key}
use Rattle.plan_rows.proofs.row_tests.places.Places.plan_at.Goals as goal

pub returns : goal.returns
returns c = λ o seen are. c.copied.ensures ∙ c.get.ensures.value ∙ are.plans (c.args.desk, c.args.n, 0, 0)
    ∙ position_as (λ row. same_key (c.args.desk.now, c.args.n, 0, 0)
    ((head_seen row).desk, (head_seen row).n, 0, 0))
    (λ row. is_plan c.args.desk.now c.args.n (head_seen row))
    (λ row. plan_key c.args.desk.now (head_seen row).desk c.args.n (head_seen row).n) seen
