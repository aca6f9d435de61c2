use Rattle.std.proofs.Common.{◌∙◌, ap}
use Rattle.std.specs.Prelude.{unwrap_or}
use Rattle.plan_rows.proofs.row_tests.places.Places.count_plans.Goals as goal

pub returns : goal.returns
returns c = λ o seen are. c.unwrap_or.ensures ∙ ap (λ o. unwrap_or o 0) (c.copied.ensures ∙ c.get.ensures.value) ∙ are.counts c.args.desk
